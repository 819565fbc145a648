use Rattle.mix_fall.proofs.tests.falls_far_where_the_function_stays.Given as goal

abbrev pub ghosts-end_of : goal.ghosts-end_of
ghosts-end_of g a = record { name = a.blank.name; parts = a.blank.parts }
