use Rattle.mix_descent.proofs.tests.climbs_to_the_least_point.Given as goal

abbrev pub ghosts-end_of : goal.ghosts-end_of
ghosts-end_of g a = record { name = a.blank.name; parts = a.blank.parts }
