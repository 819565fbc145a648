use Rattle.mix_range.proofs.tests.finds_the_largest_set_that_may_rise.Given as goal

abbrev pub ghosts-rise_at : goal.ghosts-rise_at
ghosts-rise_at g a = record { name = a.blank.name; parts = a.blank.parts }
