use Rattle.mix_fall.proofs.tests.falls_along_the_largest_set_above_the_floor.Given as goal

abbrev pub ghosts-fall_at : goal.ghosts-fall_at
ghosts-fall_at g a = record { name = a.blank.name; parts = a.blank.parts }
