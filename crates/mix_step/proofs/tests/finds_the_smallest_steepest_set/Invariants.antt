use Rattle.mix_step.proofs.tests.finds_the_smallest_steepest_set.Given as goal

abbrev pub ghosts-step_at : goal.ghosts-step_at
ghosts-step_at g a = record { name = a.blank.name; parts = a.blank.parts }
