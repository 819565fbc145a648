use Rattle.mix_descent.proofs.tests.finds_the_least_point_whatever_the_guess.Given as goal

abbrev pub ghosts-found_near : goal.ghosts-found_near
ghosts-found_near g a = record { name = a.blank.name; parts = a.blank.parts }
