use Rattle.mix_solve.proofs.tests.finds_the_same_least_prices_however_it_looks.Given as goal

abbrev pub ghosts-climbed : goal.ghosts-climbed
ghosts-climbed g a = record { name = a.blank.name; parts = a.blank.parts }

abbrev pub ghosts-found_near : goal.ghosts-found_near
ghosts-found_near g a = record { name = a.blank.name; parts = a.blank.parts }
