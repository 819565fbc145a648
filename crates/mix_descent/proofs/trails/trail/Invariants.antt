use Rattle.mix_descent.proofs.trails.trail.Given as goal

abbrev pub ghosts-from_reserves : goal.ghosts-from_reserves
ghosts-from_reserves g a = record { name = a.blank.name; parts = a.blank.parts }
