use Rattle.mix_tests.proofs.counted.counted_sets.Given as goal

abbrev pub ghosts-search_once : goal.ghosts-search_once
ghosts-search_once g a = record { name = a.blank.name; parts = a.blank.parts }
