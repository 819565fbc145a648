use Rattle.mix_run.proofs.command.range.highest.Given as goal

abbrev pub ghosts-search : goal.ghosts-search
ghosts-search a = record { name = a.blank.name; parts = a.blank.parts }
