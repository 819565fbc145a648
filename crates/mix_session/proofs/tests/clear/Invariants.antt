use Rattle.mix_session.proofs.tests.clear.Given as goal

abbrev pub ghosts-clear_on : goal.ghosts-clear_on
ghosts-clear_on a = record { name = a.blank.name; parts = a.blank.parts }
