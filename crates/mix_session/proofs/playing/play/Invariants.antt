use Rattle.mix_session.proofs.playing.play.Given as goal

abbrev pub ghosts-texts_of : goal.ghosts-texts_of
ghosts-texts_of a = record { name = a.blank.name; parts = a.blank.parts }
