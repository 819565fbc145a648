use Rattle.mix_range.proofs.tests.rises_to_the_ceiling_while_nothing_changes.Given as goal

abbrev pub ghosts-greatest_at : goal.ghosts-greatest_at
ghosts-greatest_at g a = record { name = a.blank.name; parts = a.blank.parts }
