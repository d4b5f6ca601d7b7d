use Rattle.gi_normalise_tests.proofs.driven.is_driven.Given as goal

abbrev pub ghosts-drive : goal.ghosts-drive
ghosts-drive a = record { name = a.blank.name; parts = a.blank.parts }
