-- The names of the ledgers: those of the blanks.
use Rattle.http_rows.proofs.device_tests.comes_to_its_ends.Given as goal

abbrev pub ghosts-read_thrice : goal.ghosts-read_thrice
ghosts-read_thrice a = record { name = a.blank.name; parts = a.blank.parts }

abbrev pub ghosts-write_thrice : goal.ghosts-write_thrice
ghosts-write_thrice a = record { name = a.blank.name; parts = a.blank.parts }
