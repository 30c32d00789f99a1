-- The names of the ledgers: those of the blanks.
use Rattle.update_client.proofs.connecting.open_by.Given as goal

abbrev pub ghosts-open_on-A-Ledger : goal.ghosts-open_on-A-Ledger
ghosts-open_on-A-Ledger g a = record { name = a.reads.name; parts = a.reads.parts }

abbrev pub ghosts-open_on-B-Ledger : goal.ghosts-open_on-B-Ledger
ghosts-open_on-B-Ledger g a = record { name = a.writes.name; parts = a.writes.parts }
