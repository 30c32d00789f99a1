-- The names of the ledgers: those of the blanks.
use Rattle.update_client.proofs.connecting.post_once.Given as goal

abbrev pub ghosts-post_on-A-Ledger : goal.ghosts-post_on-A-Ledger
ghosts-post_on-A-Ledger g a = record { name = a.reads.name; parts = a.reads.parts }

abbrev pub ghosts-post_on-B-Ledger : goal.ghosts-post_on-B-Ledger
ghosts-post_on-B-Ledger g a = record { name = a.writes.name; parts = a.writes.parts }
