-- The name of the ledger: that of the blank.
use Rattle.update_client.proofs.connecting.read_from.Given as goal

abbrev pub ghosts-read_on : goal.ghosts-read_on
ghosts-read_on g a = record { name = a.reads.name; parts = a.reads.parts }
