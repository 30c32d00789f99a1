use Rattle.std.proofs.Output.{has_written_of_eq}
use Rattle.std.proofs.lemmas.List.{append_assoc}
use Rattle.omaha_histories.proofs.restarts.listing.RecordLineDisplay.fmt.Goals as goal

pub returns-clause-writes : goal.returns-clause-writes
returns-clause-writes g c = λ plain done.
    has_written_of_eq g.W.Write.write_str_gives _ _ _ _ (simp append_assoc) (c.write.ensures.writes plain done)
