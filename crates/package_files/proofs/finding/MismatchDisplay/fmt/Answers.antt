use Rattle.std.proofs.Output.{has_written_of_eq}
use Rattle.std.proofs.lemmas.List.{append_assoc}
use Rattle.package_files.proofs.finding.MismatchDisplay.fmt.Goals as goal

pub returns-in-Size-clause-writes : goal.returns-in-Size-clause-writes
returns-in-Size-clause-writes g c = λ plain done.
    has_written_of_eq g.W.Write.write_str_gives _ _ _ _ (simp (c.in-Size.is, append_assoc)) (c.write.ensures.writes plain done)
