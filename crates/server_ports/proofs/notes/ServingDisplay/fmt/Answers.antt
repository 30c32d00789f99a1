use Rattle.std.proofs.Output.{has_written_of_eq}
use Rattle.std.proofs.lemmas.List.{append_assoc}
use Rattle.server_ports.proofs.notes.ServingDisplay.fmt.Goals as goal

pub returns-in-Some-clause-writes : goal.returns-in-Some-clause-writes
returns-in-Some-clause-writes g c = λ plain done.
    has_written_of_eq g.W.Write.write_str_gives _ _ _ _
    (simp (c.in-Some.is, c.as_str-operator.ensures, c.as_str-address.ensures, append_assoc)) (c.write.ensures.writes plain done)

pub returns-in-None-clause-writes : goal.returns-in-None-clause-writes
returns-in-None-clause-writes g c = λ plain done.
    has_written_of_eq g.W.Write.write_str_gives _ _ _ _
    (simp (c.in-None.is, c.as_str-address.ensures, append_assoc)) (c.write-in-None.ensures.writes plain done)
