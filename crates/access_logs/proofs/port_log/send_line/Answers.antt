use Rattle.std.proofs.Common.{inl, inr}
use Rattle.access_logs.proofs.SeenLemmas.{IsLineOf-of}
use Rattle.access_logs.proofs.port_log.send_line.Goals as goal

pub returns-in-Ok-clause-logs : goal.returns-in-Ok-clause-logs
returns-in-Ok-clause-logs c = λ slot piece saw.
    elim c.send.ensures.sends [
      | inl sends ↦ inl (
        c.deref.result.now,
        IsLineOf-of piece c.args.seen.now c.entry.result c.deref.result.now saw (c.entry.ensures piece saw)
            (rw c.deref.ensures.value c.in-Ok.ensures),
        sends,
      )
      | inr loses ↦ inr loses
    ]
