use Rattle.std.proofs.Common.{subst, sym, ◌∙◌}
use Rattle.http_wire.specs.Lengths.{IsLengthOf}
use Rattle.http_wire.proofs.LengthLemmas.{IsLengthOf-known, IsLengthOf-refused, IsLengthOf-twice}
use Rattle.http_wire.proofs.heads.body_length.Length.then.Goals as goal

pub returns-in-Ok : goal.returns-in-Ok
returns-in-Ok c =
    λ before stands. IsLengthOf-known before c.args.value.now c.in-Ok.length
    (subst (λ kept. IsLengthOf kept before) c.in-Missing.is stands) (sym c.read_length.ensures ∙ c.in-Ok.is)

pub returns-in-Err : goal.returns-in-Err
returns-in-Err c =
    λ before stands. IsLengthOf-refused before c.args.value.now c.in-Err.status
    (subst (λ kept. IsLengthOf kept before) c.in-Missing.is stands) (sym c.read_length.ensures ∙ c.in-Err.is)

pub returns-in_default : goal.returns-in_default
returns-in_default c =
    λ before stands. IsLengthOf-twice c.args.self before c.args.value.now c.in_default.not-Missing stands
