use Rattle.std.proofs.Common.{ℕ, List, inr, subst}
use Rattle.profiles.specs.Profiles.{IsMade, service_of_bytes}
use Rattle.omaha_commands.proofs.judging.published.Goals as goal

pub returns-in-Ok : goal.returns-in-Ok
returns-in-Ok g c =
    let P : List ℕ → Type 0 = λ bytes. IsMade (service_of_bytes bytes) c.read_service.result in
    inr (c.in-Ok.reply, c.in-Ok.ensures.ok, c.if-ask-eq200.true, subst P c.as_slice.ensures.value c.read_service.ensures)
