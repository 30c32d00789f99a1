use Rattle.std.proofs.Common.{◌≡◌, List, length, replicate, [], ◌∷◌, sym, subst, rules}
use Rattle.reviews.specs.Reasons.{AreFirst}
use Rattle.reviews.specs.declared.cause.Cause.TheVariants.{Audience, Stone, Floor, Downgrade}
use Rattle.reviews.specs.declared.cause.Reason.{Reason}
use Rattle.reviews.specs.declared.cause.Reason.TheVariants.{Several}
use Rattle.reviews.proofs.ReasonLemmas.{AreFirst-none}
use Rattle.reviews.proofs.reasons.Subject.reasons.Goals as goal

pub returns : goal.returns
returns c =
    let app = c.args.self.now.app.now in
    let key = c.args.self.now.key.now in
    let start : c.in_ok-none.none.items ≡ replicate (length app.releases) Several = search rules in
    let none = subst (λ (reasons : List Reason). AreFirst app key [] reasons) (sym start) (AreFirst-none app key) in
    let downgrade = c.in_ok-downgrade.ensures.first [] none in
    let floor = c.in_ok-floor.ensures.first (Downgrade ∷ []) downgrade in
    let stone = c.in_ok-stone.ensures.first (Floor ∷ Downgrade ∷ []) floor in
    let audience = c.in_ok-audience.ensures.first (Stone ∷ Floor ∷ Downgrade ∷ []) stone in
    c.in_ok-withdrawn.ensures.first (Audience ∷ Stone ∷ Floor ∷ Downgrade ∷ []) audience
