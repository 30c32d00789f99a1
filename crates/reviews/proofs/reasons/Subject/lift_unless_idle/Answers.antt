use Rattle.std.proofs.Common.{◌≡◌, ℕ, List, true, get_or, sym, ap, ◌∙◌}
use Rattle.std.proofs.lemmas.Option.{get_or_from_slice_get}
use Rattle.catalogue.specs.declared.content.Release.{Release}
use Rattle.reviews.specs.Lifts.{is_idle, target_version}
use Rattle.reviews.proofs.IdleLemmas.{AreFirst-idle}
use Rattle.reviews.proofs.LiftLemmas.{HasRelease-target, IsLifted-track}
use Rattle.reviews.proofs.reasons.Subject.lift_unless_idle.Goals as goal

pub returns-then-is_idle-clause-first : goal.returns-then-is_idle-clause-first
returns-then-is_idle-clause-first c =
    let app = c.args.self.now.app.now in
    let key = c.args.self.now.key.now in
    let cohort = c.args.self.now.cohort.now in
    let cause = c.args.cause in
    let target = c.args.self.now.target in
    let track = c.requires.track in
    let has = HasRelease-target app cohort key target track.target_there in
    let is = IsLifted-track cause app key cohort target has.release track has.there has.targeted in
    let own = get_or_from_slice_get app.releases target has.release c.index-releases-self.result has.there in
    let idle : is_idle cause (target_version app key) app.releases ≡ true =
    ap (λ (v : List ℕ). is_idle cause v app.releases) (is.version ∙ ap (λ (r : Release). r.version) (sym own))
    ∙ ap (λ (xs : List Release). is_idle cause (get_or xs target c.index-releases-self.result).version xs) (sym c.as_slice-releases.ensures)
    ∙ sym c.is_idle.ensures ∙ c.if-is_idle.true in
    λ causes first. AreFirst-idle cause app key causes c.args.reasons.items idle first
