use Rattle.std.proofs.Common.{◌≡◌, List, Some, true, get_or, length, replicate, refl, sym, ap, ◌∙◌, subst, rules}
use Rattle.std.specs.List.{slice_get}
use Rattle.std.proofs.lemmas.Option.{slice_get_read}
use Rattle.catalogue.specs.declared.content.Release.{Release}
use Rattle.reviews.specs.Lifts.{is_open_way}
use Rattle.reviews.specs.Reasons.{AreFreedAs}
use Rattle.reviews.specs.declared.cause.Cause.TheVariants.{Downgrade}
use Rattle.reviews.proofs.LiftLemmas.{HasRelease-target}
use Rattle.reviews.proofs.OpenLemmas.{AreFreedAs-open}
use Rattle.reviews.proofs.reasons.Subject.freed_by_downgrades.Goals as goal

pub returns-then-is_open_way : goal.returns-then-is_open_way
returns-then-is_open_way c =
    let app = c.args.self.now.app.now in
    let key = c.args.self.now.key.now in
    let cohort = c.args.self.now.cohort.now in
    let target = c.args.self.now.target in
    let release = c.index-releases-self.result in
    let has = HasRelease-target app cohort key target c.requires.target_there in
    let all : c.in_ok-flags.flags.items ≡ replicate (length app.releases) true = search rules in
    let there : slice_get app.releases target ≡ Some release =
    slice_get_read app.releases (length app.releases) target release refl has.within
    (c.index-releases-self.is ∙ ap (λ (xs : List Release). get_or xs target release) c.as_slice-releases.ensures) in
    let way : is_open_way cohort app.releases release ≡ true =
    ap (λ (xs : List Release). is_open_way cohort xs release) (sym c.as_slice-releases.ensures) ∙ sym c.is_open_way.ensures ∙ c.if-is_open_way.true in
    subst (AreFreedAs app key Downgrade) (sym all) (AreFreedAs-open c.fulls.ensures app key cohort target release c.requires there way)
