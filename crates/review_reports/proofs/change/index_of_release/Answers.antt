use Rattle.std.proofs.Common.{◌≡◌, true, sym, ◌∙◌, subst}
use Rattle.std.specs.Str.{bytes_eq}
use Rattle.catalogue.specs.declared.content.Release.{Release}
use Rattle.review_reports.proofs.VersionLemmas.{position-there}
use Rattle.review_reports.proofs.change.index_of_release.Goals as goal

pub returns-in-Some : goal.returns-in-Some
returns-in-Some c =
    let item = c.in-Some.ensures.lookup in
    let version = c.args.version.now in
    position-there c.order.ensures.irreflexive version c.args.releases.now c.args.first c.in-Some.release.now c.requires item.3.0
    (subst (λ (release : Release). bytes_eq version release.version ≡ true) item.1 (sym c.is_equal.ensures.tested ∙ c.if-is_equal.true))
