use Rattle.std.proofs.Common.{sym, ap, ◌∙◌}
use Rattle.catalogue.specs.Lookups.{place_of}
use Rattle.reviews.specs.Lifts.{lifted_release}
use Rattle.reviews.specs.declared.cause.Cause.{Cause}
use Rattle.reviews.proofs.LiftLemmas.{floor-lifted}
use Rattle.reviews.proofs.lifting.floor_without.Goals as goal

pub returns-in-Floor : goal.returns-in-Floor
returns-in-Floor c =
    c.floor_of.ensures
    ∙ ap (λ v. place_of v c.args.releases.now) c.zero.ensures
    ∙ sym (ap (λ (cause : Cause). place_of (lifted_release cause c.args.target.now c.args.release.now).floor c.args.releases.now) c.in-Floor.is)

pub returns-in_default : goal.returns-in_default
returns-in_default c =
    c.floor_of-in_default.ensures
    ∙ sym (ap (λ v. place_of v c.args.releases.now) (floor-lifted c.args.cause c.args.target.now c.args.release.now c.in_default.not-Floor))
