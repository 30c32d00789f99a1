use Rattle.cohorts.specs.declared.pin.Pin.TheVariants as pin
use Rattle.reviews.specs.Lifts.{lifted_cohort}
use Rattle.reviews.proofs.LiftLemmas.{door_of-lifted}
use Rattle.reviews.proofs.lifting.door_without.Goals as goal

pub returns : goal.returns
returns c =
    door_of-lifted c.args.cause c.args.target.now (lifted_cohort c.args.cause c.args.cohort.now) pin.Any c.args.releases.now c.args.to
    c.args.release.now c.is_offered_without.result c.is_stone_without.result c.floor_without.result c.is_offered_without.ensures
    c.is_stone_without.ensures c.floor_without.ensures
