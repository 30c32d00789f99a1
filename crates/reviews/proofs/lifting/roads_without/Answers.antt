use Rattle.std.proofs.Common.{get_or, length, List, sym, ap, ◌∙◌, subst, arith}
use Rattle.std.proofs.lemmas.List.{length-map}
use Rattle.std.proofs.lemmas.Option.{get_or_from_slice_get}
use Rattle.cohorts.specs.declared.pin.Pin.TheVariants as pin
use Rattle.payload_graph.specs.Net.{doors_of}
use Rattle.payload_graph.specs.Soundness.{AreNumbered}
use Rattle.payload_graph.specs.declared.door.Door.{Door}
use Rattle.catalogue.specs.declared.content.Release.{Release}
use Rattle.reviews.specs.Lifts.{lifted_cohort, lifted_release, lifted_releases}
use Rattle.reviews.proofs.ChainLemmas.{AreNumbered-doors_of, length-doors_of}
use Rattle.reviews.proofs.LiftLemmas.{doors_of-lifted}
use Rattle.reviews.proofs.lifting.roads_without.Goals as goal

pub returns-clause-roads : goal.returns-clause-roads
returns-clause-roads c =
    let own = get_or c.args.releases.now c.args.target c.index-releases-target.result in
    let releases = lifted_releases c.args.cause own.version c.args.releases.now in
    let cohort = lifted_cohort c.args.cause c.args.cohort.now in
    let size = length-doors_of cohort pin.Any releases ∙ length-map c.args.releases.now (lifted_release c.args.cause own.version) in
    let doors = c.in_ok-doors.ensures ∙ doors_of-lifted c.args.cause own.version cohort pin.Any c.args.releases.now in
    let same = ap length doors in
    record {
      within = omega arith;
      numbered = subst (λ (doors : List Door). AreNumbered doors) (sym doors) (AreNumbered-doors_of cohort pin.Any releases c.index-releases-target.result);
    }

pub returns-clause-doors : goal.returns-clause-doors
returns-clause-doors c = λ release there.
    let own = get_or_from_slice_get c.args.releases.now c.args.target release c.index-releases-target.result there in
    c.in_ok-doors.ensures
    ∙ doors_of-lifted c.args.cause (get_or c.args.releases.now c.args.target c.index-releases-target.result).version
    (lifted_cohort c.args.cause c.args.cohort.now) pin.Any c.args.releases.now
    ∙ ap (λ (r : Release). doors_of (lifted_cohort c.args.cause c.args.cohort.now) pin.Any (lifted_releases c.args.cause r.version c.args.releases.now)) own
