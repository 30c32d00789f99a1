use Rattle.std.proofs.Common.{List, ap, ◌∙◌}
use Rattle.std.specs.List.{slice_get}
use Rattle.catalogue.specs.declared.content.Release.{Release}
use Rattle.cohorts.specs.declared.pin.Pin.TheVariants as pin
use Rattle.payload_graph.specs.Net.{doors_of}
use Rattle.reviews.specs.Lifts.{lifted_cohort, lifted_releases}
use Rattle.reviews.proofs.ReasonLemmas.{AreFreedAs-roads}
use Rattle.reviews.proofs.reasons.Subject.searched_without.Goals as goal

pub returns : goal.returns
returns c =
    let cohort = lifted_cohort c.args.cause c.args.self.now.cohort.now in
    AreFreedAs-roads c.fulls.ensures c.args.cause c.args.self.now.app.now c.args.self.now.key.now c.args.self.now.cohort.now
    c.args.self.now.target c.in_ok-roads.roads c.in_ok-flags.flags.items c.requires c.in_ok-roads.ensures.target
    c.in_ok-roads.ensures.rollback
    (λ release there.
    c.in_ok-roads.ensures.doors release (ap (λ (xs : List Release). slice_get xs c.args.self.now.target) c.as_slice-releases.ensures ∙ there)
    ∙ ap (λ (xs : List Release). doors_of cohort pin.Any (lifted_releases c.args.cause release.version xs)) c.as_slice-releases.ensures)
    c.in_ok-flags.ensures.sized c.in_ok-flags.ensures.routed
