use Rattle.std.proofs.Common.{◌≡◌, List, None, Option, Some, sym, ap, ◌∙◌}
use Rattle.std.specs.List.{slice_get}
use Rattle.std.specs.Option.{is_some, option_and_then, option_map}
use Rattle.std.proofs.lemmas.Option.{slice_get-get_or, slice_get_past}
use Rattle.catalogue.specs.declared.content.Cohort.{Cohort}
use Rattle.catalogue.specs.declared.content.Release.{Release}
use Rattle.cohorts.specs.Offers.{track_target}
use Rattle.payload_graph.specs.Chains.{cohort_target}
use Rattle.payload_graph.specs.Net.{net_of}
use Rattle.par_tables.proofs.ReleasedLemmas.{is_some-net_in}
use Rattle.par_tables.proofs.tracks.has_target_in.Goals as goal

pub returns-in-Some : goal.returns-in-Some
returns-in-Some c =
    let app = c.args.app.now in
    let index = c.args.key.now.cohort in
    let cohort = c.in-Some.cohort.now in
    let there : slice_get app.cohorts index ≡ Some cohort =
    ap (λ (cohorts : List Cohort). slice_get cohorts index) (sym c.as_slice.ensures)
    ∙ slice_get-get_or c.as_slice.result.now index cohort c.in-Some.ensures.lookup.3.0
    ∙ ap (λ (d : Cohort). Some d) (sym c.in-Some.ensures.lookup.1) in
    c.is_some.ensures ∙ ap is_some c.track_target.ensures
    ∙ ap (λ (releases : List Release). is_some (track_target releases cohort c.args.key.now.lane c.args.key.now.pin)) c.as_slice-in-Some.ensures
    ∙ is_some-net_in app c.args.key.now cohort c.requires there

pub returns-in-None : goal.returns-in-None
returns-in-None c =
    let app = c.args.app.now in
    let key = c.args.key.now in
    let there : slice_get app.cohorts key.cohort ≡ None =
    ap (λ (cohorts : List Cohort). slice_get cohorts key.cohort) (sym c.as_slice.ensures)
    ∙ slice_get_past c.as_slice.result.now key.cohort c.in-None.ensures.lookup.3 in
    sym (ap (λ (found : Option Cohort). is_some (option_and_then (λ d. option_map (net_of app key d) (cohort_target app d key)) found)) there)
