use Rattle.std.proofs.Common.{◌≡◌, List, [], ◌++◌, get_or, take, sym, ap, ◌∙◌, Option, arith}
use Rattle.std.specs.Option.{option_map_or}
use Rattle.std.proofs.lemmas.List.{append_assoc, take_all}
use Rattle.std.proofs.lemmas.Option.{slice_get-get_or}
use Rattle.catalogue.specs.declared.content.App.{App}
use Rattle.catalogue.specs.declared.content.Cohort.{Cohort}
use Rattle.payload_graph.specs.declared.payload.TrackKey.{TrackKey}
use Rattle.par_tables.specs.Tracks.{app_keys, cohort_keys, joined_from}
use Rattle.par_tables.proofs.JoinLemmas.{joined_from-more}
use Rattle.par_tables.proofs.tracks.push_app.Goals as goal

pub loop-index-preserved : goal.loop-index-preserved
loop-index-preserved c =
    let app = c.args.app in
    let index = c.loop-index.index in
    let cohorts = c.cohorts-cohorts.result.now in
    let cohort = c.index-cohorts-index.result in
    let before = joined_from app_keys 0 (take app c.args.catalogue.now) in
    let own : c.as_slice.result.now ≡ cohort_keys app index (get_or cohorts index cohort) =
    c.as_slice.ensures.value ∙ c.in_ok-own.ensures ∙ ap (cohort_keys app index) c.index-cohorts-index.is in
    c.in_ok-extend_from_slice.ensures.items
    ∙ ap (λ (keys : List TrackKey). keys ++ c.as_slice.result.now) c.loop-index.invariant
    ∙ ap (λ (keys : List TrackKey). (before ++ joined_from (cohort_keys app) 0 (take index cohorts)) ++ keys) own
    ∙ append_assoc before (joined_from (cohort_keys app) 0 (take index cohorts)) (cohort_keys app index (get_or cohorts index cohort))
    ∙ ap (λ (keys : List TrackKey). before ++ keys) (sym (joined_from-more (cohort_keys app) cohorts index cohort c.loop-index-test.true))

none : App
none = record { id = []; cohorts = []; releases = []; diffs = [] }

pub returns : goal.returns
returns c =
    let apps = c.args.catalogue.now in
    let app = c.args.app in
    let there = get_or apps app none in
    let before = joined_from app_keys 0 (take app apps) in
    let own : c.cohorts-cohorts.result.now ≡ there.cohorts =
    c.cohorts-cohorts.ensures ∙ ap (λ (o : Option App). option_map_or (λ (a : App). a.cohorts) o []) (slice_get-get_or apps app none c.requires.there) in
    let whole = take_all c.loop-index.index c.cohorts-cohorts.result.now (omega arith) in
    c.loop-index.invariant
    ∙ ap (λ (cohorts : List Cohort). before ++ joined_from (cohort_keys app) 0 cohorts) (whole ∙ own)
    ∙ sym (joined_from-more app_keys apps app none c.requires.there)
