use Rattle.std.proofs.Common.{◌≡◌, ℕ, ◌+◌, ◌≤◌, List, [], ◌∷◌, ◌++◌, get_or, length, sym, ap, ◌∙◌, subst, arith}
use Rattle.catalogue.specs.declared.content.App.{App}
use Rattle.catalogue.specs.declared.content.Cohort.{Cohort}
use Rattle.payload_graph.specs.declared.payload.TrackKey.{TrackKey}
use Rattle.par_tables.proofs.PlacingLemmas.{ArePlacesOf-more, IsPartial, IsPartial-first, IsPartial-more}
use Rattle.par_tables.specs.Tables.{nets_of}
use Rattle.par_tables.specs.Tracks.{cohort_keys}
use Rattle.par_tables.proofs.places.push_app.Goals as goal

pub loop-index-init : goal.loop-index-init
loop-index-init c =
    let places = c.args.places.now in
    let pushed : c.push.new.self.items ≡ places.firsts.items ++ length places.starts.items ∷ [] = c.in_ok-push.ensures.items ∙ ap (λ n. places.firsts.items ++ n ∷ []) (c.len.ensures ∙ places.starts.ok.0) in
    subst (λ (firsts : List ℕ). IsPartial c.args.catalogue.now c.args.app (length places.starts.items) 0 c.as_slice-cohorts.result.now firsts places.starts.items places.count) (sym pushed)
    (IsPartial-first c.args.catalogue.now c.args.app c.as_slice-cohorts.result.now places c.requires.places)

pub loop-index-preserved : goal.loop-index-preserved
loop-index-preserved c =
    let apps = c.args.catalogue.now in
    let first = length c.args.places.now.starts.items in
    let places = c.loop-index.places in
    let app = c.args.app in
    let index = c.loop-index.index in
    let cohorts = c.as_slice-cohorts.result.now in
    let cohort = c.index-cohorts-index.result in
    let listed : c.as_slice.result.now ≡ cohort_keys app index (get_or cohorts index cohort) =
    c.as_slice.ensures.value ∙ c.in_ok-listed.ensures ∙ ap (cohort_keys app index) c.index-cohorts-index.is in
    let more : c.count_targets-own.result ≡ length (nets_of apps (cohort_keys app index (get_or cohorts index cohort))) =
    c.count_targets-own.ensures ∙ ap (λ (keys : List TrackKey). length (nets_of apps keys)) listed in
    subst (λ (starts : List ℕ). IsPartial apps app first (index + 1) cohorts places.firsts.items starts c.in_ok-places.field-0) (sym c.in_ok-push-2.ensures.items)
    (IsPartial-more apps app first index cohorts cohort places.firsts.items places.starts.items places.count c.count_targets-own.result c.in_ok-places.field-0 c.loop-index.invariant c.loop-index-test.true more c.in_ok-places.ensures)

pub returns : goal.returns
returns c =
    let apps = c.args.catalogue.now in
    let app = c.args.app in
    let there = c.index-apps-app.result in
    let first = length c.args.places.now.starts.items in
    let places = c.loop-index.places in
    let own : c.as_slice-cohorts.result.now ≡ (get_or apps app there).cohorts = c.as_slice-cohorts.ensures ∙ ap (λ (those : List App). (get_or those app there).cohorts) c.apps.ensures in
    let sized = ap length own in
    let last : length (get_or apps app there).cohorts ≤ c.loop-index.index = omega arith in
    ArePlacesOf-more apps app first c.loop-index.index there places c.requires.there last
    (subst (λ (cohorts : List Cohort). IsPartial apps app first c.loop-index.index cohorts places.firsts.items places.starts.items places.count) own c.loop-index.invariant)
