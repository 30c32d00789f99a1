-- A graph is read of its source.
use Rattle.std.proofs.Common.{◌≡◌, ℕ, List, [], Option, None, Some, refl, sym, ap, ◌∙◌}
use Rattle.std.specs.List.{position, slice_get}
use Rattle.std.specs.Option.{option_and_then, option_map}
use Rattle.catalogue.specs.declared.content.App.{App}
use Rattle.catalogue.specs.declared.content.Cohort.{Cohort}
use Rattle.catalogue.specs.Lookups.{is_release}
use Rattle.cohorts.specs.Offers.{pinned_target, target_of}
use Rattle.cohorts.specs.declared.track.Lane.{Lane}
use Rattle.cohorts.specs.declared.track.Lane.TheVariants.{Target, Held}
use Rattle.payload_graph.specs.Chains.{cohort_target}
use Rattle.payload_graph.specs.declared.payload.TrackKey.{TrackKey}
use Rattle.payload_graph.specs.Net.{Net, net_among, net_in, net_of}
use Rattle.par_tables.specs.Sources.{Source, cohort_read, source_at, source_in, source_of}

-- an app of a source's releases and differentials
abbrev app_of : Source → App
app_of source = record { id = []; cohorts = []; releases = source.releases; diffs = source.diffs }

-- the graph of a key by its source
abbrev net_by : TrackKey → Source → Option Net
net_by key source =
    option_map (net_of (app_of source) key source.cohort) (cohort_target (app_of source) source.cohort key)

-- a target is read of a cohort's targets and name
cohort_target-read :
    (app : App) (cohort : Cohort) (key : TrackKey) →
    cohort_target (app_of (source_of app cohort)) (cohort_read cohort) key ≡ cohort_target app cohort key
cohort_target-read app cohort key = by_lane key.lane
  where
    found : Option (List ℕ) → Option ℕ
    found target =
        option_and_then (λ version. position (is_release version) app.releases)
        (option_and_then (pinned_target app.releases cohort key.pin) target)

    by_lane : (lane : Lane) → found (target_of (cohort_read cohort) lane) ≡ found (target_of cohort lane)
    by_lane Target = refl
    by_lane Held = refl

net_in-source : (app : App) (key : TrackKey) → net_in app key ≡ option_and_then (net_by key) (source_in app key.cohort)
net_in-source app key = cases (slice_get app.cohorts key.cohort)
  where
    cases :
        (found : Option Cohort) →
        option_and_then (λ cohort. option_map (net_of app key cohort) (cohort_target app cohort key)) found
        ≡ option_and_then (net_by key) (option_map (source_of app) found)
    cases None = refl
    cases (Some cohort) = ap (option_map (net_of app key cohort)) (sym (cohort_target-read app cohort key))

net_among-by : (apps : List App) (key : TrackKey) → net_among apps key ≡ option_and_then (net_by key) (source_at apps key.app key.cohort)
net_among-by apps key = cases (slice_get apps key.app)
  where
    cases :
        (found : Option App) →
        option_and_then (λ app. net_in app key) found
        ≡ option_and_then (net_by key) (option_and_then (λ app. source_in app key.cohort) found)
    cases None = refl
    cases (Some app) = net_in-source app key

pub net_among-source :
    (apps made : List App) (key : TrackKey) →
    source_at made key.app key.cohort ≡ source_at apps key.app key.cohort → net_among made key ≡ net_among apps key
net_among-source apps made key same =
    net_among-by made key ∙ ap (option_and_then (net_by key)) same ∙ sym (net_among-by apps key)
