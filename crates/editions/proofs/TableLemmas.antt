-- The tables of a content, by the keys of its tracks.
use Rattle.std.proofs.Common.{◌≡◌, ℕ, List, Option, None, Some, refl, sym, ap, ◌∙◌}
use Rattle.std.specs.List.{All, Contains, slice_get}
use Rattle.std.specs.Option.{option_and_then, option_map, IfSome}
use Rattle.std.proofs.lemmas.List.Elements.{All-contains}
use Rattle.catalogue.specs.Histories.{History, LeadsTo}
use Rattle.catalogue.specs.declared.content.App.{App}
use Rattle.catalogue.specs.declared.content.Cohort.{Cohort}
use Rattle.payload_graph.specs.Chains.{cohort_target}
use Rattle.payload_graph.specs.declared.payload.TrackKey.{TrackKey}
use Rattle.payload_graph.specs.Net.{Net, net_among, net_in, net_of}
use Rattle.price_cert.specs.Tables.{Certificate}
use Rattle.par_tables.specs.Places.{HasOtherKey}
use Rattle.par_tables.specs.Tables.{AreTables, TablesAreOfTracks, TracksHaveTables}
use Rattle.editions.specs.Editions.{content_of, content_or_none, IsTrackKey}

-- a graph has the key that it was made for
keyed : (apps : List App) (key : TrackKey) (net : Net) → net_among apps key ≡ Some net → net.key ≡ key
keyed apps key net made = in_apps (slice_get apps key.app) made
  where
    to : (app : App) (cohort : Cohort) (target : Option ℕ) → option_map (net_of app key cohort) target ≡ Some net → net.key ≡ key
    to app cohort None made = cc
    to app cohort (Some target) made =
        let same : net_of app key cohort target ≡ net = cc in
        ap (λ (n : Net). n.key) (sym same)

    in_app :
        (app : App) (cohort : Option Cohort) →
        option_and_then (λ cohort. option_map (net_of app key cohort) (cohort_target app cohort key)) cohort ≡ Some net →
        net.key ≡ key
    in_app app None made = cc
    in_app app (Some cohort) made = to app cohort (cohort_target app cohort key) made

    in_apps : (app : Option App) → option_and_then (λ app. net_in app key) app ≡ Some net → net.key ≡ key
    in_apps None made = cc
    in_apps (Some app) made = in_app app (slice_get app.cohorts key.cohort) made

-- the table of a key is that of the key's track
pub net_among-found :
    TablesAreOfTracks → (apps : List App) (tables : List Certificate) (key : TrackKey) (table : Certificate) →
    AreTables apps tables → Contains tables table → table.net.key ≡ key → net_among apps key ≡ Some table.net
net_among-found of_tracks apps tables key table are inside named =
    ap (net_among apps) (sym named)
    ∙ All-contains (λ (t : Certificate). net_among apps t.net.key ≡ Some t.net) tables table (of_tracks apps tables are) inside

-- a track whose key no table has has no graph
pub net_among-missing :
    TracksHaveTables → (apps : List App) (tables : List Certificate) (key : TrackKey) →
    AreTables apps tables → IsTrackKey apps key → All (HasOtherKey key) tables → net_among apps key ≡ None
net_among-missing have apps tables key are agreed others = cases (net_among apps key) refl agreed.rollback
  where
    cases :
        (net : Option Net) → net_among apps key ≡ net → IfSome net (λ n. n.rollback ≡ key.rollback) →
        net_among apps key ≡ None
    cases None made same = made
    cases (Some net) made same =
        let found = have apps tables key net are made same agreed.pin in
        let other = All-contains (HasOtherKey key) tables found.1 others (found.0, found.2, found.3) in
        absurd (other (ap (λ (n : Net). n.key) found.4 ∙ keyed apps key net made))

-- the content of a history is the one that it leads to
pub content_of-led : (history : History) (apps : List App) → LeadsTo history apps → content_of history ≡ apps
content_of-led history apps led = ap content_or_none led
