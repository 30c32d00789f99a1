-- The graph of a track, and the app of the track.
use Rattle.std.proofs.Common.{◌≡◌, ℕ, List, length, Option, None, Some, unwrap_or, sym, ap, ◌∙◌}
use Rattle.std.specs.List.{enumerate_from, slice_get}
use Rattle.std.specs.Option.{option_and_then, option_map}
use Rattle.std.proofs.lemmas.List.{length-map}
use Rattle.std.proofs.lemmas.List.FromFn.{length-enumerate_from}
use Rattle.catalogue.specs.declared.content.App.{App}
use Rattle.catalogue.specs.declared.content.Cohort.{Cohort}
use Rattle.payload_graph.specs.Chains.{cohort_target}
use Rattle.payload_graph.specs.declared.payload.TrackKey.{TrackKey}
use Rattle.payload_graph.specs.Net.{Net, net_among, net_in, net_of}
use Rattle.certificates.specs.Strings.{track_at}

-- a graph has a place for each release of its app
length-doors :
    (app : App) (key : TrackKey) (cohort : Cohort) (net : Net) (target : Option ℕ) →
    option_map (net_of app key cohort) target ≡ Some net → length net.doors ≡ length app.releases
length-doors app key cohort net None made = cc
length-doors app key cohort net (Some target) made =
    let same : net_of app key cohort target ≡ net = ap (λ (read : Option Net). unwrap_or read net) made in
    sym (ap (λ (n : Net). length n.doors) same)
    ∙ length-map (enumerate_from 0 app.releases) _
    ∙ length-enumerate_from 0 app.releases

-- the app of a graph's key is the one that the graph was made of
pub length-doors-track :
    (apps : List App) (key : TrackKey) (net : Net) (app : App) (cohort : Cohort) →
    track_at apps key ≡ Some (app, cohort) →
    net_among apps key ≡ Some net →
    length net.doors ≡ length app.releases
length-doors-track apps key net app cohort there made = by_app (slice_get apps key.app) there made
  where
    by_cohort :
        (a : App) (found : Option Cohort) →
        option_map {U = App × Cohort} (λ (c : Cohort). (a, c)) found ≡ Some (app, cohort) →
        option_and_then (λ c. option_map (net_of a key c) (cohort_target a c key)) found ≡ Some net →
        length net.doors ≡ length app.releases
    by_cohort a None there made = cc
    by_cohort a (Some c) there made =
        let same : a ≡ app = ap (λ (read : Option (App × Cohort)). (unwrap_or read (app, cohort)).0) there in
        length-doors a key c net (cohort_target a c key) made ∙ ap (λ (own : App). length own.releases) same

    by_app :
        (found : Option App) →
        option_and_then (λ (a : App). option_map {U = App × Cohort} (λ (c : Cohort). (a, c))
        (slice_get a.cohorts key.cohort)) found ≡ Some (app, cohort) →
        option_and_then (λ a. net_in a key) found ≡ Some net →
        length net.doors ≡ length app.releases
    by_app None there made = cc
    by_app (Some a) there made = by_cohort a (slice_get a.cohorts key.cohort) there made
