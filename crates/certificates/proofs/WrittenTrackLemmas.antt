-- The certificate of a track of a valid content, read back.
use Rattle.std.proofs.Common.{◌≡◌, ℕ, zero, suc, Bool, true, List, [], ◌∷◌, get_or, Option, None, Some, Result, Ok, Err, unwrap_or, refl, sym, ap, ◌∙◌, subst}
use Rattle.std.specs.List.{AllByRecursion, list_all, position, slice_get}
use Rattle.std.specs.Option.{option_and_then, option_map, option_map_or, MatchOption}
use Rattle.std.proofs.lemmas.Bool.{and_parts}
use Rattle.std.proofs.lemmas.List.Elements.{All-from_recursion}
use Rattle.std.proofs.lemmas.List.Quantifiers.{position-Some}
use Rattle.std.proofs.lemmas.Option.{get_or_from_slice_get, slice_get-get_or, slice_get_within}
use Rattle.hex.specs.Hex.{encode_lower}
use Rattle.catalogue.specs.VersionLaws.{BelowIsIrreflexive}
use Rattle.catalogue.specs.Lookups.{is_release}
use Rattle.catalogue.specs.Validity.{IsValid, IsValidApp, is_valid_cohort, is_valid_release}
use Rattle.catalogue.specs.declared.content.App.{App}
use Rattle.catalogue.specs.declared.content.Cohort.{Cohort}
use Rattle.catalogue.specs.declared.content.Release.{Release}
use Rattle.cohorts.specs.Offers.{track_target}
use Rattle.payload_graph.specs.Chains.{cohort_target}
use Rattle.payload_graph.specs.declared.payload.TrackKey.{TrackKey}
use Rattle.payload_graph.specs.Net.{Net, net_among, net_in, net_of}
use Rattle.price_cert.specs.declared.row.Row.{Row}
use Rattle.certificates.specs.Laws.{IsStatable, WrittenIsRead}
use Rattle.certificates.specs.Reading.{prices_of_string, read_body, table_of}
use Rattle.certificates.specs.Strings.{target_at, string_among, string_of, track_at}
use Rattle.certificates.specs.declared.fault.Fault.{Fault}
use Rattle.certificates.specs.declared.fault.Fault.TheVariants.{BadLine}
use Rattle.certificates.proofs.SpelledLemmas.{AreSpelled, IsVisible-spelled}
use Rattle.certificates.proofs.TrackLemmas.{length-doors-track}
use Rattle.certificates.proofs.VisibleLemmas.{IsLine-visible, IsVisible, IsVisible-app_id, IsVisible-cohort_name, IsVisible-hex}
use Rattle.certificates.proofs.WrittenLemmas.{IsTitled, read_body-written}

-- what a graph was made of
record HasTrack (apps : List App) (net : Net) : Type 0 where
  app : App
  app_there : slice_get apps net.key.app ≡ Some app
  cohort : Cohort
  cohort_there : slice_get app.cohorts net.key.cohort ≡ Some cohort
  is_target : cohort_target app cohort net.key ≡ Some net.target
  release : Release
  release_there : slice_get app.releases net.target ≡ Some release

position-there :
    (releases : List Release) (version : List ℕ) (index : ℕ) → position (is_release version) releases ≡ Some index →
    (release : Release) × (slice_get releases index ≡ Some release)
position-there [] version index found = cc
position-there (first ∷ releases) version index found =
    let at = position-Some (is_release version) (first ∷ releases) index first found in
    (get_or (first ∷ releases) index first, slice_get-get_or (first ∷ releases) index first at.0)

HasTrack-net : (apps : List App) (net : Net) → net_among apps net.key ≡ Some net → HasTrack apps net
HasTrack-net apps net made = by_app (slice_get apps net.key.app) refl made
  where
    by_version :
        (app : App) → slice_get apps net.key.app ≡ Some app →
        (cohort : Cohort) → slice_get app.cohorts net.key.cohort ≡ Some cohort →
        (target : ℕ) → cohort_target app cohort net.key ≡ Some target → target ≡ net.target →
        (version : Option (List ℕ)) → track_target app.releases cohort net.key.lane net.key.pin ≡ version →
        option_and_then (λ v. position (is_release v) app.releases) version ≡ Some target → HasTrack apps net
    by_version app app_is cohort cohort_is target target_is same None is found = cc
    by_version app app_is cohort cohort_is target target_is same (Some version) is found =
        let there = position-there app.releases version target found in
        record {
          app = app;
          app_there = app_is;
          cohort = cohort;
          cohort_there = cohort_is;
          is_target = target_is ∙ ap (λ (n : ℕ). Some n) same;
          release = there.0;
          release_there = ap (λ (n : ℕ). slice_get app.releases n) (sym same) ∙ there.1;
        }

    by_target :
        (app : App) → slice_get apps net.key.app ≡ Some app →
        (cohort : Cohort) → slice_get app.cohorts net.key.cohort ≡ Some cohort →
        (target : Option ℕ) → cohort_target app cohort net.key ≡ target →
        option_map (net_of app net.key cohort) target ≡ Some net → HasTrack apps net
    by_target app app_is cohort cohort_is None is made = cc
    by_target app app_is cohort cohort_is (Some target) is made =
        let own : net_of app net.key cohort target ≡ net = cc in
        by_version app app_is cohort cohort_is target is (ap (λ (n : Net). n.target) own)
        (track_target app.releases cohort net.key.lane net.key.pin) refl is

    by_cohort :
        (app : App) → slice_get apps net.key.app ≡ Some app →
        (cohort : Option Cohort) → slice_get app.cohorts net.key.cohort ≡ cohort →
        option_and_then (λ c. option_map (net_of app net.key c) (cohort_target app c net.key)) cohort ≡ Some net →
        HasTrack apps net
    by_cohort app app_is None is made = cc
    by_cohort app app_is (Some cohort) is made = by_target app app_is cohort is (cohort_target app cohort net.key)
        refl made

    by_app :
        (app : Option App) → slice_get apps net.key.app ≡ app →
        option_and_then (λ a. net_in a net.key) app ≡ Some net → HasTrack apps net
    by_app None is made = cc
    by_app (Some app) is made = by_cohort app is (slice_get app.cohorts net.key.cohort) refl made

-- what all items pass, the one at an index does
all-there :
    {A : Type 0} (test : A → Bool) (items : List A) (index : ℕ) (item : A) →
    list_all test items ≡ true → slice_get items index ≡ Some item → test item ≡ true
all-there test [] index item all there = cc
all-there test (first ∷ items) zero item all there =
    let same : first ≡ item = cc in
    sym (ap test same) ∙ (and_parts (test first) (list_all test items) all).0
all-there test (first ∷ items) (suc index) item all there =
    all-there test items index item (and_parts (test first) (list_all test items) all).1 there

IsValidApp-there :
    (apps : List App) (index : ℕ) (app : App) → IsValid apps → slice_get apps index ≡ Some app → IsValidApp app
IsValidApp-there apps index app valid there =
    subst IsValidApp (get_or_from_slice_get apps index app app there)
    (All-from_recursion IsValidApp apps valid.apps_valid index app (slice_get_within apps index app there))

AreSpelled-valid : (app : App) → IsValidApp app → AreSpelled app.cohorts app.releases
AreSpelled-valid app valid = record { ascends = valid.releases_ascend; good = valid.releases_valid }

-- the headings of a track of a valid content are lines
IsTitled-track :
    BelowIsIrreflexive → (apps : List App) (net : Net) → IsValid apps → (track : HasTrack apps net) →
    IsTitled track.app track.cohort track.release
IsTitled-track irreflexive apps net valid track =
    let app_valid = IsValidApp-there apps net.key.app track.app valid track.app_there in
    let cohort_good = all-there (is_valid_cohort track.app.releases) track.app.cohorts net.key.cohort track.cohort
    app_valid.cohorts_valid track.cohort_there in
    let release_good = all-there (is_valid_release track.app.cohorts) track.app.releases net.target track.release
    app_valid.releases_valid track.release_there in
    let within = slice_get_within track.app.releases net.target track.release track.release_there in
    let spelled = IsVisible-spelled irreflexive track.app.cohorts track.app.releases
    (AreSpelled-valid track.app app_valid) net.target track.release within in
    let own = ap (λ (o : Option Release). option_map_or (λ (r : Release). r.spelled) o []) track.release_there in
    record {
      id = IsLine-visible track.app.id (IsVisible-app_id track.app.id app_valid.identified);
      name = IsLine-visible track.cohort.name
          (IsVisible-cohort_name track.cohort.name (and_parts _ _ (and_parts _ _ (and_parts _ _ cohort_good).0).0).0);
      spelled = IsLine-visible track.release.spelled (subst IsVisible own spelled);
      hash = IsLine-visible (encode_lower track.release.hash)
          (IsVisible-hex track.release.hash (and_parts _ _ (and_parts _ _ (and_parts _ _ release_good).0).1).1);
      few = app_valid.few_releases;
    }

module _ (irreflexive : BelowIsIrreflexive) where
  pub written_is_read : WrittenIsRead
  written_is_read apps net prices valid made keyed statable =
      let track = HasTrack-net apps net made in
      let app = track.app in
      let cohort = track.cohort in
      let target = track.release in
      let rows = prices.rows in
      let app_valid = IsValidApp-there apps net.key.app app valid track.app_there in
      let there : track_at apps net.key ≡ Some (app, cohort) =
      ap (λ (o : Option App). option_and_then
      (λ (a : App). option_map {U = App × Cohort} (λ (c : Cohort). (a, c)) (slice_get a.cohorts net.key.cohort))
      o) track.app_there
      ∙ ap (λ (o : Option Cohort). option_map {U = App × Cohort} (λ (c : Cohort). (app, c)) o) track.cohort_there in
      let aimed : target_at app cohort net.key ≡ Some target =
      ap (λ (o : Option ℕ). option_and_then (λ index. slice_get app.releases index) o) track.is_target ∙
      track.release_there in
      let count = length-doors-track apps net.key net app cohort there made in
      let text : List ℕ = string_of app cohort net.key target rows in
      let written : string_among apps prices ≡ Some text =
      ap (λ (k : TrackKey). option_and_then
      (λ (t : App × Cohort). option_map (λ (release : Release). string_of t.0 t.1 k release rows)
      (target_at t.0 t.1 k)) (track_at apps k)) keyed
      ∙ ap (λ (o : Option (App × Cohort)). option_and_then
      (λ (t : App × Cohort). option_map (λ (release : Release). string_of t.0 t.1 net.key release rows)
      (target_at t.0 t.1 net.key)) o) there
      ∙ ap (λ (o : Option Release). option_map (λ (release : Release). string_of app cohort net.key release rows) o)
      aimed in
      let each = subst (λ (n : ℕ). AllByRecursion (IsStatable n) rows) count statable.each in
      let read = read_body-written irreflexive app cohort net.key target rows
      (IsTitled-track irreflexive apps net valid track) (AreSpelled-valid app app_valid) (statable.sized ∙ count)
      each in
      let back : prices_of_string apps net text ≡ Ok prices =
      ap (λ (o : Option (App × Cohort)). unwrap_or
      (option_and_then (λ (t : App × Cohort). option_map
      (λ (release : Release). table_of net.key (read_body t.0 t.1 net.key release text))
      (slice_get t.0.releases net.target)) o) (Err (BadLine 1))) there
      ∙ ap (λ (o : Option Release). unwrap_or
      (option_map (λ (release : Release). table_of net.key (read_body app cohort net.key release text)) o)
      (Err (BadLine 1))) track.release_there
      ∙ ap (λ (r : Result (List Row) Fault). table_of net.key r) read
      ∙ ap (λ (k : TrackKey). Ok (record { key = k; rows = rows })) (sym keyed) in
      subst (λ (o : Option (List ℕ)). MatchOption o ⊥ (λ t. prices_of_string apps net t ≡ Ok prices)) (sym written) back
