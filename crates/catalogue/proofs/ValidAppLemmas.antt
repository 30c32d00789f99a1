-- An edit keeps an app valid.
use Rattle.std.proofs.Common.{◌≡◌, ℕ, ◌≤◌, ◌&&◌, Bool, true, false, cond, List, [], ◌∷◌, ◌++◌, Option, Some, None, count_by, refl, ap, sym, ◌∙◌, arith}
use Rattle.std.specs.Option.{is_none, option_map_or}
use Rattle.std.specs.Str.{bytes_eq}
use Rattle.std.proofs.lemmas.Bool.{and_from, and_parts}
use Rattle.std.proofs.lemmas.Slice.Eq.{bytes_eq-Decides}
use Rattle.catalogue.specs.VersionLaws.{LenientAgrees, PrintIsPlain}
use Rattle.catalogue.specs.Versions.{is_below, lenient_version_of, components_of, printed, version_of, zero_version}
use Rattle.catalogue.proofs.Accepted.Apps.{TakesApp}
use Rattle.catalogue.proofs.Accepted.Cohorts.{TakesCohort}
use Rattle.catalogue.proofs.Accepted.Diffs.{TakesDiff}
use Rattle.catalogue.proofs.Accepted.Releases.{TakesRelease}
use Rattle.catalogue.proofs.AcceptedLemmas.{Some-from_not_none}
use Rattle.values.proofs.ChangedLemmas.{ascend-change, count_by-change, count_by-cons, length-change, list_all-change, list_any-change}
use Rattle.catalogue.proofs.ValidCohortLemmas.{ValidCohort-from_test, is_valid_cohort-from_parts}
use Rattle.catalogue.proofs.ValidDiffLemmas.{ValidDiff-from_test, is_valid_diff-from_parts}
use Rattle.catalogue.proofs.HashLemmas.{is_hash-hash_named}
use Rattle.values.proofs.InsertedLemmas.{IsOnce-Inserts, count_by-none, length-Inserts, list_all-Inserts, list_all-weaker, list_any-kept}
use Rattle.values.proofs.InsertionLemmas.{Inserts, Inserts-push}
use Rattle.catalogue.proofs.KeyLemmas.{IsOrder-pairs, IsOrder-versions, VersionLaws}
use Rattle.values.proofs.OrderedLemmas.{Inserts-put_in, ascend-put_in}
use Rattle.catalogue.specs.Changes.{in_cohort, in_release, new_app, new_cohort, new_diff, new_release, placed, placed_diff, with_cohort, with_diff, with_release}
use Rattle.values.specs.Lists.{change}
use Rattle.catalogue.specs.Forms.{is_cohort_name, is_hash, is_package_name, is_size}
use Rattle.catalogue.specs.Lookups.{has_cohort, has_hash, has_release, is_cohort, is_pair_below, is_release, pair_of, same_pair}
use Rattle.catalogue.specs.Validity.{IsValidApp, has_valid_floor, is_valid_audience, is_valid_cohort, is_valid_diff, is_valid_release, is_release_below, is_released, spells}
use Rattle.catalogue.specs.declared.content.App.{App}
use Rattle.catalogue.specs.declared.content.Cohort.{Cohort}
use Rattle.catalogue.specs.declared.content.Diff.{Diff}
use Rattle.catalogue.specs.declared.content.Release.{Release}
use Rattle.catalogue.specs.declared.edits.apps.AddApp.{AddApp}
use Rattle.catalogue.specs.declared.edits.cohorts.AddCohort.{AddCohort}
use Rattle.catalogue.specs.declared.edits.diffs.AddDiff.{AddDiff}
use Rattle.catalogue.specs.declared.edits.releases.AddRelease.{AddRelease}

-- a release put in its place is one more
Inserts-placed : (release : Release) (releases : List Release) → Inserts release releases (placed release releases)
Inserts-placed release releases = Inserts-put_in is_below bytes_eq (λ (r : Release). r.version) release releases

-- a cohort and a differential stay valid if each released version stays released
module _ (old new : List Release) (kept : (version : List ℕ) → has_release old version ≡ true → has_release new version ≡ true) where
  is_released-kept :
      (version : Option (List ℕ)) → is_released old version ≡ true → is_released new version ≡ true
  is_released-kept None there = refl
  is_released-kept (Some version) there = kept version there

  is_valid_cohort-kept :
      (cohort : Cohort) → is_valid_cohort old cohort ≡ true → is_valid_cohort new cohort ≡ true
  is_valid_cohort-kept cohort good =
      let before = ValidCohort-from_test old cohort good in
      is_valid_cohort-from_parts new cohort (record {
        named = before.named;
        shared = before.shared;
        target = is_released-kept cohort.target before.target;
        held = is_released-kept cohort.held before.held;
      })

  is_valid_diff-kept : (diff : Diff) → is_valid_diff old diff ≡ true → is_valid_diff new diff ≡ true
  is_valid_diff-kept diff good =
      let before = ValidDiff-from_test old diff good in
      is_valid_diff-from_parts new diff (record {
        upward = before.upward;
        starts = kept diff.from before.starts;
        ends = kept diff.to before.ends;
        named = before.named;
        sized = before.sized;
        hashed = before.hashed;
      })

-- what is released stays released when a release is added
has_release-placed :
    (release : Release) (releases : List Release) (version : List ℕ) →
    has_release releases version ≡ true → has_release (placed release releases) version ≡ true
has_release-placed release releases version =
    list_any-kept (is_release version) release releases (placed release releases) (Inserts-placed release releases)

-- the spelling of an accepted version spells what a client's string would
spells-lenient :
    LenientAgrees →
    (text : List ℕ) →
    is_none (version_of text) ≡ false →
    spells text (lenient_version_of text) ≡ true
spells-lenient agrees text spelled =
    let some = Some-from_not_none (version_of text) spelled in
    let read = some.0 in
    ap (λ o. option_map_or (λ (r : List ℕ × ℕ). bytes_eq r.0 (lenient_version_of text)) o false) some.1
    ∙ (bytes_eq-Decides read.0 (lenient_version_of text)).1 (sym (agrees text read.0 read.1 some.1))

-- what a version prints that a publisher's string spells spells the version
pub spells-printed :
    LenientAgrees → PrintIsPlain → (text : List ℕ) → is_none (version_of text) ≡ false →
    spells (printed (lenient_version_of text)) (lenient_version_of text) ≡ true
spells-printed agrees plain text spelled =
    let some = Some-from_not_none (version_of text) spelled in
    let version = some.0.0 in
    let same : lenient_version_of text ≡ version = agrees text version some.0.1 some.1 in
    rw same (
    ap (λ o. option_map_or (λ (r : List ℕ × ℕ). bytes_eq r.0 version) o false) (plain text version some.0.1 some.1)
    ∙ (bytes_eq-Decides version version).1 refl)

-- `0` spells the floor of a new release
version_of-zero : version_of (48 ∷ []) ≡ Some (zero_version, 1)
unfolding version_of components_of
version_of-zero = refl

spells-zero_version : PrintIsPlain → spells (printed zero_version) zero_version ≡ true
spells-zero_version plain =
    ap (λ o. option_map_or (λ (r : List ℕ × ℕ). bytes_eq r.0 zero_version) o false) (plain (48 ∷ []) zero_version 1 version_of-zero)
    ∙ (bytes_eq-Decides zero_version zero_version).1 refl

module _ (laws : VersionLaws) (agrees : LenientAgrees) (plain : PrintIsPlain) where
  pub IsValidApp-with_release :
      (apps : List App) (e : AddRelease) (takes : TakesRelease apps e) →
      IsValidApp takes.app →
      IsValidApp (with_release (new_release e) takes.app)
  IsValidApp-with_release apps e takes valid =
      let app = takes.app in
      let release = new_release e in
      let among = Inserts-placed release app.releases in
      record {
        identified = valid.identified;
        some_cohort = valid.some_cohort;
        few_cohorts = valid.few_cohorts;
        cohorts_once = valid.cohorts_once;
        cohorts_valid = list_all-weaker (is_valid_cohort app.releases) (is_valid_cohort (placed release app.releases))
            (is_valid_cohort-kept app.releases (placed release app.releases) (has_release-placed release app.releases)) app.cohorts valid.cohorts_valid;
        few_releases = omega (arith, takes.room, length-Inserts release app.releases (placed release app.releases) among);
        releases_ascend = ascend-put_in is_below bytes_eq (λ (r : Release). r.version) (IsOrder-versions laws) release app.releases valid.releases_ascend takes.new_version;
        hashes_once = IsOnce-Inserts has_hash release app.releases (placed release app.releases) among valid.hashes_once
            (λ hash same. ap (λ h. count_by (has_hash h) app.releases) ((bytes_eq-Decides hash release.hash).0 same) ∙ count_by-none (has_hash release.hash) app.releases takes.new_hash);
        releases_valid = list_all-Inserts (is_valid_release app.cohorts) release app.releases (placed release app.releases) among valid.releases_valid
            (and_from _ _ (and_from _ _ (and_from _ _ (and_from _ _ (spells-lenient agrees e.version takes.spelled) takes.named) takes.sized) (is_hash-hash_named e.sha256 takes.hashed)) refl);
        floors_valid = list_all-Inserts has_valid_floor release app.releases (placed release app.releases) among valid.floors_valid (spells-zero_version plain);
        few_diffs = valid.few_diffs;
        diffs_ascend = valid.diffs_ascend;
        diffs_valid = list_all-weaker (is_valid_diff app.releases) (is_valid_diff (placed release app.releases))
            (is_valid_diff-kept app.releases (placed release app.releases) (has_release-placed release app.releases)) app.diffs valid.diffs_valid;
      }

  pub IsValidApp-with_diff :
      (apps : List App) (e : AddDiff) (takes : TakesDiff apps e) → IsValidApp takes.app →
      IsValidApp (with_diff (new_diff e) takes.app)
  IsValidApp-with_diff apps e takes valid =
      let app = takes.app in
      let diff = new_diff e in
      let among = Inserts-put_in is_pair_below same_pair pair_of diff app.diffs in
      record {
        identified = valid.identified;
        some_cohort = valid.some_cohort;
        few_cohorts = valid.few_cohorts;
        cohorts_once = valid.cohorts_once;
        cohorts_valid = valid.cohorts_valid;
        few_releases = valid.few_releases;
        releases_ascend = valid.releases_ascend;
        hashes_once = valid.hashes_once;
        releases_valid = valid.releases_valid;
        floors_valid = valid.floors_valid;
        few_diffs = omega (arith, takes.room, length-Inserts diff app.diffs (placed_diff diff app.diffs) among);
        diffs_ascend = ascend-put_in is_pair_below same_pair pair_of (IsOrder-pairs laws) diff app.diffs valid.diffs_ascend takes.new_pair;
        diffs_valid = list_all-Inserts (is_valid_diff app.releases) diff app.diffs (placed_diff diff app.diffs) among valid.diffs_valid
            (is_valid_diff-from_parts app.releases diff (record {
              upward = takes.upward;
              starts = takes.starts;
              ends = takes.ends;
              named = takes.named;
              sized = takes.sized;
              hashed = is_hash-hash_named e.sha256 takes.hashed;
            }));
      }

-- a change of a release that keeps its version and its hash and keeps it valid
pub IsValidApp-in_release :
    (version : List ℕ) (f : Release → Release) (app : App) →
    ((release : Release) → (f release).version ≡ release.version) →
    ((release : Release) → (f release).hash ≡ release.hash) →
    ((release : Release) → is_valid_release app.cohorts release ≡ true → is_valid_release app.cohorts (f release) ≡ true) →
    ((release : Release) → has_valid_floor release ≡ true → has_valid_floor (f release) ≡ true) →
    IsValidApp app → IsValidApp (in_release version f app)
IsValidApp-in_release version f app kept kept_hash keeps_good keeps_floor valid =
    let releases = change (is_release version) f app.releases in
    let released =
    λ (key : List ℕ) (there : has_release app.releases key ≡ true).
    list_any-change (is_release version) f (is_release key) (λ r. ap (bytes_eq key) (kept r)) app.releases ∙ there in
    record {
      identified = valid.identified;
      some_cohort = valid.some_cohort;
      few_cohorts = valid.few_cohorts;
      cohorts_once = valid.cohorts_once;
      cohorts_valid = list_all-weaker (is_valid_cohort app.releases) (is_valid_cohort releases)
          (is_valid_cohort-kept app.releases releases released) app.cohorts valid.cohorts_valid;
      few_releases = rw (length-change (is_release version) f app.releases) valid.few_releases;
      releases_ascend = ascend-change (is_release version) f is_release_below
          (λ x y. ap (λ (v : List ℕ). is_below v y.version) (kept x)) (λ x y. ap (is_below x.version) (kept y)) app.releases valid.releases_ascend;
      hashes_once = λ key. rw (count_by-change (is_release version) f (has_hash key) (λ r. ap (bytes_eq key) (kept_hash r)) app.releases) (valid.hashes_once key);
      releases_valid = list_all-change (is_release version) f (is_valid_release app.cohorts) keeps_good app.releases valid.releases_valid;
      floors_valid = list_all-change (is_release version) f has_valid_floor keeps_floor app.releases valid.floors_valid;
      few_diffs = valid.few_diffs;
      diffs_ascend = valid.diffs_ascend;
      diffs_valid = list_all-weaker (is_valid_diff app.releases) (is_valid_diff releases)
          (is_valid_diff-kept app.releases releases released) app.diffs valid.diffs_valid;
    }

-- an audience stays valid if each cohort's name stays
is_valid_audience-kept :
    (old new : List Cohort) →
    ((name : List ℕ) → has_cohort old name ≡ true → has_cohort new name ≡ true) →
    (audience : Option (List (List ℕ))) →
    is_valid_audience old audience ≡ true →
    is_valid_audience new audience ≡ true
is_valid_audience-kept old new kept None good = refl
is_valid_audience-kept old new kept (Some names) good = list_all-weaker (has_cohort old) (has_cohort new) kept names good

-- and so does a release
is_valid_release-kept :
    (old new : List Cohort) →
    ((name : List ℕ) → has_cohort old name ≡ true → has_cohort new name ≡ true) →
    (release : Release) →
    is_valid_release old release ≡ true →
    is_valid_release new release ≡ true
is_valid_release-kept old new kept release good =
    let before = and_parts (spells release.spelled release.version && is_package_name release.name && is_size release.size && is_hash release.hash) (is_valid_audience old release.audience) good in
    and_from _ _ before.0 (is_valid_audience-kept old new kept release.audience before.1)

-- a change of a cohort that keeps its name and keeps it valid
pub IsValidApp-in_cohort :
    (name : List ℕ) (f : Cohort → Cohort) (app : App) →
    ((cohort : Cohort) → (f cohort).name ≡ cohort.name) →
    ((cohort : Cohort) → is_valid_cohort app.releases cohort ≡ true → is_valid_cohort app.releases (f cohort) ≡ true) →
    IsValidApp app →
    IsValidApp (in_cohort name f app)
IsValidApp-in_cohort name f app kept keeps_good valid =
    let as_many = length-change (is_cohort name) f app.cohorts in
    record {
      identified = valid.identified;
      some_cohort = rw as_many valid.some_cohort;
      few_cohorts = rw as_many valid.few_cohorts;
      cohorts_once = λ key. rw (count_by-change (is_cohort name) f (is_cohort key) (λ cohort. ap (bytes_eq key) (kept cohort)) app.cohorts) (valid.cohorts_once key);
      cohorts_valid = list_all-change (is_cohort name) f (is_valid_cohort app.releases) keeps_good app.cohorts valid.cohorts_valid;
      few_releases = valid.few_releases;
      releases_ascend = valid.releases_ascend;
      hashes_once = valid.hashes_once;
      releases_valid = list_all-weaker (is_valid_release app.cohorts) (is_valid_release (change (is_cohort name) f app.cohorts))
          (is_valid_release-kept app.cohorts (change (is_cohort name) f app.cohorts)
          (λ key there. list_any-change (is_cohort name) f (is_cohort key) (λ cohort. ap (bytes_eq key) (kept cohort)) app.cohorts ∙ there)) app.releases valid.releases_valid;
      floors_valid = valid.floors_valid;
      few_diffs = valid.few_diffs;
      diffs_ascend = valid.diffs_ascend;
      diffs_valid = valid.diffs_valid;
    }

-- a new cohort is valid
is_valid_cohort-new_cohort :
    (releases : List Release) (name : List ℕ) →
    is_cohort_name name ≡ true →
    is_valid_cohort releases (new_cohort name) ≡ true
is_valid_cohort-new_cohort releases name named =
    is_valid_cohort-from_parts releases (new_cohort name) (record { named = named; shared = refl; target = refl; held = refl })

pub IsValidApp-with_cohort :
    (apps : List App) (e : AddCohort) (takes : TakesCohort apps e) →
    IsValidApp takes.app →
    IsValidApp (with_cohort (new_cohort e.cohort) takes.app)
IsValidApp-with_cohort apps e takes valid =
    let app = takes.app in
    let cohort = new_cohort e.cohort in
    let cohorts = app.cohorts ++ cohort ∷ [] in
    let among = Inserts-push app.cohorts cohort in
    record {
      identified = valid.identified;
      some_cohort = omega (arith, valid.some_cohort, length-Inserts cohort app.cohorts cohorts among);
      few_cohorts = omega (arith, takes.room, length-Inserts cohort app.cohorts cohorts among);
      cohorts_once = IsOnce-Inserts is_cohort cohort app.cohorts cohorts among valid.cohorts_once
          (λ name same. ap (λ n. count_by (is_cohort n) app.cohorts) ((bytes_eq-Decides name e.cohort).0 same) ∙ count_by-none (is_cohort e.cohort) app.cohorts takes.new_name);
      cohorts_valid = list_all-Inserts (is_valid_cohort app.releases) cohort app.cohorts cohorts among valid.cohorts_valid (is_valid_cohort-new_cohort app.releases e.cohort takes.named);
      few_releases = valid.few_releases;
      releases_ascend = valid.releases_ascend;
      hashes_once = valid.hashes_once;
      releases_valid = list_all-weaker (is_valid_release app.cohorts) (is_valid_release cohorts)
          (is_valid_release-kept app.cohorts cohorts (λ name there. list_any-kept (is_cohort name) cohort app.cohorts cohorts among there)) app.releases valid.releases_valid;
      floors_valid = valid.floors_valid;
      few_diffs = valid.few_diffs;
      diffs_ascend = valid.diffs_ascend;
      diffs_valid = valid.diffs_valid;
    }

cond-le_one : (b : Bool) → cond b 1 0 ≤ 1
cond-le_one true = omega arith
cond-le_one false = omega arith

pub IsValidApp-new_app : (apps : List App) (e : AddApp) → TakesApp apps e → IsValidApp (new_app e)
IsValidApp-new_app apps e takes = record {
  identified = takes.identified;
  some_cohort = omega arith;
  few_cohorts = omega arith;
  cohorts_once = λ name. let counted = count_by-cons (is_cohort name) (new_cohort e.default) [] in let one = cond-le_one (is_cohort name (new_cohort e.default)) in omega arith;
  cohorts_valid = and_from _ _ (is_valid_cohort-new_cohort [] e.default takes.named) refl;
  few_releases = omega arith;
  releases_ascend = refl;
  hashes_once = λ hash. omega arith;
  releases_valid = refl;
  floors_valid = refl;
  few_diffs = omega arith;
  diffs_ascend = refl;
  diffs_valid = refl;
}
