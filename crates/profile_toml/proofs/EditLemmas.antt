-- The edits of a content's entries are the edits of the content.
use Rattle.std.proofs.Common.{◌≡◌, ℕ, ◌==◌, Bool, true, false, cond, List, [], ◌∷◌, ◌++◌, drop, map, Option, Some, None, option_map, refl, ap, subst, ◌∙◌}
use Rattle.std.specs.List.{AllByRecursion, flat_map, list_any}
use Rattle.std.specs.Option.{is_some}
use Rattle.std.specs.Str.{bytes_eq}
use Rattle.std.proofs.lemmas.Bool.{or_parts}
use Rattle.std.proofs.lemmas.Slice.Eq.{bytes_eq-Decides}
use Rattle.catalogue.specs.declared.edit.Edit.{Edit}
use Rattle.catalogue.specs.declared.edit.Edit.TheVariants as edit
use Rattle.catalogue.specs.Contents.{default_name, edit_of_cohort, edit_of_diff, edits_of_app, edits_of_content, edits_of_release, edits_of_settings, spelling_of}
use Rattle.catalogue.specs.Limits.{max_share}
use Rattle.catalogue.specs.Lookups.{is_cohort}
use Rattle.catalogue.specs.Validity.{IsValidApp}
use Rattle.catalogue.specs.declared.content.App.{App}
use Rattle.catalogue.specs.declared.content.Cohort.{Cohort}
use Rattle.catalogue.specs.declared.content.Diff.{Diff}
use Rattle.catalogue.specs.declared.content.Release.{Release}
use Rattle.catalogue.specs.Versions.{printed, zero_version}
use Rattle.values.proofs.SplitLemmas.{list_any-before, split_next}
use Rattle.values.specs.Lists.{IsOnce}
use Rattle.profile_toml.specs.Apps.{app_edits, edits_of}
use Rattle.profile_toml.specs.Cohorts.{cohort_edits, setting_edits, share_edits}
use Rattle.profile_toml.specs.Diffs.{diff_edits}
use Rattle.profile_toml.specs.Releases.{audience_edits, floor_edits, release_edits}
use Rattle.profile_toml.proofs.AppEntryLemmas.{entry_of_app, entry_of_cohort}
use Rattle.profile_toml.proofs.EntryLemmas.{entry_of_diff, entry_of_release}

is_some-option_map : {A B : Type 0} (f : A → B) (o : Option A) → is_some (option_map f o) ≡ is_some o
is_some-option_map f None = refl
is_some-option_map f (Some x) = refl

-- where the default cohort comes first, the edits that add cohorts are those of the others
cohort_edits-others : (app : App) (default : Cohort) (front back : List Cohort)
    → IsOnce is_cohort ((default ∷ front) ++ back)
    → flat_map (cohort_edits app.id default.name) (map (entry_of_cohort app.releases) back)
    ≡ map (edit_of_cohort app) back
cohort_edits-others app default front [] once = refl
cohort_edits-others app default front (cohort ∷ back) once =
    let same = (bytes_eq-Decides cohort.name cohort.name).1 refl in
    let new = list_any-before is_cohort (default ∷ front) cohort back once cohort.name same in
    let other = or_parts (bytes_eq cohort.name default.name) (list_any (is_cohort cohort.name) front) new in
    let P : List Cohort → Type 0 = λ cohorts. IsOnce is_cohort cohorts in
    let rest = cohort_edits-others app default (front ++ cohort ∷ []) back (subst P (split_next (default ∷ front) cohort back) once) in
    rw other.0 (ap (λ (edits : List Edit). edit_of_cohort app cohort ∷ edits) rest)

cohort_edits-all : (app : App) (cohorts : List Cohort) → IsOnce is_cohort cohorts
    → flat_map (cohort_edits app.id (default_name cohorts)) (map (entry_of_cohort app.releases) cohorts)
    ≡ map (edit_of_cohort app) (drop 1 cohorts)
cohort_edits-all app [] once = refl
cohort_edits-all app (default ∷ others) once =
    rw ((bytes_eq-Decides default.name default.name).1 refl) (cohort_edits-others app default [] others once)

audience_edits-given : (id version : List ℕ) (audience : Option (List (List ℕ)))
    → audience_edits id version audience
    ≡ cond (is_some audience) (edit.SetAudience (record { app = id; version = version; cohorts = audience }) ∷ []) []
audience_edits-given id version None = refl
audience_edits-given id version (Some names) = refl

floor_edits-given : (id version floor : List ℕ) (none : Bool)
    → floor_edits id version (cond none None (Some (printed floor)))
    ≡ cond none [] (edit.SetFloor (record { app = id; version = version; floor = printed floor }) ∷ [])
floor_edits-given id version floor true = refl
floor_edits-given id version floor false = refl

release_edits-all : (app : App) (releases : List Release)
    → flat_map (release_edits app.id) (map entry_of_release releases) ≡ flat_map (edits_of_release app) releases
release_edits-all app [] = refl
release_edits-all app (release ∷ releases) =
    rw (
      audience_edits-given app.id release.spelled release.audience,
      floor_edits-given app.id release.spelled release.floor (bytes_eq release.floor zero_version),
      release_edits-all app releases,
    ) refl

diff_edits-all : (app : App) (diffs : List Diff)
    → flat_map (diff_edits app.id) (map (entry_of_diff app.releases) diffs) ≡ map (edit_of_diff app) diffs
diff_edits-all app [] = refl
diff_edits-all app (diff ∷ diffs) = rw (diff_edits-all app diffs) refl

share_edits-given : (id name : List ℕ) (share : ℕ) (all : Bool)
    → share_edits id name (cond all None (Some share))
    ≡ cond all [] (edit.SetShare (record { app = id; cohort = name; share = share }) ∷ [])
share_edits-given id name share true = refl
share_edits-given id name share false = refl

setting_edits-all : (app : App) (cohorts : List Cohort)
    → flat_map (setting_edits app.id) (map (entry_of_cohort app.releases) cohorts) ≡ flat_map (edits_of_settings app) cohorts
setting_edits-all app [] = refl
setting_edits-all app (cohort ∷ cohorts) =
    rw (
      is_some-option_map (spelling_of app.releases) cohort.target,
      is_some-option_map (spelling_of app.releases) cohort.held,
      share_edits-given app.id cohort.name cohort.share (cohort.share == max_share),
      setting_edits-all app cohorts,
    ) refl

app_edits-entry : (app : App) → IsValidApp app → app_edits (entry_of_app app) ≡ edits_of_app app
app_edits-entry app valid =
    rw (
      cohort_edits-all app app.cohorts valid.cohorts_once,
      release_edits-all app app.releases,
      diff_edits-all app app.diffs,
      setting_edits-all app app.cohorts,
    ) refl

-- the edits of a valid content's entries are those of the content
pub edits_of-entries : (apps : List App) → AllByRecursion IsValidApp apps
    → edits_of (map entry_of_app apps) ≡ edits_of_content apps
edits_of-entries [] valid = refl
edits_of-entries (app ∷ apps) valid =
    ap (λ (edits : List Edit). edits ++ edits_of (map entry_of_app apps)) (app_edits-entry app valid.0)
    ∙ ap (λ (edits : List Edit). edits_of_app app ++ edits) (edits_of-entries apps valid.1)
