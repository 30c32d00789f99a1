-- The tables of cohorts, apps and whole profiles are read as their entries.
use Rattle.std.proofs.Common.{◌≡◌, ℕ, ◌+◌, false, List, [], ◌∷◌, ◌++◌, codes, map, length, ◌≤◌, option_map, Ok, refl, subst, ◌∙◌, append-nil, arith}
use Rattle.std.specs.List.{AllByRecursion, list_any}
use Rattle.std.proofs.lemmas.List.{map-append, map-id}
use Rattle.std.proofs.lemmas.Slice.Eq.{bytes_eq-Decides}
use Rattle.catalogue.specs.Contents.{default_name, spelling_of}
use Rattle.catalogue.specs.Lookups.{has_cohort, is_cohort}
use Rattle.catalogue.specs.Validity.{IsValidApp}
use Rattle.catalogue.specs.declared.content.App.{App}
use Rattle.catalogue.specs.declared.content.Cohort.{Cohort}
use Rattle.catalogue.specs.declared.content.Diff.{Diff}
use Rattle.catalogue.specs.declared.content.Release.{Release}
use Rattle.catalogue.specs.declared.mirror.Mirror.{Mirror}
use Rattle.toml.specs.Data.{Members, get_member}
use Rattle.profile_toml.specs.Fields.{known}
use Rattle.profile_toml.specs.Tables.{document, table_at}
use Rattle.profile_toml.specs.Apps.{app_keys, app_of}
use Rattle.profile_toml.specs.Cohorts.{cohort_keys, cohort_of, cohorts_after, is_named, new_name}
use Rattle.profile_toml.specs.Diffs.{diff_of}
use Rattle.profile_toml.specs.Documents.{newest}
use Rattle.profile_toml.specs.Mirrors.{mirror_of}
use Rattle.profile_toml.specs.Profiles.{profile_keys, profile_of}
use Rattle.profile_toml.specs.Releases.{release_of}
use Rattle.profile_toml.specs.Lists.{each_from}
use Rattle.values.proofs.SplitLemmas.{list_any-before, split_next}
use Rattle.values.specs.Lists.{IsOnce}
use Rattle.profile_toml.proofs.EntryLemmas.{Read, diff_of-diff_table, entry_of_diff, entry_of_release, mirror_of-mirror_table, release_of-release_table, unwrap_or-given}
use Rattle.profile_toml.proofs.KeyLemmas.{get_member-filled_table, known_among-filled_table}
use Rattle.profile_toml.proofs.ReaderLemmas.{each_from-again, optional-flag, optional-natural, optional-string, optional_tables-given, required-string, required_tables-given}
use Rattle.profile_toml.specs.WrittenFields.{app_fields, app_table, cohort_fields, cohort_table, diff_table, mirror_table, profile_fields, profile_table, release_table, share_given}
use Rattle.profile_toml.specs.WrittenTables.{Field, flag, optional_natural, optional_string, table_items, tables, given_string}

abbrev pub CohortEntry : Type 0
CohortEntry = Read (cohort_of [])

abbrev pub entry_of_cohort : List Release → Cohort → CohortEntry
entry_of_cohort releases cohort =
    record {
      name = cohort.name;
      target = option_map (spelling_of releases) cohort.target;
      held = option_map (spelling_of releases) cohort.held;
      share = share_given cohort.share;
      rollback = cohort.rollback;
      hintable = cohort.hintable;
    }

cohort_of-cohort_table : (before : List CohortEntry) (place : List ℕ) (releases : List Release) (cohort : Cohort)
    → list_any (is_named cohort.name) before ≡ false
    → cohort_of before (table_at place (cohort_table releases cohort)) ≡ Ok (entry_of_cohort releases cohort)
unfolding cohort_of new_name
cohort_of-cohort_table before place releases cohort new =
    by_keys (cohort_table releases cohort) (known_among-filled_table cohort_keys place fields refl)
    (get_member-filled_table (codes "name") fields) (get_member-filled_table (codes "target") fields)
    (get_member-filled_table (codes "held") fields) (get_member-filled_table (codes "share") fields)
    (get_member-filled_table (codes "rollback") fields) (get_member-filled_table (codes "open") fields)
  where
    fields : List Field
    fields = cohort_fields releases cohort

    by_keys : (members : Members) → known cohort_keys (table_at place members) ≡ Ok tt
        → get_member (codes "name") members ≡ given_string cohort.name
        → get_member (codes "target") members ≡ optional_string (option_map (spelling_of releases) cohort.target)
        → get_member (codes "held") members ≡ optional_string (option_map (spelling_of releases) cohort.held)
        → get_member (codes "share") members ≡ optional_natural (share_given cohort.share)
        → get_member (codes "rollback") members ≡ flag cohort.rollback
        → get_member (codes "open") members ≡ flag cohort.hintable
        → cohort_of before (table_at place members) ≡ Ok (entry_of_cohort releases cohort)
    by_keys members all_known name target held share rollback open_to =
        rw (
          all_known,
          required-string place (codes "name") members cohort.name name,
          new,
          optional-string place (codes "target") members (option_map (spelling_of releases) cohort.target) target,
          optional-string place (codes "held") members (option_map (spelling_of releases) cohort.held) held,
          optional-natural place (codes "share") members (share_given cohort.share) share,
          optional-flag place (codes "rollback") members cohort.rollback rollback,
          optional-flag place (codes "open") members cohort.hintable open_to,
          unwrap_or-given cohort.rollback,
          unwrap_or-given cohort.hintable,
        ) refl

-- a name that no cohort has is that of no entry
is_named-entries : (name : List ℕ) (releases : List Release) (cohorts : List Cohort)
    → list_any (is_named name) (map (entry_of_cohort releases) cohorts) ≡ has_cohort cohorts name
is_named-entries name releases [] = refl
is_named-entries name releases (cohort ∷ cohorts) = rw (is_named-entries name releases cohorts) refl

cohorts_after-tables : (list : List ℕ) (index : ℕ) (releases : List Release) (front back : List Cohort)
    → IsOnce is_cohort (front ++ back)
    → cohorts_after (map (entry_of_cohort releases) front) list index (table_items (map (cohort_table releases) back))
    ≡ Ok (map (entry_of_cohort releases) (front ++ back))
cohorts_after-tables list index releases front [] once = rw append-nil refl
cohorts_after-tables list index releases front (cohort ∷ back) once =
    let same = (bytes_eq-Decides cohort.name cohort.name).1 refl in
    let new = list_any-before is_cohort front cohort back once cohort.name same in
    let unnamed = is_named-entries cohort.name releases front ∙ new in
    let P : List Cohort → Type 0 = λ cohorts. IsOnce is_cohort cohorts in
    let once_more = subst P (split_next front cohort back) once in
    let rest = cohorts_after-tables list (index + 1) releases (front ++ cohort ∷ []) back once_more in
    let one_more = map-append (entry_of_cohort releases) front (cohort ∷ []) in
    rw (cohort_of-cohort_table (map (entry_of_cohort releases) front) _ releases cohort unnamed, ← one_more, split_next front cohort back) rest

abbrev pub AppEntry : Type 0
AppEntry = Read (app_of newest)

abbrev pub entry_of_app : App → AppEntry
entry_of_app app =
    record {
      id = app.id;
      default = default_name app.cohorts;
      cohorts = map (entry_of_cohort app.releases) app.cohorts;
      releases = map entry_of_release app.releases;
      diffs = map (entry_of_diff app.releases) app.diffs;
    }

-- nothing is asked of each item
none_asked : {A : Type 0} (xs : List A) → AllByRecursion (λ x. Unit {0}) xs
none_asked [] = tt
none_asked (x ∷ xs) = (tt, none_asked xs)

releases_again : (list : List ℕ) (releases : List Release)
    → each_from (release_of newest) list 0 (table_items (map release_table releases)) ≡ Ok (map entry_of_release releases)
releases_again list releases =
    each_from-again (λ release. Unit {0}) (release_of newest) release_table entry_of_release
    (λ place release asked. release_of-release_table place release) list 0 releases (none_asked releases)

diffs_again : (list : List ℕ) (releases : List Release) (diffs : List Diff)
    → each_from diff_of list 0 (table_items (map (diff_table releases) diffs)) ≡ Ok (map (entry_of_diff releases) diffs)
diffs_again list releases diffs =
    each_from-again (λ diff. Unit {0}) diff_of (diff_table releases) (entry_of_diff releases)
    (λ place diff asked. diff_of-diff_table place releases diff) list 0 diffs (none_asked diffs)

mirrors_again : (list : List ℕ) (mirrors : List Mirror)
    → each_from mirror_of list 0 (table_items (map mirror_table mirrors)) ≡ Ok (map (λ mirror. mirror) mirrors)
mirrors_again list mirrors =
    each_from-again (λ mirror. Unit {0}) mirror_of mirror_table (λ mirror. mirror)
    (λ place mirror asked. mirror_of-mirror_table place mirror) list 0 mirrors (none_asked mirrors)

app_of-app_table : (place : List ℕ) (app : App) → IsValidApp app
    → app_of newest (table_at place (app_table app)) ≡ Ok (entry_of_app app)
unfolding app_of
app_of-app_table place app valid =
    by_keys (app_table app) (known_among-filled_table app_keys place fields refl)
    (get_member-filled_table (codes "id") fields) (get_member-filled_table (codes "default") fields)
    (get_member-filled_table (codes "cohort") fields) (get_member-filled_table (codes "release") fields)
    (get_member-filled_table (codes "diff") fields)
  where
    fields : List Field
    fields = app_fields app

    by_keys : (members : Members) → known app_keys (table_at place members) ≡ Ok tt
        → get_member (codes "id") members ≡ given_string app.id
        → get_member (codes "default") members ≡ given_string (default_name app.cohorts)
        → get_member (codes "cohort") members ≡ tables (map (cohort_table app.releases) app.cohorts)
        → get_member (codes "release") members ≡ tables (map release_table app.releases)
        → get_member (codes "diff") members ≡ tables (map (diff_table app.releases) app.diffs)
        → app_of newest (table_at place members) ≡ Ok (entry_of_app app)
    by_keys members all_known id default cohort release diff =
        rw (
          all_known,
          required-string place (codes "id") members app.id id,
          required-string place (codes "default") members (default_name app.cohorts) default,
          optional_tables-given place (codes "cohort") members (map (cohort_table app.releases) app.cohorts) cohort,
          optional_tables-given place (codes "release") members (map release_table app.releases) release,
          optional_tables-given place (codes "diff") members (map (diff_table app.releases) app.diffs) diff,
          cohorts_after-tables _ 0 app.releases [] app.cohorts valid.cohorts_once,
          releases_again _ app.releases,
          diffs_again _ app.releases app.diffs,
        ) refl

abbrev pub Profile : Type 0
Profile = Read (profile_of newest)

pub profile_of-profile_table : (apps : List App) (mirrors : List Mirror) → AllByRecursion IsValidApp apps → 1 ≤ length mirrors
    → profile_of newest (document (profile_table apps mirrors)) ≡ Ok (record { mirrors = mirrors; apps = map entry_of_app apps })
unfolding profile_of
profile_of-profile_table apps [] valid some = absurd (omega arith)
profile_of-profile_table apps (first ∷ others) valid some =
    by_keys (profile_table apps (first ∷ others)) (known_among-filled_table profile_keys [] fields refl)
    (get_member-filled_table (codes "mirror") fields) (get_member-filled_table (codes "app") fields)
  where
    fields : List Field
    fields = profile_fields apps (first ∷ others)

    by_keys : (members : Members) → known profile_keys (document members) ≡ Ok tt
        → get_member (codes "mirror") members ≡ tables (map mirror_table (first ∷ others))
        → get_member (codes "app") members ≡ tables (map app_table apps)
        → profile_of newest (document members) ≡ Ok (record { mirrors = first ∷ others; apps = map entry_of_app apps })
    by_keys members all_known mirror app =
        rw (
          all_known,
          required_tables-given [] (codes "mirror") members (mirror_table first) (map mirror_table others) mirror,
          optional_tables-given [] (codes "app") members (map app_table apps) app,
          mirrors_again _ (first ∷ others),
          each_from-again IsValidApp _ app_table entry_of_app app_of-app_table _ 0 apps valid,
          map-id (first ∷ others),
        ) refl
