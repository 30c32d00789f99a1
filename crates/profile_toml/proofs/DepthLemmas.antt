-- The tables of a profile nest less deep than a TOML document may.
use Rattle.std.proofs.Common.{◌≡◌, ℕ, ◌+◌, ◌≤◌, Bool, true, false, List, [], ◌∷◌, map, Option, Some, None, refl, arith}
use Rattle.std.specs.List.{AllByRecursion}
use Rattle.catalogue.specs.declared.content.App.{App}
use Rattle.catalogue.specs.declared.content.Cohort.{Cohort}
use Rattle.catalogue.specs.declared.content.Diff.{Diff}
use Rattle.catalogue.specs.declared.content.Release.{Release}
use Rattle.catalogue.specs.declared.mirror.Mirror.{Mirror}
use Rattle.toml.specs.Data.{Members, items_depth, members_depth}
use Rattle.profile_toml.proofs.KeyLemmas.{members_depth-filled_table, value_depth}
use Rattle.profile_toml.specs.WrittenFields.{app_fields, app_table, cohort_fields, cohort_table, diff_fields, diff_table, floor_given, mirror_fields, mirror_table, profile_fields, profile_table, release_fields, release_table, share_given}
use Rattle.profile_toml.specs.WrittenTables.{flag, optional_natural, optional_string, optional_list, table_items, tables, string_items}

items_depth-string_items : (texts : List (List ℕ)) → items_depth (string_items texts) ≡ 0
items_depth-string_items [] = refl
items_depth-string_items (text ∷ texts) = let others = items_depth-string_items texts in omega arith

items_depth-table_items : (bound : ℕ) (list : List Members) → AllByRecursion (λ one. members_depth one ≤ bound) list
    → items_depth (table_items list) ≤ bound + 1
items_depth-table_items bound [] shallow = omega arith
items_depth-table_items bound (one ∷ others) shallow =
    let first = shallow.0 in
    let rest = items_depth-table_items bound others shallow.1 in
    omega arith

value_depth-tables : (bound : ℕ) (list : List Members) → AllByRecursion (λ one. members_depth one ≤ bound) list
    → value_depth (tables list) ≤ bound + 2
value_depth-tables bound [] shallow = omega arith
value_depth-tables bound (one ∷ others) shallow =
    let items = items_depth-table_items bound (one ∷ others) shallow in omega arith

value_depth-flag : (on : Bool) → value_depth (flag on) ≤ 1
value_depth-flag true = omega arith
value_depth-flag false = omega arith

value_depth-optional_string : (string : Option (List ℕ)) → value_depth (optional_string string) ≤ 1
value_depth-optional_string None = omega arith
value_depth-optional_string (Some string) = omega arith

value_depth-optional_natural : (number : Option ℕ) → value_depth (optional_natural number) ≤ 1
value_depth-optional_natural None = omega arith
value_depth-optional_natural (Some number) = omega arith

value_depth-optional_list : (texts : Option (List (List ℕ))) → value_depth (optional_list texts) ≤ 1
value_depth-optional_list None = omega arith
value_depth-optional_list (Some texts) = let flat = items_depth-string_items texts in omega arith

all_shallow : {X : Type 0} (write : X → Members) (bound : ℕ) → ((x : X) → members_depth (write x) ≤ bound)
    → (xs : List X) → AllByRecursion (λ one. members_depth one ≤ bound) (map write xs)
all_shallow write bound shallow [] = tt
all_shallow write bound shallow (x ∷ xs) = (shallow x, all_shallow write bound shallow xs)

mirror_shallow : (mirror : Mirror) → members_depth (mirror_table mirror) ≤ 1
mirror_shallow mirror =
    members_depth-filled_table 1 (mirror_fields mirror) (omega arith, (omega arith, (omega arith, tt)))

release_shallow : (release : Release) → members_depth (release_table release) ≤ 1
release_shallow release =
    members_depth-filled_table 1 (release_fields release) (
      omega arith,
      (
        omega arith,
        (
          omega arith,
          (
            omega arith,
            (
              value_depth-flag release.stone,
              (
                value_depth-flag release.withdrawn,
                (
                  value_depth-optional_list release.audience,
                  (value_depth-optional_string (floor_given release.floor), tt),
                ),
              ),
            ),
          ),
        ),
      ),
    )

diff_shallow : (releases : List Release) (diff : Diff) → members_depth (diff_table releases diff) ≤ 1
diff_shallow releases diff =
    members_depth-filled_table 1 (diff_fields releases diff)
    (omega arith, (omega arith, (omega arith, (omega arith, (omega arith, tt)))))

cohort_shallow : (releases : List Release) (cohort : Cohort) → members_depth (cohort_table releases cohort) ≤ 1
cohort_shallow releases cohort =
    members_depth-filled_table 1 (cohort_fields releases cohort) (
      omega arith,
      (
        value_depth-optional_string _,
        (
          value_depth-optional_string _,
          (
            value_depth-optional_natural (share_given cohort.share),
            (
              value_depth-flag cohort.rollback,
              (value_depth-flag cohort.hintable, tt),
            ),
          ),
        ),
      ),
    )

app_shallow : (app : App) → members_depth (app_table app) ≤ 3
app_shallow app =
    members_depth-filled_table 3 (app_fields app) (
      omega arith,
      (
        omega arith,
        (
          value_depth-tables 1 _ (all_shallow (cohort_table app.releases) 1 (cohort_shallow app.releases) app.cohorts),
          (
            value_depth-tables 1 _ (all_shallow release_table 1 release_shallow app.releases),
            (value_depth-tables 1 _ (all_shallow (diff_table app.releases) 1 (diff_shallow app.releases) app.diffs), tt),
          ),
        ),
      ),
    )

pub profile_shallow : (apps : List App) (mirrors : List Mirror) → members_depth (profile_table apps mirrors) ≤ 5
profile_shallow apps mirrors =
    let deep = all_shallow mirror_table 1 mirror_shallow mirrors in
    let mirror_list = value_depth-tables 1 (map mirror_table mirrors) deep in
    members_depth-filled_table 5 (profile_fields apps mirrors) (
      omega arith,
      (
        omega arith,
        (value_depth-tables 3 _ (all_shallow app_table 3 app_shallow apps), tt),
      ),
    )
