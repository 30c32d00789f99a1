-- The tables of a profile have no floats.
use Rattle.std.proofs.Common.{◌≡◌, ℕ, Bool, true, false, List, [], ◌∷◌, map, Option, Some, None, Ordering, Less, Equal, Greater, nat_cmp, refl}
use Rattle.std.proofs.lemmas.Bool.{and_parts}
use Rattle.std.specs.Cmp.Lexicographic.{slice_cmp}
use Rattle.std.specs.List.{AllByRecursion}
use Rattle.std.specs.Ordering.{match_ordering}
use Rattle.catalogue.specs.declared.content.App.{App}
use Rattle.catalogue.specs.declared.content.Cohort.{Cohort}
use Rattle.catalogue.specs.declared.content.Diff.{Diff}
use Rattle.catalogue.specs.declared.content.Release.{Release}
use Rattle.catalogue.specs.declared.mirror.Mirror.{Mirror}
use Rattle.toml.specs.Data.{Data, Members, member, no_members}
use Rattle.profile_toml.proofs.OneTextLemmas.{is_plain, items_are_plain, members_are_plain}
use Rattle.profile_toml.specs.WrittenFields.{app_fields, app_table, cohort_fields, cohort_table, diff_fields, diff_table, floor_given, mirror_fields, mirror_table, profile_fields, profile_table, release_fields, release_table, share_given}
use Rattle.profile_toml.specs.WrittenTables.{Field, flag, optional_natural, optional_string, optional_list, put, table_items, filled_table, tables, string_items, with_fields, with_key}

members_are_plain-put : (key : List ℕ) (value : Data) (filled : Members) → is_plain value ≡ true
    → members_are_plain filled ≡ true → members_are_plain (put key value filled) ≡ true
members_are_plain-put key value no_members here rest = rw here refl
members_are_plain-put key value (member first old others) here rest =
    let parts = and_parts (is_plain old) (members_are_plain others) rest in
    cases (slice_cmp nat_cmp key first) parts.0 parts.1 (members_are_plain-put key value others here parts.1)
  where
    cases : (o : Ordering) → is_plain old ≡ true → members_are_plain others ≡ true
        → members_are_plain (put key value others) ≡ true
        → members_are_plain
        (match_ordering o (member key value (member first old others)) (member first value others)
        (member first old (put key value others)))
        ≡ true
    cases Less plain after below = rw (here, plain, after) refl
    cases Equal plain after below = rw (here, after) refl
    cases Greater plain after below = rw (plain, below) refl

abbrev is_plain_value : Option Data → Bool
is_plain_value None = true
is_plain_value (Some value) = is_plain value

members_are_plain-with_key : (key : List ℕ) (value : Option Data) (filled : Members) → is_plain_value value ≡ true
    → members_are_plain filled ≡ true → members_are_plain (with_key key value filled) ≡ true
members_are_plain-with_key key None filled here rest = rest
members_are_plain-with_key key (Some value) filled here rest = members_are_plain-put key value filled here rest

members_are_plain-with_fields : (filled : Members) (fields : List Field) → members_are_plain filled ≡ true
    → AllByRecursion (λ field. is_plain_value field.1 ≡ true) fields
    → members_are_plain (with_fields filled fields) ≡ true
members_are_plain-with_fields filled [] rest plain = rest
members_are_plain-with_fields filled (field ∷ fields) rest plain =
    members_are_plain-with_fields (with_key field.0 field.1 filled) fields
    (members_are_plain-with_key field.0 field.1 filled plain.0 rest) plain.1

members_are_plain-filled_table : (fields : List Field) → AllByRecursion (λ field. is_plain_value field.1 ≡ true) fields
    → members_are_plain (filled_table fields) ≡ true
members_are_plain-filled_table fields plain = members_are_plain-with_fields no_members fields refl plain

items_are_plain-string_items : (texts : List (List ℕ)) → items_are_plain (string_items texts) ≡ true
items_are_plain-string_items [] = refl
items_are_plain-string_items (text ∷ texts) = items_are_plain-string_items texts

items_are_plain-table_items : {X : Type 0} (write : X → Members) → ((x : X) → members_are_plain (write x) ≡ true)
    → (xs : List X) → items_are_plain (table_items (map write xs)) ≡ true
items_are_plain-table_items write plain [] = refl
items_are_plain-table_items write plain (x ∷ xs) = rw (plain x) (items_are_plain-table_items write plain xs)

is_plain-tables : {X : Type 0} (write : X → Members) → ((x : X) → members_are_plain (write x) ≡ true)
    → (xs : List X) → is_plain_value (tables (map write xs)) ≡ true
is_plain-tables write plain [] = refl
is_plain-tables write plain (x ∷ xs) = items_are_plain-table_items write plain (x ∷ xs)

is_plain-flag : (on : Bool) → is_plain_value (flag on) ≡ true
is_plain-flag true = refl
is_plain-flag false = refl

is_plain-optional_string : (string : Option (List ℕ)) → is_plain_value (optional_string string) ≡ true
is_plain-optional_string None = refl
is_plain-optional_string (Some string) = refl

is_plain-optional_natural : (number : Option ℕ) → is_plain_value (optional_natural number) ≡ true
is_plain-optional_natural None = refl
is_plain-optional_natural (Some number) = refl

is_plain-optional_list : (texts : Option (List (List ℕ))) → is_plain_value (optional_list texts) ≡ true
is_plain-optional_list None = refl
is_plain-optional_list (Some texts) = items_are_plain-string_items texts

mirror_plain : (mirror : Mirror) → members_are_plain (mirror_table mirror) ≡ true
mirror_plain mirror = members_are_plain-filled_table (mirror_fields mirror) (refl, (refl, (refl, tt)))

release_plain : (release : Release) → members_are_plain (release_table release) ≡ true
release_plain release =
    members_are_plain-filled_table (release_fields release) (
      refl,
      (
        refl,
        (
          refl,
          (
            refl,
            (
              is_plain-flag release.stone,
              (
                is_plain-flag release.withdrawn,
                (
                  is_plain-optional_list release.audience,
                  (is_plain-optional_string (floor_given release.floor), tt),
                ),
              ),
            ),
          ),
        ),
      ),
    )

diff_plain : (releases : List Release) (diff : Diff) → members_are_plain (diff_table releases diff) ≡ true
diff_plain releases diff =
    members_are_plain-filled_table (diff_fields releases diff) (refl, (refl, (refl, (refl, (refl, tt)))))

cohort_plain : (releases : List Release) (cohort : Cohort) → members_are_plain (cohort_table releases cohort) ≡ true
cohort_plain releases cohort =
    members_are_plain-filled_table (cohort_fields releases cohort) (
      refl,
      (
        is_plain-optional_string _,
        (
          is_plain-optional_string _,
          (
            is_plain-optional_natural (share_given cohort.share),
            (is_plain-flag cohort.rollback, (is_plain-flag cohort.hintable, tt)),
          ),
        ),
      ),
    )

app_plain : (app : App) → members_are_plain (app_table app) ≡ true
app_plain app =
    members_are_plain-filled_table (app_fields app) (
      refl,
      (
        refl,
        (
          is_plain-tables (cohort_table app.releases) (cohort_plain app.releases) app.cohorts,
          (
            is_plain-tables release_table release_plain app.releases,
            (is_plain-tables (diff_table app.releases) (diff_plain app.releases) app.diffs, tt),
          ),
        ),
      ),
    )

pub profile_plain : (apps : List App) (mirrors : List Mirror) → members_are_plain (profile_table apps mirrors) ≡ true
profile_plain apps mirrors =
    members_are_plain-filled_table (profile_fields apps mirrors)
    (refl, (is_plain-tables mirror_table mirror_plain mirrors, (is_plain-tables app_table app_plain apps, tt)))
