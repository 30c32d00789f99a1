-- The set of names of cohorts, and one cohort more.
use Rattle.std.proofs.Common.{◌≡◌, ◌∙◌, ◌||◌, ℕ, List, [], ◌∷◌, ◌++◌, Bool, true, false, cond, String, string_bytes, refl, sym, ap}
use Rattle.std.specs.BTreeSet.{BTreeSet, UpdatesBy, contains_text}
use Rattle.std.specs.Cmp.Lexicographic.{slice_cmp}
use Rattle.std.specs.List.{list_any}
use Rattle.std.specs.Ordering.{nat_cmp}
use Rattle.std.specs.Str.{bytes_eq}
use Rattle.std.specs.String.{string_cmp}
use Rattle.std.specs.declared.alloc.Global.{Global}
use Rattle.std.proofs.lemmas.List.Folds.{list_any-append}
use Rattle.std.proofs.lemmas.Map.Text.{btree_set_updates_text}
use Rattle.std.proofs.lemmas.Slice.Eq.{bytes_eq-Decides}
use Rattle.profile_toml.specs.CohortNames.{AreNames}
use Rattle.profile_toml.specs.Cohorts.{is_named}
use Rattle.profile_toml.specs.declared.cohort.CohortEntry.{CohortEntry}

bytes_eq-sym : (left right : List ℕ) → bytes_eq left right ≡ bytes_eq right left
bytes_eq-sym left right = by_test (bytes_eq left right) (bytes_eq right left) refl refl
  where
    by_test : (one other : Bool) → bytes_eq left right ≡ one → bytes_eq right left ≡ other
        → one ≡ other
    by_test true true is is_other = refl
    by_test false false is is_other = refl
    by_test true false is is_other =
        let same = (bytes_eq-Decides left right).0 is in
        let back = (bytes_eq-Decides right left).1 (sym same) in
        absurd (cc)
    by_test false true is is_other =
        let same = (bytes_eq-Decides right left).0 is_other in
        let back = (bytes_eq-Decides left right).1 (sym same) in
        absurd (cc)

one_more : (is_new had : Bool) → cond is_new true had ≡ (had || (is_new || false))
one_more true true = refl
one_more true false = refl
one_more false true = refl
one_more false false = refl

-- the set with a cohort's name has the names of the list with the cohort at its end
pub AreNames-push : (names longer : BTreeSet (String Global)) (cohorts : List CohortEntry)
    (cohort : CohortEntry) (name : String Global)
    → string_bytes name ≡ cohort.name → AreNames names cohorts
    → UpdatesBy string_cmp (λ k. slice_cmp nat_cmp (string_bytes name) (string_bytes k)) names longer true
    → AreNames longer (cohorts ++ cohort ∷ [])
AreNames-push names longer cohorts cohort name same are updates = λ other.
    let updated = btree_set_updates_text (string_bytes name) names longer true updates other in
    let apart = list_any-append (is_named other) cohorts (cohort ∷ []) in
    let swapped = bytes_eq-sym other cohort.name in
    rw (apart, ← are other, swapped, ← same, updated)
    (one_more (bytes_eq (string_bytes name) other) (contains_text names other))
