-- The graphs of tracks without a mark have the same sources.
use Rattle.std.proofs.Common.{◌≡◌, ℕ, ◌+◌, ◌<◌, ◌≤◌, inl, inr, Bool, true, false, ◌&&◌, cond, not, List, [], ◌∷◌, ◌++◌, get_or, length, Option, None, Some, Ok, refl, sym, ap, ◌∙◌, subst, arith}
use Rattle.std.specs.List.{slice_get}
use Rattle.std.specs.Option.{option_and_then, option_map, option_map_or}
use Rattle.std.specs.Str.{bytes_eq}
use Rattle.std.proofs.Math.Seq.{get_or-append_seam}
use Rattle.std.proofs.lemmas.Bool.{and_parts, cases_eq, cases_lt, false≢true}
use Rattle.std.proofs.lemmas.List.{get_or_append_left, get_or_past, length-append}
use Rattle.std.proofs.lemmas.Option.{slice_get-get_or}
use Rattle.std.proofs.lemmas.Slice.Eq.{bytes_eq-Decides}
use Rattle.catalogue.specs.Lookups.{cohorts_at}
use Rattle.catalogue.specs.declared.content.App.{App}
use Rattle.catalogue.specs.declared.content.Cohort.{Cohort}
use Rattle.catalogue.specs.declared.content.Diff.{Diff}
use Rattle.catalogue.specs.declared.content.Release.{Release}
use Rattle.catalogue.specs.Batches.{outcome}
use Rattle.catalogue.specs.declared.edit.Edit.{Edit}
use Rattle.catalogue.specs.Histories.{changes_releases_of, BatchesKeepOtherReleases}
use Rattle.par_tables.specs.Marks.{KeepsOthers, Marks}
use Rattle.par_tables.specs.Sources.{Source, cohort_read, source_at, source_in, source_of}
use Rattle.editions.specs.Marks.{AreEach, AreMarksOf, cohorts_left, may_change, same_cohort, same_flag, same_target}

-- one item more
pub AreEach-more :
    {A : Type 0} (P : ℕ → A → Type 0) (count : ℕ) (items new : List A) (item : A) →
    AreEach P count items → P count item → new ≡ items ++ item ∷ [] → AreEach P (count + 1) new
AreEach-more {A} P count items new item are has pushed = record {
  sized = ap length pushed ∙ length-append items (item ∷ []) ∙ ap (λ n. n + 1) are.sized;
  each = λ k d below. subst (λ (xs : List A). P k (get_or xs k d)) (sym pushed) (at k d below);
}
  where
    at : (k : ℕ) (d : A) → k < count + 1 → P k (get_or (items ++ item ∷ []) k d)
    at k d below = elim (cases_eq k count) [
      | inl same ↦
          let last = ap (λ n. get_or (items ++ item ∷ []) n d) (same ∙ sym are.sized) ∙ get_or-append_seam items item [] d in
          subst (λ x. P k x) (sym last) (subst (λ n. P n item) (sym same) has)
      | inr other ↦
          let sized = are.sized in
          let within : k < length items = omega arith in
          subst (λ x. P k x) (sym (get_or_append_left items (item ∷ []) d k within)) (are.each k d (omega arith))
    ]

equal_text : (left right : List ℕ) → bytes_eq left right ≡ true → left ≡ right
equal_text left right same = (bytes_eq-Decides left right).0 same

equal_flag : (left right : Bool) → same_flag left right ≡ true → left ≡ right
equal_flag true true same = refl
equal_flag false false same = refl
equal_flag true false same = absurd cc
equal_flag false true same = absurd cc

equal_target : (left right : Option (List ℕ)) → same_target left right ≡ true → left ≡ right
equal_target None None same = refl
equal_target (Some left) (Some right) same = ap (λ (v : List ℕ). Some v) (equal_text left right same)
equal_target None (Some right) same = absurd cc
equal_target (Some left) None same = absurd cc

-- graphs read the same of two cohorts that are equal but for their shares and their open flags
cohort_read-same : (left right : Cohort) → same_cohort left right ≡ true → cohort_read left ≡ cohort_read right
cohort_read-same left right same =
    let outer = and_parts (bytes_eq left.name right.name) (same_flag left.rollback right.rollback && (same_target left.target right.target && same_target left.held right.held)) same in
    let inner = and_parts (same_flag left.rollback right.rollback) (same_target left.target right.target && same_target left.held right.held) outer.1 in
    let targets = and_parts (same_target left.target right.target) (same_target left.held right.held) inner.1 in
    let read : List ℕ → Option (List ℕ) → Option (List ℕ) → Bool → Cohort =
    λ name target held rollback. record { name = name; target = target; held = held; share = 0; rollback = rollback; hintable = false } in
    ap (λ name. read name left.target left.held left.rollback) (equal_text left.name right.name outer.0)
    ∙ ap (λ target. read right.name target left.held left.rollback) (equal_target left.target right.target targets.0)
    ∙ ap (λ held. read right.name right.target held left.rollback) (equal_target left.held right.held targets.1)
    ∙ ap (λ flag. read right.name right.target right.held flag) (equal_flag left.rollback right.rollback inner.0)

-- the sources of two cohorts that are so, in apps of the same releases and differentials
source_of-same :
    (app new : App) (old cohort : Cohort) → new.releases ≡ app.releases → new.diffs ≡ app.diffs →
    same_cohort old cohort ≡ true → source_of new cohort ≡ source_of app old
source_of-same app new old cohort releases diffs same =
    let source : List Release → List Diff → Cohort → Source = λ rs ds c. record { releases = rs; diffs = ds; cohort = c } in
    ap (λ rs. source rs new.diffs (cohort_read cohort)) releases
    ∙ ap (λ ds. source app.releases ds (cohort_read cohort)) diffs
    ∙ ap (source app.releases app.diffs) (sym (cohort_read-same old cohort same))

-- a cohort that can't have changed was there, equal but for its share and its open flag
record WasThere (before : List Cohort) (index : ℕ) (cohort : Cohort) : Type 0 where
  old : Cohort
  there : slice_get before index ≡ Some old
  same : same_cohort old cohort ≡ true

was_there : (before : List Cohort) (index : ℕ) (cohort : Cohort) → may_change before index cohort ≡ false → WasThere before index cohort
was_there before index cohort kept = cases (slice_get before index) refl kept
  where
    cases :
        (found : Option Cohort) → slice_get before index ≡ found →
        option_map_or (λ old. not (same_cohort old cohort)) found true ≡ false → WasThere before index cohort
    cases None there none = absurd cc
    cases (Some old) there some = record { old = old; there = there; same = equal (same_cohort old cohort) some }
      where
        equal : (b : Bool) → not b ≡ false → b ≡ true
        equal true is = refl
        equal false is = absurd cc

-- its app was there, and none of the edits changes its releases or its differentials
record AppWasThere (apps : List App) (batch : List Edit) (app cohort : ℕ) (old : Cohort) : Type 0 where
  was : App
  there : slice_get apps app ≡ Some was
  left : changes_releases_of batch was.id ≡ false
  inside : slice_get was.cohorts cohort ≡ Some old

app_was_there :
    (apps : List App) (batch : List Edit) (app cohort : ℕ) (old : Cohort) →
    slice_get (cohorts_left apps batch app) cohort ≡ Some old → AppWasThere apps batch app cohort old
app_was_there apps batch app cohort old inside = cases (slice_get apps app) refl inside
  where
    left :
        (was : App) → slice_get apps app ≡ Some was → (b : Bool) → changes_releases_of batch was.id ≡ b →
        slice_get (cond b [] was.cohorts) cohort ≡ Some old → AppWasThere apps batch app cohort old
    left was there true is none = absurd cc
    left was there false is some = record { was = was; there = there; left = is; inside = some }

    cases :
        (found : Option App) → slice_get apps app ≡ found →
        slice_get (option_map_or (λ was. cond (changes_releases_of batch was.id) [] was.cohorts) found []) cohort ≡ Some old →
        AppWasThere apps batch app cohort old
    cases None there none = absurd cc
    cases (Some was) there some = left was there (changes_releases_of batch was.id) refl some

-- any cohort
no_cohort : Cohort
no_cohort = record { name = []; target = None; held = None; share = 0; rollback = false; hintable = false }

-- the source of the graphs of a cohort that can't have changed
source_at-left :
    BatchesKeepOtherReleases → (apps made : List App) (batch : List Edit) (app cohort : ℕ) → outcome batch apps ≡ Ok made →
    cohort < length (cohorts_at made app) →
    may_change (cohorts_left apps batch app) cohort (get_or (cohorts_at made app) cohort no_cohort) ≡ false →
    source_at made app cohort ≡ source_at apps app cohort
source_at-left law apps made batch app cohort leads within kept =
    let made_cohort = get_or (cohorts_at made app) cohort no_cohort in
    let was = was_there (cohorts_left apps batch app) cohort made_cohort kept in
    let own = app_was_there apps batch app cohort was.old was.there in
    let has = law batch apps made leads app own.was own.there own.left in
    let listed : cohorts_at made app ≡ has.new.cohorts =
    ap (λ (found : Option App). option_map_or (λ (a : App). a.cohorts) found []) has.there in
    let at : slice_get has.new.cohorts cohort ≡ Some made_cohort =
    sym (ap (λ (cohorts : List Cohort). slice_get cohorts cohort) listed) ∙ slice_get-get_or (cohorts_at made app) cohort no_cohort within in
    ap (option_and_then (λ (a : App). source_in a cohort)) has.there
    ∙ ap (option_map (source_of has.new)) at
    ∙ ap (λ (s : Source). Some s) (source_of-same own.was has.new was.old made_cohort has.releases has.diffs was.same)
    ∙ sym (ap (option_map (source_of own.was)) own.inside)
    ∙ sym (ap (option_and_then (λ (a : App). source_in a cohort)) own.there)

-- the graphs of a track without a mark have the same source in the content that the batch leads to
pub KeepsOthers-marks :
    BatchesKeepOtherReleases → (apps made : List App) (batch : List Edit) (marks : Marks) →
    outcome batch apps ≡ Ok made → AreEach (AreMarksOf apps batch made) (length made) marks → KeepsOthers apps made marks
KeepsOthers-marks law apps made batch marks leads are key unmarked =
    elim (cases_lt key.app (length made)) [
      | inr past ↦
          let count = are.sized in
          let beyond : length marks ≤ key.app = omega arith in
          absurd (false≢true (sym unmarked ∙ ap (λ (own : List Bool). get_or own key.cohort true) (get_or_past marks key.app [] beyond)))
      | inl within ↦
          let own = get_or marks key.app [] in
          let are_own = are.each key.app [] within in
          elim (cases_lt key.cohort (length (cohorts_at made key.app))) [
            | inr past ↦
                let count = are_own.sized in
                let beyond : length own ≤ key.cohort = omega arith in
                absurd (false≢true (sym unmarked ∙ get_or_past own key.cohort true beyond))
            | inl inside ↦
                source_at-left law apps made batch key.app key.cohort leads inside
                (sym (are_own.each key.cohort true inside no_cohort) ∙ unmarked)
          ]
    ]
