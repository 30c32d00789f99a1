-- An edit leaves an app that it doesn't name as it is, with its index.
use Rattle.std.proofs.Common.{◌≡◌, ℕ, zero, suc, Bool, true, false, cond, List, [], ◌∷◌, ◌++◌, Some, refl, ap, sym, ◌∙◌}
use Rattle.std.specs.List.{list_any, slice_get}
use Rattle.std.proofs.lemmas.Bool.{false≢true, or_parts}
use Rattle.catalogue.proofs.HistoryLemmas.{Makes}
use Rattle.catalogue.specs.Changes.{Change, NewApp, NewCohort, NewDiff, NewRelease, SetsCohort, SetsRelease, changed, in_cohort, in_release, new_app, new_cohort, new_diff, new_release, with_cohort, with_diff, with_release, with_release_setting, with_setting}
use Rattle.values.specs.Lists.{change}
use Rattle.catalogue.specs.Edits.{after, change_of}
use Rattle.catalogue.specs.Forms.{same_id}
use Rattle.catalogue.specs.Histories.{app_named}
use Rattle.catalogue.specs.Lookups.{is_app}
use Rattle.catalogue.specs.declared.content.App.{App}
use Rattle.catalogue.specs.declared.edit.Edit.{Edit}
use Rattle.catalogue.specs.declared.edit.Edit.TheVariants as edit

-- the identifier of the app that a change is of
abbrev pub app_changed : Change → List ℕ
app_changed (NewApp e) = e.app
app_changed (NewRelease e) = e.app
app_changed (NewDiff e) = e.app
app_changed (NewCohort e) = e.app
app_changed (SetsRelease id version new) = id
app_changed (SetsCohort id name new) = id

pub slice_get-push :
    {A : Type 0} (xs : List A) (i : ℕ) (x item : A) → slice_get xs i ≡ Some x →
    slice_get (xs ++ item ∷ []) i ≡ Some x
slice_get-push [] i x item at = absurd cc
slice_get-push (y ∷ ys) zero x item at = at
slice_get-push (y ∷ ys) (suc i) x item at = slice_get-push ys i x item at

-- an item that doesn't pass stays in its place
pub slice_get-change :
    {A : Type 0} (p : A → Bool) (f : A → A) (xs : List A) (i : ℕ) (x : A) → slice_get xs i ≡ Some x →
    p x ≡ false → slice_get (change p f xs) i ≡ Some x
slice_get-change p f [] i x at fails = absurd cc
slice_get-change p f (y ∷ ys) zero x at fails = cases (p y) refl
  where
    same : y ≡ x
    same = cc

    cases : (b : Bool) → p y ≡ b → slice_get (cond b (f y ∷ ys) (y ∷ change p f ys)) zero ≡ Some x
    cases true passes = absurd (false≢true (sym fails ∙ ap p (sym same) ∙ passes))
    cases false is = at
slice_get-change p f (y ∷ ys) (suc i) x at fails = cases (p y) (slice_get-change p f ys i x at fails)
  where
    cases :
        (b : Bool) → slice_get (change p f ys) i ≡ Some x →
        slice_get (cond b (f y ∷ ys) (y ∷ change p f ys)) (suc i) ≡ Some x
    cases true others = at
    cases false others = others

pub slice_get-changed :
    (index : ℕ) (app : App) (c : Change) (apps : List App) → same_id (app_changed c) app.id ≡ false →
    slice_get apps index ≡ Some app → slice_get (changed c apps) index ≡ Some app
slice_get-changed index app (NewApp e) apps apart at = slice_get-push apps index app (new_app e) at
slice_get-changed index app (NewRelease e) apps apart at =
    slice_get-change (is_app e.app) (with_release (new_release e)) apps index app at apart
slice_get-changed index app (NewDiff e) apps apart at =
    slice_get-change (is_app e.app) (with_diff (new_diff e)) apps index app at apart
slice_get-changed index app (NewCohort e) apps apart at =
    slice_get-change (is_app e.app) (with_cohort (new_cohort e.cohort)) apps index app at apart
slice_get-changed index app (SetsRelease id version new) apps apart at =
    slice_get-change (is_app id) (in_release version (with_release_setting new)) apps index app at apart
slice_get-changed index app (SetsCohort id name new) apps apart at =
    slice_get-change (is_app id) (in_cohort name (with_setting new)) apps index app at apart

-- an edit names the app that its change is of
pub app_named-change_of : (e : Edit) → app_changed (change_of e) ≡ app_named e
app_named-change_of (edit.AddApp e) = refl
app_named-change_of e = refl

pub slice_get-Makes :
    (index : ℕ) (app : App) (edits : List Edit) (apps made : List App) → Makes edits apps made →
    list_any (λ e. same_id (app_named e) app.id) edits ≡ false →
    slice_get apps index ≡ Some app → slice_get made index ≡ Some app
slice_get-Makes index app [] apps made same apart at =
    ap (λ (content : List App). slice_get content index) same ∙ at
slice_get-Makes index app (e ∷ edits) apps made h apart at =
    let parts = or_parts (same_id (app_named e) app.id) (list_any (λ f. same_id (app_named f) app.id) edits) apart in
    let other = ap (λ (id : List ℕ). same_id id app.id) (app_named-change_of e) ∙ parts.0 in
    slice_get-Makes index app edits (after apps e) made h.1 parts.1
    (slice_get-changed index app (change_of e) apps other at)
