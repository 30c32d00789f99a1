-- An edit leaves the releases and the differentials of an app as they are, unless it changes those of that app.
use Rattle.std.proofs.Common.{◌≡◌, ℕ, zero, suc, ◌⊎◌, inl, inr, Bool, true, false, cond, ◌&&◌, List, [], ◌∷◌, Some, refl, ap, ◌∙◌}
use Rattle.std.specs.List.{slice_get}
use Rattle.std.proofs.lemmas.Bool.{or_parts}
use Rattle.catalogue.proofs.HistoryLemmas.{Makes}
use Rattle.catalogue.proofs.OtherAppLemmas.{app_changed, app_named-change_of, slice_get-change, slice_get-changed, slice_get-push}
use Rattle.catalogue.specs.Changes.{Change, NewApp, NewCohort, NewDiff, NewRelease, SetsCohort, SetsRelease, changed, in_cohort, new_app, new_cohort, with_cohort, with_setting}
use Rattle.values.specs.Lists.{change}
use Rattle.catalogue.specs.Edits.{after, change_of}
use Rattle.catalogue.specs.Forms.{same_id}
use Rattle.catalogue.specs.Histories.{app_named, changes_releases, changes_releases_of, HasReleasesOf}
use Rattle.catalogue.specs.Lookups.{is_app}
use Rattle.catalogue.specs.declared.content.App.{App}
use Rattle.catalogue.specs.declared.edit.Edit.{Edit}
use Rattle.catalogue.specs.declared.edit.Edit.TheVariants as edit

-- the app at an index has the identifier, the releases and the differentials of another one
record Stays (app : App) (index : ℕ) (apps : List App) : Type 0 where
  new : App
  there : slice_get apps index ≡ Some new
  id : new.id ≡ app.id
  releases : new.releases ≡ app.releases
  diffs : new.diffs ≡ app.diffs

same : (app : App) (index : ℕ) (apps : List App) → slice_get apps index ≡ Some app → Stays app index apps
same app index apps at = record { new = app; there = at; id = refl; releases = refl; diffs = refl }

-- an item is changed or not
slice_get-change_either :
    {A : Type 0} (p : A → Bool) (f : A → A) (xs : List A) (i : ℕ) (x : A) → slice_get xs i ≡ Some x →
    (slice_get (change p f xs) i ≡ Some x) ⊎ (slice_get (change p f xs) i ≡ Some (f x))
slice_get-change_either {A} p f xs i x at = cases (p x) refl
  where
    cases : (b : Bool) → p x ≡ b → (slice_get (change p f xs) i ≡ Some x) ⊎ (slice_get (change p f xs) i ≡ Some (f x))
    cases false fails = inl (slice_get-change p f xs i x at fails)
    cases true passes = first xs i at
      where
        first : (ys : List A) (j : ℕ) → slice_get ys j ≡ Some x → (slice_get (change p f ys) j ≡ Some x) ⊎ (slice_get (change p f ys) j ≡ Some (f x))
        first [] j there = absurd cc
        first (y ∷ ys) zero there = head (p y)
          where
            is : y ≡ x
            is = cc

            head : (b : Bool) → (slice_get (cond b (f y ∷ ys) (y ∷ change p f ys)) zero ≡ Some x) ⊎ (slice_get (cond b (f y ∷ ys) (y ∷ change p f ys)) zero ≡ Some (f x))
            head true = inr (ap (λ z. Some (f z)) is)
            head false = inl there
        first (y ∷ ys) (suc j) there = tail (p y) (first ys j there)
          where
            tail :
                (b : Bool) → (slice_get (change p f ys) j ≡ Some x) ⊎ (slice_get (change p f ys) j ≡ Some (f x)) →
                (slice_get (cond b (f y ∷ ys) (y ∷ change p f ys)) (suc j) ≡ Some x) ⊎ (slice_get (cond b (f y ∷ ys) (y ∷ change p f ys)) (suc j) ≡ Some (f x))
            tail true either = inl there
            tail false either = either

-- a change of an app that leaves its identifier, releases and differentials as they are
Stays-change :
    (p : App → Bool) (f : App → App) (apps : List App) (index : ℕ) (app : App) → slice_get apps index ≡ Some app →
    (f app).id ≡ app.id → (f app).releases ≡ app.releases → (f app).diffs ≡ app.diffs → Stays app index (change p f apps)
Stays-change p f apps index app at id releases diffs = elim (slice_get-change_either p f apps index app at) [
  | inl there ↦ same app index (change p f apps) there
  | inr there ↦ record { new = f app; there = there; id = id; releases = releases; diffs = diffs }
]

-- the change is of releases or differentials
abbrev of_releases : Change → Bool
of_releases (NewRelease e) = true
of_releases (NewDiff e) = true
of_releases (SetsRelease id version new) = true
of_releases c = false

Stays-changed :
    (index : ℕ) (app : App) (c : Change) (apps : List App) → (of_releases c && same_id (app_changed c) app.id) ≡ false →
    slice_get apps index ≡ Some app → Stays app index (changed c apps)
Stays-changed index app (NewCohort e) apps apart at =
    Stays-change (is_app e.app) (with_cohort (new_cohort e.cohort)) apps index app at refl refl refl
Stays-changed index app (SetsCohort id name new) apps apart at =
    Stays-change (is_app id) (in_cohort name (with_setting new)) apps index app at refl refl refl
Stays-changed index app (NewApp e) apps apart at =
    same app index (changed (NewApp e) apps) (slice_get-push apps index app (new_app e) at)
Stays-changed index app (NewRelease e) apps apart at =
    same app index (changed (NewRelease e) apps) (slice_get-changed index app (NewRelease e) apps apart at)
Stays-changed index app (NewDiff e) apps apart at =
    same app index (changed (NewDiff e) apps) (slice_get-changed index app (NewDiff e) apps apart at)
Stays-changed index app (SetsRelease id version new) apps apart at =
    same app index (changed (SetsRelease id version new) apps) (slice_get-changed index app (SetsRelease id version new) apps apart at)

-- an edit changes releases or differentials if its change does
of_releases-change_of : (e : Edit) → of_releases (change_of e) ≡ changes_releases e
of_releases-change_of (edit.AddRelease e) = refl
of_releases-change_of e = refl

pub HasReleasesOf-Makes :
    (index : ℕ) (app : App) (edits : List Edit) (apps made : List App) → Makes edits apps made →
    changes_releases_of edits app.id ≡ false → slice_get apps index ≡ Some app → HasReleasesOf app made index
HasReleasesOf-Makes index app [] apps made h apart at =
    record { new = app; there = ap (λ (content : List App). slice_get content index) h ∙ at; releases = refl; diffs = refl }
HasReleasesOf-Makes index app (e ∷ edits) apps made h apart at =
    let first = changes_releases e && same_id (app_named e) app.id in
    let parts = or_parts first (changes_releases_of edits app.id) apart in
    let other =
    ap (λ (b : Bool). b && same_id (app_changed (change_of e)) app.id) (of_releases-change_of e)
    ∙ ap (λ (id : List ℕ). changes_releases e && same_id id app.id) (app_named-change_of e) ∙ parts.0 in
    let stays = Stays-changed index app (change_of e) apps other at in
    let has =
    HasReleasesOf-Makes index stays.new edits (after apps e) made h.1 (ap (changes_releases_of edits) stays.id ∙ parts.1) stays.there in
    record { new = has.new; there = has.there; releases = has.releases ∙ stays.releases; diffs = has.diffs ∙ stays.diffs }
