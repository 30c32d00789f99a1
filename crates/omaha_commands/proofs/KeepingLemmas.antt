-- The apps that no edit of a batch names are the same in the next edition.
use Rattle.std.proofs.Common.{◌≡◌, not, inl, inr, Bool, true, false, List, [], Result, Ok, Err, IfOk, IsOk, refl, sym, ap, ◌∙◌, subst, arith}
use Rattle.std.specs.List.{list_any}
use Rattle.std.proofs.lemmas.Bool.{false≢true}
use Rattle.std.proofs.lemmas.List.{get_or-map, get_or_past, length-map}
use Rattle.std.proofs.lemmas.Option.{slice_get_cases}
use Rattle.catalogue.specs.Forms.{same_id}
use Rattle.catalogue.specs.declared.content.App.{App}
use Rattle.catalogue.specs.Batches.{outcome, run, then_run}
use Rattle.catalogue.specs.declared.edit.Edit.{Edit}
use Rattle.catalogue.specs.declared.fault.Refused.{Refused}
use Rattle.catalogue.specs.Histories.{BatchesKeepOtherApps, HistoriesGrow, History, LeadsTo, app_named}
use Rattle.editions.specs.Editions.{Continues, content_of, content_or_none}
use Rattle.reviews.specs.Copies.{AreKept}
use Rattle.omaha_commands.specs.Keeping.{is_left, kept_flags}

no-other : (b : Bool) → not b ≡ true → b ≡ false
no-other true is = absurd (false≢true is)
no-other false is = refl

-- an app with a flag is the same after the batch
kept-flag :
    BatchesKeepOtherApps → (batch : List Edit) (apps made : List App) → outcome batch apps ≡ Ok made →
    AreKept apps made (kept_flags batch apps)
kept-flag keep batch apps made is index flag = elim (slice_get_cases apps index).1 [
  | inl there ↦
      let app = there.0 in
      let left : is_left batch app ≡ true =
      sym (get_or-map (is_left batch) apps index app false there.1 ∙ ap (is_left batch) there.3) ∙ flag in
      keep batch apps made is index app there.2 (no-other (list_any (λ edit. same_id (app_named edit) app.id) batch) left) ∙ sym there.2
  | inr past ↦
      let size = length-map apps (is_left batch) in
      absurd (false≢true (sym (get_or_past (kept_flags batch apps) index false (omega arith)) ∙ flag))
]

-- the apps without an edit are the same in the edition that a batch makes
pub AreKept-next :
    HistoriesGrow → BatchesKeepOtherApps → (history after : History) (batch : List Edit) → Continues history batch (Ok after) →
    AreKept (content_of history) (content_of after) (kept_flags batch (content_of history))
AreKept-next grow keep history after batch goes = by_run (run history []) refl goes.0
  where
    Kept : List App → List App → Type 0
    Kept apps made = AreKept apps made (kept_flags batch apps)

    by_outcome :
        (apps : List App) → run history [] ≡ Ok apps → (led : Result (List App) Refused) → outcome batch apps ≡ led → IsOk led →
        Kept (content_of history) (content_of after)
    by_outcome apps is (Ok made) leads ok =
        let before : content_of history ≡ apps = ap content_or_none is in
        let next : content_of after ≡ made = ap content_of goes.2 ∙ ap content_or_none (grow history batch apps made is leads) in
        subst (λ (xs : List App). Kept xs (content_of after)) (sym before) (subst (Kept apps) (sym next) (kept-flag keep batch apps made leads))
    by_outcome apps is (Err refused) leads ok = absurd (false≢true ok)

    by_run :
        (led : Result (List App) Refused) → run history [] ≡ led → IsOk (then_run (outcome batch) led) →
        Kept (content_of history) (content_of after)
    by_run (Ok apps) is ok = by_outcome apps is (outcome batch apps) refl ok
    by_run (Err refused) is ok = absurd (false≢true ok)

-- so are those with a flag, if the flags were made
pub AreKept-made :
    {A E : Type 0} (flags : A → List Bool) (made : Result A E) (history after : History) (batch : List Edit) (apps : List App) →
    HistoriesGrow → BatchesKeepOtherApps → Continues history batch (Ok after) → LeadsTo history apps →
    IfOk made (λ kept. flags kept ≡ kept_flags batch apps) →
    IfOk made (λ kept. AreKept (content_of history) (content_of after) (flags kept))
AreKept-made flags (Err error) history after batch apps grow keep goes led are = are
AreKept-made flags (Ok kept) history after batch apps grow keep goes led are =
    let before : content_of history ≡ apps = ap content_or_none led in
    let own : flags kept ≡ kept_flags batch (content_of history) = are ∙ ap (kept_flags batch) (sym before) in
    subst (AreKept (content_of history) (content_of after)) (sym own) (AreKept-next grow keep history after batch goes)
