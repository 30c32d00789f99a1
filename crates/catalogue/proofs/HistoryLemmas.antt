-- A history that is accepted is one walk over all its edits, and what each accepted edit does to
-- something that is read of a content is done by the whole walk.
use Rattle.std.proofs.Common.{◌≡◌, ℕ, ◌+◌, Bool, ◌||◌, List, [], ◌∷◌, ◌++◌, Option, Some, None, Result, Ok, Err, refl, ap, sym, ◌∙◌}
use Rattle.std.proofs.Math.Bool.{or-false, or_assoc}
use Rattle.std.specs.List.{list_any}
use Rattle.std.specs.Option.{unwrap_or}
use Rattle.catalogue.specs.Batches.{outcome, outcome_from, run, then_run, unless_refused}
use Rattle.catalogue.specs.Edits.{after, fault_of}
use Rattle.catalogue.specs.Histories.{edits_of, last_set}
use Rattle.catalogue.specs.declared.content.App.{App}
use Rattle.catalogue.specs.declared.edit.Edit.{Edit}
use Rattle.catalogue.specs.declared.fault.Fault.{Fault}
use Rattle.catalogue.specs.declared.fault.Refused.{Refused}

-- each edit is accepted after those before it, and all of them make the content
abbrev pub Makes : List Edit → List App → List App → Type 0
Makes [] apps made = made ≡ apps
Makes (e ∷ edits) apps made = (fault_of apps e ≡ None) × Makes edits (after apps e) made

pub Makes-append :
    (first second : List Edit) (apps middle made : List App) →
    Makes first apps middle →
    Makes second middle made →
    Makes (first ++ second) apps made
Makes-append [] second apps middle made same h = let P : List App → Type 0 = λ from. Makes second from made in rw same at h
Makes-append (e ∷ edits) second apps middle made g h = (g.0, Makes-append edits second (after apps e) middle made g.1 h)

pub Makes-from_outcome :
    (index : ℕ) (edits : List Edit) (apps made : List App) →
    outcome_from index edits apps ≡ Ok made →
    Makes edits apps made
Makes-from_outcome index [] apps made h = cc
Makes-from_outcome index (e ∷ edits) apps made h =
    cases (fault_of apps e) h (Makes-from_outcome (index + 1) edits (after apps e) made)
  where
    cases :
        (o : Option Fault) →
        unless_refused index o (outcome_from (index + 1) edits (after apps e)) ≡ Ok made →
        (outcome_from (index + 1) edits (after apps e) ≡ Ok made → Makes edits (after apps e) made) →
        (o ≡ None) × Makes edits (after apps e) made
    cases None others makes = (refl, makes others)
    cases (Some fault) refused makes = absurd cc

pub Makes-from_run :
    (history : List (List Edit)) (apps made : List App) →
    run history apps ≡ Ok made →
    Makes (edits_of history) apps made
Makes-from_run [] apps made h = cc
Makes-from_run (batch ∷ batches) apps made h =
    cases (outcome batch apps) refl h (λ middle. Makes-from_run batches middle made)
  where
    cases :
        (o : Result (List App) Refused) →
        outcome batch apps ≡ o →
        then_run (run batches) o ≡ Ok made →
        ((middle : List App) → run batches middle ≡ Ok made → Makes (edits_of batches) middle made) →
        Makes (edits_of (batch ∷ batches)) apps made
    cases (Ok middle) accepted others makes = Makes-append batch (edits_of batches) apps middle made (Makes-from_outcome 0 batch apps middle accepted) (makes middle others)
    cases (Err refused) is others makes = absurd cc

-- what each accepted edit makes true where it was true before or the edit passes, all edits make true
-- where it was true before or some edit passes
pub list_any-Makes :
    (reads : List App → Bool) (adds : Edit → Bool) →
    ((apps : List App) (e : Edit) → fault_of apps e ≡ None → reads (after apps e) ≡ (reads apps || adds e)) →
    (edits : List Edit) (apps made : List App) →
    Makes edits apps made →
    reads made ≡ (reads apps || list_any adds edits)
list_any-Makes reads adds step [] apps made same = ap reads same ∙ sym (or-false (reads apps))
list_any-Makes reads adds step (e ∷ edits) apps made h =
    list_any-Makes reads adds step edits (after apps e) made h.1
    ∙ ap (λ b. b || list_any adds edits) (step apps e h.0)
    ∙ or_assoc (reads apps) (adds e) (list_any adds edits)

-- what each accepted edit sets or else leaves is what the last of all edits set, or else the first value
pub last_set-Makes :
    {A : Type 0} (reads : List App → A) (sets : Edit → Option A) →
    ((apps : List App) (e : Edit) → fault_of apps e ≡ None → reads (after apps e) ≡ unwrap_or (sets e) (reads apps)) →
    (edits : List Edit) (apps made : List App) →
    Makes edits apps made →
    reads made ≡ last_set sets (reads apps) edits
last_set-Makes reads sets step [] apps made same = ap reads same
last_set-Makes reads sets step (e ∷ edits) apps made h =
    last_set-Makes reads sets step edits (after apps e) made h.1
    ∙ ap (λ value. last_set sets value edits) (step apps e h.0)

-- what each accepted edit keeps holds of what all edits make
pub holds-Makes :
    (P : List App → Type 0) →
    ((apps : List App) (e : Edit) → fault_of apps e ≡ None → P apps → P (after apps e)) →
    (edits : List Edit) (apps made : List App) →
    Makes edits apps made →
    P apps →
    P made
holds-Makes P step [] apps made same h = rw same h
holds-Makes P step (e ∷ edits) apps made g h = holds-Makes P step edits (after apps e) made g.1 (step apps e g.0 h)

-- a batch that is accepted after a history is the history's last
pub run-append :
    (history : List (List Edit)) (batch : List Edit) (apps middle made : List App) →
    run history apps ≡ Ok middle →
    outcome batch middle ≡ Ok made →
    run (history ++ batch ∷ []) apps ≡ Ok made
run-append [] batch apps middle made h accepted =
    let same : apps ≡ middle = cc in
    ap (λ (from : List App). then_run (run []) (outcome batch from)) same ∙ ap (then_run (run [])) accepted
run-append (first ∷ batches) batch apps middle made h accepted =
    cases (outcome first apps) h (λ next others. run-append batches batch next middle made others accepted)
  where
    cases :
        (o : Result (List App) Refused) →
        then_run (run batches) o ≡ Ok middle →
        ((next : List App) → run batches next ≡ Ok middle → run (batches ++ batch ∷ []) next ≡ Ok made) →
        then_run (run (batches ++ batch ∷ [])) o ≡ Ok made
    cases (Ok next) others appended = appended next others
    cases (Err refused) others appended = absurd cc

-- what a history leads to, its first batches lead to something
pub run-prefix :
    (history more : List (List Edit)) (apps made : List App) → run (history ++ more) apps ≡ Ok made →
    (before : List App) × (run history apps ≡ Ok before)
run-prefix [] more apps made h = (apps, refl)
run-prefix (batch ∷ batches) more apps made h =
    cases (outcome batch apps) h (λ middle. run-prefix batches more middle made)
  where
    cases :
        (o : Result (List App) Refused) → then_run (run (batches ++ more)) o ≡ Ok made →
        ((middle : List App) → run (batches ++ more) middle ≡ Ok made →
        (before : List App) × (run batches middle ≡ Ok before)) →
        (before : List App) × (then_run (run batches) o ≡ Ok before)
    cases (Ok middle) others prefix = prefix middle others
    cases (Err refused) others prefix = absurd cc
