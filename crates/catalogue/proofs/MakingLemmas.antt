-- Edits that are accepted one after the other, and a content that grows item by item.
use Rattle.std.proofs.Common.{◌≡◌, ℕ, ◌+◌, Bool, true, false, cond, List, [], ◌∷◌, ◌++◌, map, Option, Some, None, Ok, refl, ap, sym, subst, ◌∙◌}
use Rattle.std.specs.List.{flat_map}
use Rattle.std.specs.Option.{is_some}
use Rattle.std.proofs.lemmas.List.{append-nil}
use Rattle.catalogue.proofs.AcceptedLemmas.{NoneHold}
use Rattle.catalogue.proofs.HistoryLemmas.{Makes, Makes-append}
use Rattle.values.proofs.SplitLemmas.{split_next}
use Rattle.catalogue.specs.Batches.{outcome_from, unless_refused}
use Rattle.catalogue.specs.Faults.{first_fault}
use Rattle.catalogue.specs.declared.content.App.{App}
use Rattle.catalogue.specs.declared.edit.Edit.{Edit}
use Rattle.catalogue.specs.declared.fault.Fault.{Fault}
use Rattle.catalogue.specs.Edits.{after, fault_of}

-- there is no fault if no test is true
pub None-from_NoneHold : (tests : List (Bool × Fault)) → NoneHold tests → first_fault tests ≡ None
None-from_NoneHold [] h = refl
None-from_NoneHold (test ∷ tests) h =
    ap (λ (b : Bool). first_fault ((b, test.1) ∷ tests)) h.0 ∙ None-from_NoneHold tests h.1

-- what is made may be named otherwise
pub Makes-same :
    (edits : List Edit) (apps made other : List App) →
    Makes edits apps made →
    made ≡ other →
    Makes edits apps other
Makes-same [] apps made other h same = sym same ∙ h
Makes-same (e ∷ edits) apps made other h same = (h.0, Makes-same edits (after apps e) made other h.1 same)

-- one accepted edit
pub Makes-one :
    (e : Edit) (apps made : List App) →
    fault_of apps e ≡ None →
    after apps e ≡ made →
    Makes (e ∷ []) apps made
Makes-one e apps made accepted same = (accepted, sym same)

-- accepted edits are a batch's outcome
pub outcome_from-Makes :
    (index : ℕ) (edits : List Edit) (apps made : List App) →
    Makes edits apps made →
    outcome_from index edits apps ≡ Ok made
outcome_from-Makes index [] apps made same = ap Ok (sym same)
outcome_from-Makes index (e ∷ edits) apps made h =
    ap (λ (o : Option Fault). unless_refused index o (outcome_from (index + 1) edits (after apps e))) h.0
    ∙ outcome_from-Makes (index + 1) edits (after apps e) made h.1

-- if the edits of each item follow from what those before it made, the edits of all items lead
-- to the end; `state` is the content once the items before are made, and those after are not
pub Makes-each :
    {A : Type 0} (state : List A → List A → List App) (edits : A → List Edit) (whole : List A) →
    ((front : List A) (x : A) (back : List A) → whole ≡ front ++ x ∷ back → Makes (edits x) (state front (x ∷ back)) (state (front ++ x ∷ []) back)) →
    (front back : List A) →
    whole ≡ front ++ back →
    Makes (flat_map edits back) (state front back) (state whole [])
Makes-each state edits whole step front [] cut =
    ap (λ items. state items []) (cut ∙ append-nil front)
Makes-each state edits whole step front (x ∷ back) cut =
    Makes-append (edits x) (flat_map edits back) (state front (x ∷ back)) (state (front ++ x ∷ []) back) (state whole []) (step front x back cut)
    (Makes-each state edits whole step (front ++ x ∷ []) back (cut ∙ split_next front x back))

-- the same of accepted edits may be said of an equal content
Makes-from_same :
    (edits : List Edit) (apps other made : List App) →
    apps ≡ other →
    Makes edits other made →
    Makes edits apps made
Makes-from_same edits apps other made same h = subst (λ (from : List App). Makes edits from made) (sym same) h

-- the same where each item has one edit
pub Makes-each_one :
    {A : Type 0} (state : List A → List A → List App) (edit : A → Edit) (whole : List A) →
    ((front : List A) (x : A) (back : List A) → whole ≡ front ++ x ∷ back → (fault_of (state front (x ∷ back)) (edit x) ≡ None) × (after (state front (x ∷ back)) (edit x) ≡ state (front ++ x ∷ []) back)) →
    (front back : List A) →
    whole ≡ front ++ back →
    Makes (map edit back) (state front back) (state whole [])
Makes-each_one state edit whole step front [] cut = ap (λ items. state items []) (cut ∙ append-nil front)
Makes-each_one state edit whole step front (x ∷ back) cut =
    let first = step front x back cut in (
      first.0,
      Makes-from_same (map edit back) (after (state front (x ∷ back)) (edit x)) (state (front ++ x ∷ []) back) (state whole []) first.1
          (Makes-each_one state edit whole step (front ++ x ∷ []) back (cut ∙ split_next front x back)),
    )

-- a flag is set if it is on; `state` is the content by the flag's value
pub Makes-flag :
    (on : Bool) (edit : Edit) (state : Bool → List App) → fault_of (state false) edit ≡ None →
    after (state false) edit ≡ state true → Makes (cond on (edit ∷ []) []) (state false) (state on)
Makes-flag true edit state accepted same = Makes-one edit (state false) (state true) accepted same
Makes-flag false edit state accepted same = refl

-- an optional value is set if there is one
pub Makes-option :
    {A : Type 0} (value : Option A) (edit : Edit) (state : Option A → List App) →
    ((x : A) → value ≡ Some x → (fault_of (state None) edit ≡ None) × (after (state None) edit ≡ state value)) →
    Makes (cond (is_some value) (edit ∷ []) []) (state None) (state value)
Makes-option None edit state step = refl
Makes-option (Some x) edit state step =
    let one = step x refl in Makes-one edit (state None) (state (Some x)) one.0 one.1
