-- The asks for the first choices of a plan.
use Rattle.std.proofs.Common.{◌≡◌, ℕ, ◌+◌, ◌<◌, List, [], ◌∷◌, ◌++◌, append_assoc, append-nil, Option, None, length, take, drop, get_or, refl, sym, ap, ◌∙◌}
use Rattle.std.proofs.lemmas.List.{take-append-drop, take_more}
use Rattle.std.proofs.lemmas.Slice.Zip.{all_zipped_more}
use Rattle.catalogue.specs.declared.mirror.Mirror.{Mirror}
use Rattle.mirror_ledger.specs.Asks.{Ask}
use Rattle.replies.specs.Replies.{AreOutcomes, IsOutcome}
use Rattle.replies.specs.declared.choices.Choice.{Choice}
use Rattle.replies.specs.Asking.{AsksFirst, AsksFor, asks_for, asks_of}

-- for no choice nothing is asked
pub AsksFor-none : (mirrors : List Mirror) (asks : List Ask) → AsksFor mirrors [] [] asks asks
AsksFor-none mirrors asks = record { decided = tt; asked = sym (append-nil asks) }

-- the asks for one more choice come last
asks_of-push :
    (mirrors : List Mirror) (plan : List (Option Choice)) (outcomes : List (Option ℕ)) (choice : Option Choice) (outcome : Option ℕ) →
    AreOutcomes mirrors plan outcomes →
    asks_of (plan ++ choice ∷ []) (outcomes ++ outcome ∷ []) ≡ asks_of plan outcomes ++ asks_for choice outcome
asks_of-push mirrors [] [] choice outcome decided = append-nil (asks_for choice outcome)
asks_of-push mirrors [] (first ∷ outcomes) choice outcome decided = absurd decided
asks_of-push mirrors (first ∷ plan) [] choice outcome decided = absurd decided
asks_of-push mirrors (first ∷ plan) (second ∷ outcomes) choice outcome decided =
    ap (λ rest. asks_for first second ++ rest) (asks_of-push mirrors plan outcomes choice outcome decided.1)
    ∙ sym (append_assoc (asks_for first second) (asks_of plan outcomes) (asks_for choice outcome))

-- one more choice is asked for
pub AsksFor-push :
    (mirrors : List Mirror) (plan : List (Option Choice)) (outcomes : List (Option ℕ)) (choice : Option Choice) (outcome : Option ℕ)
    (before between after : List Ask) →
    AsksFor mirrors plan outcomes before between →
    IsOutcome mirrors choice outcome →
    after ≡ between ++ asks_for choice outcome →
    AsksFor mirrors (plan ++ choice ∷ []) (outcomes ++ outcome ∷ []) before after
AsksFor-push mirrors plan outcomes choice outcome before between after asks is asked = record {
  decided = all_zipped_more (IsOutcome mirrors) plan outcomes choice outcome asks.decided is;
  asked =
      asked
      ∙ ap (λ front. front ++ asks_for choice outcome) asks.asked
      ∙ append_assoc before (asks_of plan outcomes) (asks_for choice outcome)
      ∙ ap (λ rest. before ++ rest) (sym (asks_of-push mirrors plan outcomes choice outcome asks.decided));
}

-- the next choice of a plan is asked for
pub AsksFor-next :
    (mirrors : List Mirror) (plan : List (Option Choice)) (index : ℕ) (outcomes : List (Option ℕ)) (outcome : Option ℕ)
    (before between after : List Ask) →
    index < length plan →
    AsksFor mirrors (take index plan) outcomes before between →
    IsOutcome mirrors (get_or plan index None) outcome →
    after ≡ between ++ asks_for (get_or plan index None) outcome →
    AsksFor mirrors (take (index + 1) plan) (outcomes ++ outcome ∷ []) before after
AsksFor-next mirrors plan index outcomes outcome before between after within asks is asked =
    rw (take_more plan index None within)
    (AsksFor-push mirrors (take index plan) outcomes (get_or plan index None) outcome before between after asks is asked)

-- what was asked for the first choices of a plan
pub AsksFirst-take :
    (mirrors : List Mirror) (plan : List (Option Choice)) (count : ℕ) (outcomes : List (Option ℕ)) (before after : List Ask) →
    AsksFor mirrors (take count plan) outcomes before after →
    AsksFirst mirrors plan before after
AsksFirst-take mirrors plan count outcomes before after asks = record {
  first = take count plan;
  rest = drop count plan;
  outcomes = outcomes;
  parts = sym (take-append-drop count plan);
  asked = asks;
}

-- nothing was asked
pub AsksFirst-none : (mirrors : List Mirror) (plan : List (Option Choice)) (asks : List Ask) → AsksFirst mirrors plan asks asks
AsksFirst-none mirrors plan asks = record {
  first = [];
  rest = plan;
  outcomes = [];
  parts = refl;
  asked = AsksFor-none mirrors asks;
}

-- all of the plan was asked for
pub AsksFirst-all :
    (mirrors : List Mirror) (plan : List (Option Choice)) (outcomes : List (Option ℕ)) (before after : List Ask) →
    AsksFor mirrors plan outcomes before after →
    AsksFirst mirrors plan before after
AsksFirst-all mirrors plan outcomes before after asks = record {
  first = plan;
  rest = [];
  outcomes = outcomes;
  parts = sym (append-nil plan);
  asked = asks;
}
