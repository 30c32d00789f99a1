-- What opening and publishing come to; this project's profile.
use Rattle.std.specs.Prelude.{◌≡◌, ◌≢◌, ◌⊎◌, ℕ, List, [], ◌∷◌, All, length, Result, Ok, Err, Vec}
use Rattle.catalogue.specs.declared.edit.Edit.{Edit}
use Rattle.catalogue.specs.Histories.{History}
use Rattle.editions.specs.Editions.{Continues, IsAccepted}
use Rattle.editions.specs.declared.fault.NextError.TheVariants as next
use Rattle.publisher.specs.Sights.{Sight, fresh}
use Rattle.publisher.specs.declared.fault.PublishError.{PublishError}
use Rattle.publisher.specs.declared.fault.PublishError.TheVariants as publishing

-- rule: Publishing
-- rule: Stale base
-- what publishing a batch on a base comes to: the history with the batch at its end, which the receipt has; or,
-- with the history as before, a receipt of the history if its number is not the base, then the error of the next
-- edition, or out of memory
abbrev pub Publishes : History → ℕ → List Edit → Result History PublishError → History → Type 0
Publishes before base batch (Ok receipt) after =
    (base ≡ length before) × Continues before batch (Ok after) × (receipt ≡ after)
Publishes before base batch (Err (publishing.Stale now)) after =
    (base ≢ length before) × (now ≡ before) × (after ≡ before)
Publishes before base batch (Err (publishing.Refused refused)) after =
    (base ≡ length before) × Continues before batch (Err (next.Refused refused)) × (after ≡ before)
Publishes before base batch (Err publishing.HistoryFull) after =
    (base ≡ length before) × Continues before batch (Err next.HistoryFull) × (after ≡ before)
Publishes before base batch (Err publishing.NoPlace) after = ⊥
Publishes before base batch (Err publishing.Memory) after = after ≡ before

-- what preparing a batch on a base comes to: the history with the batch at its end; or why there is none, as publishing it
-- would say
abbrev pub Prepares : History → ℕ → List Edit → Result History PublishError → Type 0
Prepares before base batch (Ok next) = (base ≡ length before) × Continues before batch (Ok next)
Prepares before base batch (Err error) = Publishes before base batch (Err error) before

-- what showing a prepared history comes to: it is published, and the receipt has it; or it is given back, with the
-- published history as before
abbrev pub Shows : History → History → Result History History → History → Type 0
Shows before prepared (Ok receipt) after = (receipt ≡ prepared) × (after ≡ prepared)
Shows before prepared (Err back) after = (back ≡ prepared) × (after ≡ before)

-- why nothing was opened: an edit of the first batch is rejected; there is no place for a reader, although the batch
-- is accepted; or out of memory
abbrev pub FailsToOpen : List Edit → PublishError → Type 0
FailsToOpen batch (publishing.Stale now) = ⊥
FailsToOpen batch (publishing.Refused refused) = Continues [] batch (Err (next.Refused refused))
FailsToOpen batch publishing.HistoryFull = ⊥
FailsToOpen batch publishing.NoPlace = IsAccepted [] batch
FailsToOpen batch publishing.Memory = Unit {0}

-- rule: Opening
-- what opening with an edition of a history comes to: a press of it and as many views that have seen it; or there is
-- no place for a reader, or out of memory
abbrev pub OpensWith : {Z : Type 0} → History → ℕ → Result (History × Vec Sight Z) PublishError → Type 0
OpensWith history readers (Ok made) =
    (made.0 ≡ history)
    × (length made.1.items ≡ readers)
    × All (λ sight. sight ≡ fresh history) made.1.items
OpensWith history readers (Err error) = (error ≡ publishing.NoPlace) ⊎ (error ≡ publishing.Memory)

-- what opening with a first batch comes to: the same with edition 1, or an error
abbrev pub Opens : {Z : Type 0} → List Edit → ℕ → Result (History × Vec Sight Z) PublishError → Type 0
Opens batch readers (Ok made) = IsAccepted [] batch × OpensWith (batch ∷ []) readers (Ok made)
Opens batch readers (Err error) = FailsToOpen batch error
