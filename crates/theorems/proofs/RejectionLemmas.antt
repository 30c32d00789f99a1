-- The rejections of a work's events, by what it asks for.
use Rattle.std.proofs.Common.{◌≡◌, ℕ, zero, suc, ◌+◌, ◌≤◌, List, [], ◌∷◌, length, Option, None, Some, refl, arith}
use Rattle.std.specs.List.{AllByRecursion}
use Rattle.mirror_ledger.specs.Asks.{Ask}
use Rattle.mirror_ledger.specs.Tills.{AreFull}
use Rattle.catalogue.specs.declared.mirror.Mirror.{Mirror}
use Rattle.theorems.specs.Calls.{Break, Look, Nothing, Reply, Work, ask_events, asks_events, asks_in, events_of, rejections}
use Rattle.theorems.specs.Events.{Drop, Grant, Render}
use Rattle.theorems.specs.InterleavingServed.{IsOfFull}
use Rattle.theorems.proofs.KeptLemmas.{IsNamed}
use Rattle.theorems.proofs.ListLemmas.{all-append}

module _ (mirrors : List Mirror) (totals : List ℕ) (worker : ℕ) where
  -- the last mirror is among them only if all mirrors reject
  rejections-full : (bytes mirror count : ℕ) → mirror + count ≤ length mirrors →
      (mirror + count ≡ length mirrors → AreFull mirrors totals bytes) →
      AllByRecursion (IsOfFull mirrors totals) (rejections worker bytes mirror count)
  rejections-full bytes mirror zero low full = tt
  rejections-full bytes mirror (suc count) low full = (
    λ last. full (omega (arith, last, low)),
    rejections-full bytes (mirror + 1) count (omega (arith, low)) (λ all. full (omega (arith, all))),
  )

  ask-full : (bytes : ℕ) (granted : Option ℕ) → IsNamed mirrors granted →
      (granted ≡ None → AreFull mirrors totals bytes) →
      AllByRecursion (IsOfFull mirrors totals) (ask_events mirrors worker bytes granted)
  ask-full bytes None named full = rejections-full bytes 0 (length mirrors) (omega arith) (λ all. full refl)
  ask-full bytes (Some mirror) named full =
      all-append (IsOfFull mirrors totals) (rejections worker bytes 0 mirror) (Grant worker mirror bytes ∷ [])
      (rejections-full bytes 0 mirror (omega (arith, named)) (λ all. absurd (omega (arith, all, named)))) (tt, tt)

  asks-full : (asks : List Ask) → AllByRecursion (λ (ask : Ask). IsNamed mirrors ask.1) asks →
      AllByRecursion (λ (ask : Ask). ask.1 ≡ None → AreFull mirrors totals ask.0) asks →
      AllByRecursion (IsOfFull mirrors totals) (asks_events mirrors worker asks)
  asks-full [] named full = tt
  asks-full (ask ∷ asks) named full =
      all-append (IsOfFull mirrors totals) (ask_events mirrors worker ask.0 ask.1) (asks_events mirrors worker asks)
      (ask-full ask.0 ask.1 named.0 full.0) (asks-full asks named.1 full.1)

  -- so each ask that all mirrors reject is of bytes for which they have no room, if what was rejected had none
  pub work-full : (work : Work) → AllByRecursion (λ (ask : Ask). IsNamed mirrors ask.1) (asks_in work) →
      AllByRecursion (λ (ask : Ask). ask.1 ≡ None → AreFull mirrors totals ask.0) (asks_in work) →
      AllByRecursion (IsOfFull mirrors totals) (events_of mirrors worker work)
  work-full Nothing named full = tt
  work-full Look named full = (tt, (tt, tt))
  work-full (Break request tables asks) named full = (
    tt,
    (
      tt,
      all-append (IsOfFull mirrors totals) (asks_events mirrors worker asks) (Drop worker ∷ [])
          (asks-full asks named full) (tt, tt),
    ),
  )
  work-full (Reply request tables asks moment) named full = (
    tt,
    (
      tt,
      all-append (IsOfFull mirrors totals) (asks_events mirrors worker asks) (Render worker moment ∷ [])
          (asks-full asks named full) (tt, tt),
    ),
  )
