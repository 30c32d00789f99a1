-- The slots of a port over sockets.
use Rattle.std.proofs.Common.{◌≡◌, ◌∙◌, ◌<◌, ◌≤◌, ℕ, zero, suc, Bool, List, [], ◌∷◌, length, Option, None, Some, refl, sym, ap, inl, inr, arith}
use Rattle.std.specs.Prelude.{◌⊎◌, option_map}
use Rattle.http_ports.specs.Loops.{kept_at}
use Rattle.http_ports.specs.Traffic.{IsOpen, Slot, Traffic}
use Rattle.http_ports.specs.declared.last.Last.{Last}
use Rattle.http_ports.specs.declared.last.Last.TheVariants as last
use Rattle.http_ports.specs.Books.{is_waiting, kept_waits, slot_waits}
use Rattle.http_ports.specs.declared.books.place.Place.{Place}

free_of : (current : Option Traffic) → option_map (λ (t : Traffic). is_waiting t.last) current ≡ None → current ≡ None
free_of None none = refl
free_of (Some traffic) none = cc none

-- a slot of which it isn't known whether it waits has no connection
pub free : (slot : Slot) → slot_waits slot ≡ None → slot.current ≡ None
free slot none = free_of slot.current none

open_of :
    (current : Option Traffic) (waits : Bool) → Some waits ≡ option_map (λ (t : Traffic). is_waiting t.last) current →
    (traffic : Traffic) × (current ≡ Some traffic) × (is_waiting traffic.last ≡ waits)
open_of None waits some = cc some
open_of (Some traffic) waits some = (traffic, refl, cc (sym some))

-- a slot of which it is known has one
pub is_open : (slot : Slot) (waits : Bool) → Some waits ≡ slot_waits slot → IsOpen slot
is_open slot waits some = let (traffic, live, is) = open_of slot.current waits some in (traffic, live)

kept_at-past : {S : Type 0} (places : List (Option (Place S))) (at : ℕ) → length places ≤ at → kept_at places at ≡ None
kept_at-past [] at past = refl
kept_at-past (place ∷ places) zero past = absurd (omega (arith, past))
kept_at-past (place ∷ places) (suc at) past = kept_at-past places at (omega (arith, past))

below_or_past : (a b : ℕ) → (a < b) ⊎ (b ≤ a)
below_or_past a zero = inr (omega arith)
below_or_past zero (suc b) = inl (omega arith)
below_or_past (suc a) (suc b) =
    elim (below_or_past a b) as (λ _. (suc a < suc b) ⊎ (suc b ≤ suc a))
    [ inl below ↦ inl (omega (arith, below)) | inr past ↦ inr (omega (arith, past)) ]

-- no slot has a connection
pub all_free :
    {S : Type 0} (places : List (Option (Place S))) (slots : ℕ → Slot) →
    ((k : ℕ) → kept_waits (kept_at places k) ≡ slot_waits (slots k)) →
    ((k : ℕ) → k < length places → slot_waits (slots k) ≡ None) → (k : ℕ) → (slots k).current ≡ None
all_free {S} places slots tied none k = free (slots k)
    (elim (below_or_past k (length places)) [
      | inl below ↦ none k below
      | inr past ↦ sym (tied k) ∙ ap (λ (p : Option (Place S)). kept_waits p) (kept_at-past places k past)
    ])
