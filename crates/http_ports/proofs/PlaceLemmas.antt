-- What is kept for a slot: of one more slot, and of one that has a connection.
use Rattle.std.proofs.Common.{◌≡◌, ◌∙◌, ◌<◌, ◌++◌, ℕ, zero, suc, List, [], ◌∷◌, length, Option, None, refl, ap, arith}
use Rattle.std.specs.Prelude.{option_map}
use Rattle.http_ports.specs.Loops.{kept_at}
use Rattle.http_ports.specs.Traffic.{IsOpen, Slot, Traffic}
use Rattle.http_ports.specs.Books.{is_waiting, kept_waits, slot_waits}
use Rattle.http_ports.specs.declared.books.place.Place.{Place}

-- one more slot without a connection
pub kept_at-push :
    {C : Type 0} (items : List (Option C)) →
    ((k : ℕ) → kept_at items k ≡ None) → (k : ℕ) → kept_at (items ++ None ∷ []) k ≡ None
kept_at-push [] empty zero = refl
kept_at-push [] empty (suc k) = refl
kept_at-push (item ∷ items) empty zero = empty zero
kept_at-push (item ∷ items) empty (suc k) = kept_at-push items (λ j. empty (suc j)) k

-- a slot with a connection is one of those that there are
pub open_within :
    {S : Type 0} (places : List (Option (Place S))) (at : ℕ) (slot : Slot) →
    kept_waits (kept_at places at) ≡ slot_waits slot → IsOpen slot → at < length places
open_within [] at slot tied (traffic, live) =
    cc (tied ∙ ap (λ (o : Option Traffic). option_map (λ (t : Traffic). is_waiting t.last) o) live)
open_within (place ∷ places) zero slot tied live = omega arith
open_within (place ∷ places) (suc at) slot tied live = omega (arith, open_within places at slot tied live)
