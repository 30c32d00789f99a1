-- One more move of a book.
use Rattle.std.proofs.Common.{◌≡◌, ◌≢◌, ◌∙◌, ◌+◌, ◌++◌, ℕ, Bool, List, [], ◌∷◌, Option, None, Some, refl, sym, subst, ap, inl, inr, arith, if◌then◌else◌}
use Rattle.std.specs.Prelude.{option_map}
use Rattle.std.proofs.lemmas.Bool.{eq-eqb, ne_eqb}
use Rattle.std.proofs.lemmas.Bool.Decides.{eqb_tells}
use Rattle.http_ports.specs.Loops.{kept_at}
use Rattle.http_ports.specs.Ports.{Closes}
use Rattle.http_ports.specs.Traffic.{Changes, Elsewhere, Slot, Traffic, unused, with_open}
use Rattle.http_ports.specs.Books.{accepted_in, accepted_one, after_move, after_moves, changed_by, is_waiting, kept_waits, moved, slot_of, slot_waits, slots_after}
use Rattle.http_ports.specs.declared.books.moves.Change.{Change}
use Rattle.http_ports.specs.declared.books.moves.Change.TheVariants as change
use Rattle.http_ports.specs.declared.books.moves.Move.{Move}
use Rattle.http_ports.specs.declared.books.moves.Move.TheVariants as move
use Rattle.http_ports.specs.declared.books.place.Place.{Place}

after_moves-push :
    (slots : ℕ → Slot) (moves : List Move) (next : Move) (at : ℕ) →
    after_moves slots (moves ++ next ∷ []) at ≡ after_move (after_moves slots moves) next at
after_moves-push slots [] next at = refl
after_moves-push slots (first ∷ moves) next at = after_moves-push (after_move slots first) moves next at

-- the slot of the move
pub slots_after-here :
    (moves : List Move) (next : Move) → slots_after (moves ++ next ∷ []) (slot_of next) ≡ moved next (slots_after moves (slot_of next))
slots_after-here moves next =
    after_moves-push (λ at. unused) moves next (slot_of next)
    ∙ ap (λ (is : Bool). if is then moved next (slots_after moves (slot_of next)) else slots_after moves (slot_of next))
    (eq-eqb (slot_of next) (slot_of next) refl)

-- each other slot
pub slots_after-elsewhere :
    (moves : List Move) (next : Move) → Elsewhere (slot_of next) (slots_after moves) (slots_after (moves ++ next ∷ []))
slots_after-elsewhere moves next k other =
    after_moves-push (λ at. unused) moves next k
    ∙ ap (λ (is : Bool). if is then moved next (slots_after moves k) else slots_after moves k) (ne_eqb k (slot_of next) other)

pub accepted_in-push : (moves : List Move) (next : Move) → accepted_in (moves ++ next ∷ []) ≡ accepted_in moves + accepted_one next
accepted_in-push [] next = omega arith
accepted_in-push (first ∷ moves) next = let rest = accepted_in-push moves next in omega (arith, rest)

changed_slot :
    (slot : Slot) (at : ℕ) (change : Change) (traffic : Traffic) →
    slot.current ≡ Some traffic → moved (move.Changed at change) slot ≡ with_open slot (changed_by change traffic)
changed_slot slot at change traffic live =
    ap (λ (o : Option Traffic). record { ended = slot.ended; current = option_map (changed_by change) o }) live

pub changes :
    (moves : List Move) (at : ℕ) (change : Change) →
    Changes at (changed_by change) (slots_after moves) (slots_after (moves ++ move.Changed at change ∷ []))
changes moves at change = (
  λ traffic live. slots_after-here moves (move.Changed at change) ∙ changed_slot (slots_after moves at) at change traffic live,
  slots_after-elsewhere moves (move.Changed at change),
)

pub closes : (moves : List Move) (at : ℕ) → Closes at (slots_after moves) (slots_after (moves ++ move.Closed at ∷ []))
closes moves at = (
  λ traffic live. slots_after-here moves (move.Closed at)
      ∙ ap (λ (o : Option Traffic). moved (move.Closed at) (record { ended = (slots_after moves at).ended; current = o })) live,
  slots_after-elsewhere moves (move.Closed at),
)

-- what is kept and what has passed agree after a move if they do at its slot
pub tied-push :
    {S : Type 0} (old new : List (Option (Place S))) (moves : List Move) (next : Move) →
    ((k : ℕ) → kept_waits (kept_at old k) ≡ slot_waits (slots_after moves k)) →
    ((k : ℕ) → k ≢ slot_of next → kept_at new k ≡ kept_at old k) →
    kept_waits (kept_at new (slot_of next)) ≡ slot_waits (moved next (slots_after moves (slot_of next))) →
    (k : ℕ) → kept_waits (kept_at new k) ≡ slot_waits (slots_after (moves ++ next ∷ []) k)
tied-push {S} old new moves next tied elsewhere here k = elim (eqb_tells k (slot_of next)) [
  | inl (is, same) ↦ subst (λ (j : ℕ). kept_waits (kept_at new j) ≡ slot_waits (slots_after (moves ++ next ∷ []) j)) (sym same)
      (here ∙ ap slot_waits (sym (slots_after-here moves next)))
  | inr (is, other) ↦ ap (λ (p : Option (Place S)). kept_waits p) (elsewhere k other) ∙ tied k
      ∙ ap slot_waits (sym (slots_after-elsewhere moves next k other))
]

-- a change of a connection, or of none
pub waits-changed :
    {S : Type 0} (current : Option Traffic) (old : Option (Place S)) (change : Change) (waits : Bool) →
    ((traffic : Traffic) → is_waiting (changed_by change traffic).last ≡ waits) →
    kept_waits old ≡ option_map (λ (traffic : Traffic). is_waiting traffic.last) current →
    option_map (λ (p : Place S). waits) old
    ≡ option_map (λ (traffic : Traffic). is_waiting traffic.last) (option_map (changed_by change) current)
waits-changed None None change waits so tied = refl
waits-changed None (Some place) change waits so tied = cc tied
waits-changed (Some traffic) None change waits so tied = cc tied
waits-changed (Some traffic) (Some place) change waits so tied = ap (λ (b : Bool). Some b) (sym (so traffic))

-- a connection for which no call was made waits if it did before
pub waits-kept :
    (slot : Slot) (at : ℕ) (change : Change) → ((traffic : Traffic) → (changed_by change traffic).last ≡ traffic.last) →
    slot_waits (moved (move.Changed at change) slot) ≡ slot_waits slot
waits-kept slot at change same = of_current slot.current
  where
    of_current :
        (current : Option Traffic) →
        option_map (λ (traffic : Traffic). is_waiting traffic.last) (option_map (changed_by change) current)
        ≡ option_map (λ (traffic : Traffic). is_waiting traffic.last) current
    of_current None = refl
    of_current (Some traffic) = ap (λ last. Some (is_waiting last)) (same traffic)
