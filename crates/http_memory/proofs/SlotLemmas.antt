-- The slots of a script, of which one seat changes.
use Rattle.std.proofs.Common.{◌≡◌, ◌∙◌, ◌<◌, ◌≤◌, ◌+◌, ℕ, zero, suc, Bool, List, [], ◌∷◌, length, Option, None, Some, refl, sym, ap, subst, inl, inr, arith}
use Rattle.std.proofs.Math.ListN.{set, get_or}
use Rattle.std.specs.Prelude.{◌⊎◌, IfSome, slice_get}
use Rattle.std.specs.Option.{option_map_or}
use Rattle.std.proofs.lemmas.List.{get_or-set_other, get_or-set_same, length-set, set-get_or}
use Rattle.std.proofs.lemmas.Option.{slice_get-get_or, slice_get_past, slice_get_within}
use Rattle.http_ports.specs.Ports.{Reads, Writes}
use Rattle.http_ports.specs.Traffic.{Changes, Elsewhere, IsOpen, Slot, Traffic, unused}
use Rattle.http_ports.specs.declared.event.Event.{Event}
use Rattle.http_ports.specs.declared.event.Event.TheVariants as event
use Rattle.http_ports.specs.declared.event.Received.{Received}
use Rattle.http_ports.specs.declared.event.Received.TheVariants as received
use Rattle.http_ports.specs.declared.event.Sent.{Sent}
use Rattle.http_ports.specs.declared.event.Sent.TheVariants as sent
use Rattle.http_memory.specs.Peers.{FitsRead, FitsWrite, after_read, after_write}
use Rattle.http_memory.specs.Seats.{ChangesSeat, IsQuiet, IsQuietAt, peers_of, slot_of, slots_of}
use Rattle.http_memory.specs.declared.scripts.peer.Peer.{Peer}
use Rattle.http_memory.specs.declared.scripts.seat.Seat.{Seat}

pub slots_of-at : (seats : List Seat) (at : ℕ) (seat : Seat) → at < length seats → seat ≡ get_or seats at seat → slots_of seats at ≡ slot_of seat
slots_of-at seats at seat within is =
    ap (λ (found : Option Seat). option_map_or slot_of found unused)
    (slice_get-get_or seats at seat within ∙ ap (λ (s : Seat). Some s) (sym is))

slots_of-set-here : (seats : List Seat) (at : ℕ) (next : Seat) → at < length seats → slots_of (set seats at next) at ≡ slot_of next
slots_of-set-here seats at next within =
    slots_of-at (set seats at next) at next (subst (λ (n : ℕ). at < n) (sym (length-set seats at next)) within)
    (sym (get_or-set_same seats at next next within))

-- an index is one of a list's, or past its end
split : (k length : ℕ) → (k < length) ⊎ (length ≤ k)
split k zero = inr (omega arith)
split zero (suc length) = inl (omega arith)
split (suc k) (suc length) =
    elim (split k length) as (λ _. (suc k < suc length) ⊎ (suc length ≤ suc k))
    [ inl below ↦ inl (omega (arith, below)) | inr past ↦ inr (omega (arith, past)) ]

slots_of-set-elsewhere : (seats : List Seat) (at : ℕ) (next : Seat) → Elsewhere at (slots_of seats) (slots_of (set seats at next))
slots_of-set-elsewhere seats at next k other = elim (split k (length seats)) [
  | inl below ↦ ap (λ (found : Option Seat). option_map_or slot_of found unused)
      (slice_get-get_or (set seats at next) k next (subst (λ (n : ℕ). k < n) (sym (length-set seats at next)) below)
      ∙ ap (λ (s : Seat). Some s) (get_or-set_other seats at k next next other)
      ∙ sym (slice_get-get_or seats k next below))
  | inr past ↦ ap (λ (found : Option Seat). option_map_or slot_of found unused)
      (slice_get_past (set seats at next) k (subst (λ (n : ℕ). n ≤ k) (sym (length-set seats at next)) past)
      ∙ sym (slice_get_past seats k past))
]

-- a slot with a connection is one of those that there are
pub within_slots : (seats : List Seat) (at : ℕ) → IsOpen (slots_of seats at) → at < length seats
within_slots seats at (traffic, live) = of_found (slice_get seats at) refl live
  where
    of_found :
        (found : Option Seat) → slice_get seats at ≡ found → (option_map_or slot_of found unused).current ≡ Some traffic → at < length seats
    of_found None is live = cc live
    of_found (Some seat) is live = slice_get_within seats at seat is

pub changes_at :
    (seats : List Seat) (at : ℕ) (seat next : Seat) (change : Traffic → Traffic) →
    at < length seats → seat ≡ get_or seats at seat → ChangesSeat change seat next →
    Changes at change (slots_of seats) (slots_of (set seats at next))
changes_at seats at seat next change within is changes = (
  λ traffic live.
      let here = slots_of-at seats at seat within is in
      slots_of-set-here seats at next within
      ∙ changes traffic (ap (λ (slot : Slot). slot.current) (sym here) ∙ live)
      ∙ ap (λ (slot : Slot). record { ended = slot.ended; current = Some (change traffic) }) (sym here),
  slots_of-set-elsewhere seats at next,
)

pub reads_at :
    (result : Received) (cells : List ℕ) (old new : ℕ → Slot) (at : ℕ) →
    FitsRead result cells → Changes at (after_read result cells) old new → Reads at result cells old new
reads_at (received.Bytes count) cells old new at fits changes = (fits.0, fits.1, changes)
reads_at received.Nothing cells old new at fits changes = changes
reads_at received.End cells old new at fits changes = changes
reads_at received.Failure cells old new at fits changes = changes

pub writes_at :
    (result : Sent) (bytes : List ℕ) (old new : ℕ → Slot) (at : ℕ) →
    FitsWrite result bytes → Changes at (after_write result bytes) old new → Writes at result bytes old new
writes_at (sent.Bytes count) bytes old new at fits changes = (fits.0, fits.1, changes)
writes_at sent.Nothing bytes old new at fits changes = changes
writes_at sent.Failure bytes old new at fits changes = changes

-- a seat that is put back as it was
pub set-same : (seats : List Seat) (at : ℕ) (seat next : Seat) → next ≡ get_or seats at seat → set seats at next ≡ seats
set-same seats at seat next same = ap (λ (s : Seat). set seats at s) same ∙ set-get_or seats at seat

-- the seat at an index is quiet
pub quiet_at :
    (seats : List Seat) (at : ℕ) (seat : Seat) (patient : Bool) → at < length seats → seat ≡ get_or seats at seat →
    IsQuiet patient seat → IsQuietAt patient seats at
quiet_at seats at seat patient within is quiet =
    subst (λ (found : Option Seat). IfSome found (IsQuiet patient))
    (sym (slice_get-get_or seats at seat within ∙ ap (λ (s : Seat). Some s) (sym is))) quiet

-- an index below the next one is below, or the last
pub below_or_last : (k n : ℕ) → k < n + 1 → (k < n) ⊎ (k ≡ n)
below_or_last k zero below = inr (omega (arith, below))
below_or_last zero (suc n) below = inl (omega arith)
below_or_last (suc k) (suc n) below =
    elim (below_or_last k n (omega (arith, below))) as (λ _. (suc k < suc n) ⊎ (suc k ≡ suc n))
    [ inl before ↦ inl (omega (arith, before)) | inr last ↦ inr (ap suc last) ]

-- one more seat begins anew
pub rewound :
    (seats : List Seat) (at : ℕ) (next : Seat) → at < length seats → slot_of next ≡ unused →
    ((k : ℕ) → k < at → slots_of seats k ≡ unused) → (k : ℕ) → k < at + 1 → slots_of (set seats at next) k ≡ unused
rewound seats at next within fresh before k below = elim (below_or_last k at below) [
  | inl earlier ↦ slots_of-set-elsewhere seats at next k (λ same. omega (arith, earlier, same)) ∙ before k earlier
  | inr last ↦ ap (slots_of (set seats at next)) last ∙ slots_of-set-here seats at next within ∙ fresh
]

-- all begin anew if those that there are do
pub all_unused :
    (seats : List Seat) → ((k : ℕ) → k < length seats → slots_of seats k ≡ unused) → (k : ℕ) → slots_of seats k ≡ unused
all_unused seats each k = elim (split k (length seats)) [
  | inl below ↦ each k below
  | inr past ↦ ap (λ (found : Option Seat). option_map_or slot_of found unused) (slice_get_past seats k past)
]

-- a seat becomes another one with its peers
pub peers_of-set :
    (seats : List Seat) (at : ℕ) (seat next : Seat) → seat ≡ get_or seats at seat → next.peers.items ≡ seat.peers.items →
    peers_of (set seats at next) ≡ peers_of seats
peers_of-set [] at seat next is same = refl
peers_of-set (first ∷ seats) zero seat next is same =
    ap (λ (peers : List Peer). peers ∷ peers_of seats) (same ∙ ap (λ (s : Seat). s.peers.items) is)
peers_of-set (first ∷ seats) (suc at) seat next is same =
    ap (λ (others : List (List Peer)). first.peers.items ∷ others) (peers_of-set seats at seat next is same)
