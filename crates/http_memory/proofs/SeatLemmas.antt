-- A seat whose connected peer changes, or whose connection begins or ends.
use Rattle.std.proofs.Common.{◌≡◌, ◌∙◌, ◌<◌, ◌+◌, ℕ, Bool, true, false, List, [], ◌∷◌, length, map, reverse, take, Option, None, Some, refl, sym, ap, subst, if◌then◌else◌}
use Rattle.std.proofs.Math.ListN.{set, get_or}
use Rattle.std.specs.Prelude.{option_map, slice_get}
use Rattle.std.proofs.lemmas.Grind.{take_at_read}
use Rattle.std.proofs.lemmas.List.{get_or-set_same, length-set, map-append, reverse-append, take-set}
use Rattle.std.proofs.lemmas.Option.{slice_get-get_or, slice_get_within}
use Rattle.http_ports.specs.Traffic.{IsOpen, Slot, Traffic, no_traffic, with_ended, with_open}
use Rattle.http_memory.specs.Peers.{traffic_of}
use Rattle.http_memory.specs.Seats.{ended_among}
use Rattle.http_memory.specs.declared.scripts.peer.Peer.{Peer}

-- what passed at a seat, by its parts
abbrev pub slot_at : List Peer → ℕ → Bool → Slot
slot_at peers ended is_open =
    record { ended = ended_among peers ended; current = if is_open then option_map traffic_of (slice_get peers ended) else None }

-- then it has a peer
pub within_of : (peers : List Peer) (ended : ℕ) (is_open : Bool) → IsOpen (slot_at peers ended is_open) → ended < length peers
within_of peers ended false (traffic, live) = cc live
within_of peers ended true (traffic, live) = some_within (slice_get peers ended) refl live
  where
    some_within :
        (found : Option Peer) → slice_get peers ended ≡ found → option_map traffic_of found ≡ Some traffic → ended < length peers
    some_within None is live = cc live
    some_within (Some peer) is live = slice_get_within peers ended peer is

found_at : (peers : List Peer) (ended : ℕ) (peer : Peer) → ended < length peers → peer ≡ get_or peers ended peer → slice_get peers ended ≡ Some peer
found_at peers ended peer within is = slice_get-get_or peers ended peer within ∙ ap (λ (p : Peer). Some p) (sym is)

-- the traffic of the connected peer
pub current_of :
    (peers : List Peer) (ended : ℕ) (peer : Peer) → ended < length peers → peer ≡ get_or peers ended peer →
    (slot_at peers ended true).current ≡ Some (traffic_of peer)
current_of peers ended peer within is = ap (λ (found : Option Peer). option_map traffic_of found) (found_at peers ended peer within is)

replaced :
    (peers : List Peer) (ended : ℕ) (next : Peer) → ended < length peers →
    slot_at (set peers ended next) ended true ≡ record { ended = ended_among peers ended; current = Some (traffic_of next) }
replaced peers ended next within =
    let kept = ap (λ (first : List Peer). reverse (map traffic_of first)) (take-set peers ended next) in
    let found = found_at (set peers ended next) ended next (subst (λ (n : ℕ). ended < n) (sym (length-set peers ended next)) within)
    (sym (get_or-set_same peers ended next next within)) in
    ap (λ (earlier : List Traffic). record { ended = earlier; current = option_map traffic_of (slice_get (set peers ended next) ended) }) kept
    ∙ ap (λ (f : Option Peer). record { ended = ended_among peers ended; current = option_map traffic_of f }) found

-- the connected peer becomes another one, whose traffic is what the change makes of the one before
pub changes :
    (peers : List Peer) (ended : ℕ) (is_open : Bool) (peer next : Peer) (change : Traffic → Traffic) →
    IsOpen (slot_at peers ended is_open) → peer ≡ get_or peers ended peer → traffic_of next ≡ change (traffic_of peer) →
    (traffic : Traffic) → (slot_at peers ended is_open).current ≡ Some traffic →
    slot_at (set peers ended next) ended is_open ≡ with_open (slot_at peers ended is_open) (change traffic)
changes peers ended false peer next change (traffic, live) is becomes other live_too = cc live
changes peers ended true peer next change live is becomes traffic current =
    let within = within_of peers ended true live in
    let same : traffic_of peer ≡ traffic = cc (sym (current_of peers ended peer within is) ∙ current) in
    replaced peers ended next within
    ∙ ap (λ (t : Traffic). record { ended = ended_among peers ended; current = Some t }) (becomes ∙ ap change same)

-- a peer connects
pub connects :
    (peers : List Peer) (ended : ℕ) (next : Peer) → ended < length peers → traffic_of next ≡ no_traffic →
    slot_at (set peers ended next) ended true ≡ with_open (slot_at peers ended false) no_traffic
connects peers ended next within fresh =
    replaced peers ended next within
    ∙ ap (λ (t : Traffic). record { ended = ended_among peers ended; current = Some t }) fresh

-- the connected peer has ended
pub ends :
    (peers : List Peer) (ended : ℕ) (is_open : Bool) (traffic : Traffic) → (slot_at peers ended is_open).current ≡ Some traffic →
    slot_at peers (ended + 1) false ≡ with_ended (slot_at peers ended is_open) traffic
ends peers ended false traffic current = cc current
ends peers ended true traffic current = of_found (slice_get peers ended) refl current
  where
    of_found :
        (found : Option Peer) → slice_get peers ended ≡ found → option_map traffic_of found ≡ Some traffic →
        slot_at peers (ended + 1) false ≡ with_ended (slot_at peers ended true) traffic
    of_found None is some = cc some
    of_found (Some peer) is some =
        let within = slice_get_within peers ended peer is in
        let at : get_or peers ended peer ≡ peer = cc (sym (slice_get-get_or peers ended peer within) ∙ is) in
        let longer = (take_at_read peers ended peer within).1 in
        let same : traffic_of peer ≡ traffic = cc some in
        ap (λ (earlier : List Traffic). record { ended = earlier; current = None })
        (ap (λ (first : List Peer). reverse (map traffic_of first)) longer
        ∙ ap reverse (map-append traffic_of (take ended peers) (get_or peers ended peer ∷ []))
        ∙ reverse-append (map traffic_of (take ended peers)) (traffic_of (get_or peers ended peer) ∷ [])
        ∙ ap (λ (t : Traffic). t ∷ ended_among peers ended) (ap traffic_of at ∙ same))
