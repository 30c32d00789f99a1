-- How many peers there are and have connected, at all seats, of which one changes.
use Rattle.std.proofs.Common.{◌≡◌, ◌∙◌, ◌<◌, ◌+◌, ℕ, suc, Bool, List, [], ◌∷◌, get_or, length, refl, ap, arith, take, if◌then◌else◌}
use Rattle.std.proofs.Math.ListN.{set}
use Rattle.std.specs.Prelude.{vec_len}
use Rattle.std.proofs.lemmas.List.Sums.{sum_by-cons, sum_by-set, sum_by_push}
use Rattle.std.proofs.lemmas.List.{take_more_set}
use Rattle.http_memory.specs.Seats.{AreDone, accepted_in, connected_at, peers_in}
use Rattle.http_memory.specs.declared.scripts.seat.Seat.{Seat}

abbrev peers_at : Seat → ℕ
peers_at seat = vec_len seat.peers

-- one seat has as many peers as before
pub peers_in-set :
    (seats : List Seat) (at : ℕ) (seat next : Seat) → at < length seats → seat ≡ get_or seats at seat →
    vec_len next.peers ≡ vec_len seat.peers → peers_in (set seats at next) ≡ peers_in seats
peers_in-set seats at seat next within is same =
    omega (arith, sum_by-set peers_at seats at next seat within, ap peers_at is, same)

-- one more seat, at which nobody has connected
pub accepted_in-none :
    (seats : List Seat) (at : ℕ) (next : Seat) → at < length seats → connected_at next ≡ 0 →
    accepted_in (take at seats) ≡ 0 → accepted_in (take (at + 1) (set seats at next)) ≡ 0
accepted_in-none seats at next within none before =
    ap accepted_in (take_more_set seats at next within)
    ∙ omega (arith, sum_by_push connected_at (take at seats) next, none, before)

-- if all are done, each peer has connected
pub accepted_in-done : (seats : List Seat) → AreDone seats → accepted_in seats ≡ peers_in seats
accepted_in-done [] done = refl
accepted_in-done (seat ∷ seats) done =
    let (closed, all) = done 0 seat (omega arith) in
    let here : connected_at seat ≡ seat.ended + 0 = ap (λ (is_open : Bool). seat.ended + (if is_open then 1 else 0)) closed in
    let rest = accepted_in-done seats (λ k d below. done (suc k) d (omega (arith, below))) in
    omega (arith, sum_by-cons connected_at seat seats, sum_by-cons peers_at seat seats, here, all, rest)
