-- Numbers of all slots, summed; this project's profile.
use Rattle.std.specs.Prelude.{◌+◌, ℕ, zero, suc, length}
use Rattle.http_ports.specs.Traffic.{Slot, connections_of}

-- the sum over the first so many slots
abbrev pub sum_below : ℕ → (ℕ → ℕ) → ℕ
sum_below zero number = 0
sum_below (suc slots) number = sum_below slots number + number slots

-- how many connections there were and are
abbrev pub connections_in : ℕ → (ℕ → Slot) → ℕ
connections_in capacity slots = sum_below capacity (λ at. connections_of (slots at))

-- how many have ended
abbrev pub ended_in : ℕ → (ℕ → Slot) → ℕ
ended_in capacity slots = sum_below capacity (λ at. length (slots at).ended)
