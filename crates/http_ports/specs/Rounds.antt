-- The calls of a desk, in the order in which they were made, each for a slot; this project's profile.
use Rattle.std.specs.Prelude.{ℕ, ◌==◌, List, [], ◌∷◌, map, if◌then◌else◌}
use Rattle.http_desks.specs.Calls.{Call}

-- a call, and the slot whose connection it was made for
pub record Round : Type 0 where
  pub slot : ℕ
  pub call : Call

-- the calls for a slot
abbrev pub calls_at : ℕ → List Round → List Call
calls_at at [] = []
calls_at at (round ∷ rounds) = if round.slot == at then round.call ∷ calls_at at rounds else calls_at at rounds

-- all calls
abbrev pub all_calls : List Round → List Call
all_calls rounds = map (λ (round : Round). round.call) rounds

-- calls for one slot
abbrev pub rounds_at : ℕ → List Call → List Round
rounds_at at calls = map (λ (call : Call). record { slot = at; call = call }) calls
