-- What one call of a device in memory comes to; this project's profile.
use Rattle.std.specs.Prelude.{◌≡◌, ◌+◌, ◌-◌, ◌^◌, ◌<◌, ◌⊎◌, ◌==◌, ℕ, min, max, Bool, true, false, List, ◌++◌, length, take, drop, Option, None, Some, Result, Ok, Err, if◌then◌else◌, vec_len, vec_capacity}
use Rattle.values.specs.declared.failed.Failed.{Failed}
use Rattle.http_memory.specs.declared.input.Input.{Input}
use Rattle.http_memory.specs.declared.output.Output.{Output}

-- whether a call fails, by how many more succeed before one does
abbrev pub fails : Option ℕ → Bool
fails None = false
fails (Some calls) = calls == 0

-- how many more succeed after it
abbrev pub after_call : Option ℕ → Option ℕ
after_call None = None
after_call (Some calls) = if calls == 0 then None else Some (calls - 1)

-- rule: Piece of a device in memory
-- how many bytes a call moves: as many as there are and fit, but at most a piece
abbrev pub length_of_piece : ℕ → ℕ → ℕ → ℕ
length_of_piece piece there room = min (min there room) (max piece 1)

-- how many bytes a read gives
abbrev pub length_given : Input → ℕ → ℕ
length_given input room = length_of_piece input.piece (length input.left.now) room

-- how many bytes a write accepts
abbrev pub length_accepted : Output → ℕ → ℕ
length_accepted output there = length_of_piece output.piece there there

-- a read gives the first bytes that are left, or fails and gives none
abbrev pub Read : Input → Input → List ℕ → List ℕ → Result ℕ Failed → Type 0
Read old new before after (Ok count) =
    (fails old.fails_after ≡ false) × (count ≡ length_given old (length before))
    × (after ≡ take count old.left.now ++ drop count before) × (new.left.now ≡ drop count old.left.now)
Read old new before after (Err failed) =
    (fails old.fails_after ≡ true) × (after ≡ before) × (new.left.now ≡ old.left.now)

-- one read
pub record Gives (old new : Input) (before after : List ℕ) (result : Result ℕ Failed) : Type 0 where
  pub read : Read old new before after result
  pub piece : new.piece ≡ old.piece
  pub next : new.fails_after ≡ after_call old.fails_after

-- no room is left for what a write accepts
abbrev pub IsFull : Output → ℕ → Type 0
IsFull output there = vec_capacity output.bytes < vec_len output.bytes + length_accepted output there

-- a write accepts the first bytes, or fails and keeps none
abbrev pub Written : Output → Output → List ℕ → Result ℕ Failed → Type 0
Written old new bytes (Ok count) =
    (fails old.fails_after ≡ false) × (count ≡ length_accepted old (length bytes))
    × (new.bytes.items ≡ old.bytes.items ++ take count bytes) × (new.calls ≡ min (old.calls + 1) (2 ^ 64 - 1))
Written old new bytes (Err failed) =
    ((fails old.fails_after ≡ true) ⊎ IsFull old (length bytes)) × (new.bytes.items ≡ old.bytes.items) × (new.calls ≡ old.calls)

-- one write
pub record Accepts (old new : Output) (bytes : List ℕ) (result : Result ℕ Failed) : Type 0 where
  pub written : Written old new bytes result
  pub piece : new.piece ≡ old.piece
  pub next : new.fails_after ≡ after_call old.fails_after
