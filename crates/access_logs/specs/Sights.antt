-- What is seen at each slot of a port; this project's profile.
use Rattle.std.specs.Prelude.{◌≡◌, ◌≢◌, ⊤, ℕ, List, [], Option, None, Some, option_map}
use Rattle.http_ports.specs.Traffic.{Slot}
use Rattle.access_logs.specs.Entries.{IsKept, size_of}
use Rattle.access_logs.specs.Replies.{Piece, done_at, going_of}
use Rattle.access_logs.specs.declared.seen.Seen.{Seen}

-- what was seen is of this reply: the first bytes of its message and of itself are kept, and how many bytes it has
pub record IsSeenOf (piece : Piece) (seen : Seen) : Type 0 where
  pub message_most : seen.message.most ≡ 16384
  pub reply_most : seen.reply.most ≡ 1024
  pub message : IsKept 16384 seen.message.is_short piece.message seen.message.bytes.items
  pub reply : IsKept 1024 seen.reply.is_short piece.reply seen.reply.bytes.items
  pub size : seen.written ≡ size_of piece.reply

-- what was seen is of the reply that is under way, if a connection is open
abbrev pub IsGoing : Option Piece → Option Seen → Type 0
IsGoing None None = ⊤
IsGoing None (Some seen) = ⊥
IsGoing (Some piece) None = ⊥
IsGoing (Some piece) (Some seen) = IsSeenOf piece seen

-- a slot: the replies that are done, and the one under way
pub record Sight : Type 0 where
  pub done : List Piece
  pub going : Option Piece

-- one at which nothing has happened
abbrev pub no_sight : Sight
no_sight = record { done = []; going = None }

-- as it passed
abbrev pub sight_of : Slot → Sight
sight_of slot = record { done = done_at slot; going = option_map going_of slot.current }

-- a slot becomes so, and each other one is as before
abbrev pub Becomes : ℕ → Sight → (ℕ → Sight) → (ℕ → Sight) → Type 0
Becomes at sight old new = (new at ≡ sight) × ((k : ℕ) → k ≢ at → new k ≡ old k)
