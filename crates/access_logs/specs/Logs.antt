-- The lines of a port's log; this project's profile.
use Rattle.std.specs.Prelude.{◌≡◌, ◌≢◌, ◌⊎◌, ◌++◌, ◌==◌, ℕ, Bool, List, [], ◌∷◌, if◌then◌else◌}
use Rattle.http_ports.specs.Traffic.{Slot}
use Rattle.access_logs.specs.Queues.{Loses, Sending, Sends, note_of}
use Rattle.access_logs.specs.Entries.{IsLineOf}
use Rattle.access_logs.specs.Replies.{Piece, done_at}

-- a reply that was logged: the slot on whose connection it was sent, and whether memory ran out for what is kept of it
pub record Logged : Type 0 where
  pub slot : ℕ
  pub piece : Piece
  pub is_short : Bool

-- those of a slot
abbrev pub pieces_at : ℕ → List Logged → List Piece
pieces_at at [] = []
pieces_at at (logged ∷ more) = if logged.slot == at then logged.piece ∷ pieces_at at more else pieces_at at more

-- the line of the reply was sent, or is counted as lost
abbrev pub LogsOne : Sending → Logged → Sending → Type 0
LogsOne old logged new =
    ((line : List ℕ) × IsLineOf logged.is_short logged.piece line × Sends old new line) ⊎ Loses old new

-- one after the other
abbrev pub LogsAll : Sending → List Logged → Sending → Type 0
LogsAll old [] new = new ≡ old
LogsAll old (logged ∷ more) new = (between : Sending) × LogsOne old logged between × LogsAll between more new

-- these replies of a slot were logged, and no other
abbrev pub LogsAt : ℕ → List Piece → Sending → Sending → Type 0
LogsAt at pieces old new =
    (logged : List Logged) × LogsAll old logged new × (pieces_at at logged ≡ pieces)
    × ((k : ℕ) → k ≢ at → pieces_at k logged ≡ [])

-- a sender that has sent nothing, and lost nothing
pub record IsFresh (sender : Sending) : Type 0 where
  pub sent : sender.sent ≡ []
  pub lost : sender.lost ≡ 0

-- rule: Log of a port
-- what a sender has sent that has ended, and had sent nothing at first: the lines of replies, in the order in which
-- they were done, those of each slot just the replies that are done there; then how many were lost after the last one
pub record IsLogOf (slots : ℕ → Slot) (sent : List ℕ) : Type 0 where
  pub first : Sending
  pub last : Sending
  pub logged : List Logged
  pub fresh : IsFresh first
  pub each : (at : ℕ) → pieces_at at logged ≡ done_at (slots at)
  pub sends : LogsAll first logged last
  pub all : sent ≡ last.sent ++ note_of last.lost
