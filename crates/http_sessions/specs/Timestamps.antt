-- When the replies to the messages of a connection began; this project's profile.
use Rattle.std.specs.Prelude.{◌≡◌, ⊤, ◌+◌, ℕ, List, [], ◌∷◌, ◌++◌, flat_map, length, Option, None, Some}
use Rattle.std.specs.List.{AllByRecursion}
use Rattle.http_desks.specs.Uses.{Asked, Barred, Fetched, Misused, Paged, Unknown, Untaken, Use}
use Rattle.http_ports.specs.declared.timestamp.Timestamp.{Timestamp}
use Rattle.http_sessions.specs.Messages.{Exchange, exchange_bytes, open_reply}
use Rattle.http_sessions.specs.Stops.{Bad, Last, Long, More, Refuses, Stop, Waits}

-- the desk was asked at this timestamp, if it was
abbrev pub IsAskedAt : Use → ℕ → Type 0
IsAskedAt (Asked time answer) seconds = time ≡ seconds
IsAskedAt (Paged path method page) seconds = ⊤
IsAskedAt Misused seconds = ⊤
IsAskedAt Barred seconds = ⊤
IsAskedAt (Unknown name) seconds = ⊤
IsAskedAt (Untaken name declared) seconds = ⊤
IsAskedAt (Fetched name declared fetch) seconds = ⊤

-- anyhow
abbrev pub IsAnyTime : ℕ → Type 0
IsAnyTime seconds = ⊤

-- at this timestamp a message waited whole that begins after so many bytes, and just so many had been sent
pub record IsStart (start gone : ℕ) (message : List ℕ) (Asks : ℕ → Type 0) (timestamp : Timestamp) : Type 0 where
  pub more : List ℕ
  pub waited : timestamp.waiting ≡ Some (message ++ more)
  pub came : timestamp.received ≡ start + length (message ++ more)
  pub sent : timestamp.sent ≡ gone
  pub asked : Asks timestamp.seconds

-- one of these timestamps is such a one
pub record HasStart (timestamps : List Timestamp) (start gone : ℕ) (message : List ℕ) (Asks : ℕ → Type 0) : Type 0 where
  pub earlier : List Timestamp
  pub timestamp : Timestamp
  pub after : List Timestamp
  pub among : timestamps ≡ earlier ++ timestamp ∷ after
  pub is_start : IsStart start gone message Asks timestamp

-- rule: Timestamp of a reply
-- each reply has a timestamp, at which the desk was asked if it was: it was given once the last byte of the message had
-- come and all replies before this one were sent, and none of this one; of messages that begin after so many bytes, with
-- replies that begin after so many
abbrev pub AreTimed : List ℕ → List Timestamp → ℕ → ℕ → List Exchange → Type 0
AreTimed kind timestamps come gone [] = ⊤
AreTimed kind timestamps come gone (e ∷ exchanges) =
    HasStart timestamps come gone (exchange_bytes e) (IsAskedAt e.used)
    × AreTimed kind timestamps (come + length (exchange_bytes e)) (gone + length (open_reply kind e)) exchanges

-- so has the reply to the last message, or to bytes that no message begins with
abbrev pub IsLastTimed : List Timestamp → ℕ → ℕ → Stop → Type 0
IsLastTimed timestamps come gone More = ⊤
IsLastTimed timestamps come gone Waits = ⊤
IsLastTimed timestamps come gone Bad = HasStart timestamps come gone [] IsAnyTime
IsLastTimed timestamps come gone Long = HasStart timestamps come gone [] IsAnyTime
IsLastTimed timestamps come gone (Refuses head status) = HasStart timestamps come gone [] IsAnyTime
IsLastTimed timestamps come gone (Last e) = HasStart timestamps come gone (exchange_bytes e) (IsAskedAt e.used)

-- so many bytes are those of the first messages, and so many those of the replies to them
pub record IsBetween (kind : List ℕ) (exchanges : List Exchange) (start gone : ℕ) : Type 0 where
  pub first : List Exchange
  pub others : List Exchange
  pub among : exchanges ≡ first ++ others
  pub come : start ≡ length (flat_map exchange_bytes first)
  pub sent : gone ≡ length (flat_map (open_reply kind) first)

-- if bytes waited with which a message may begin, then these were all after the first messages, and what had been sent was
-- the replies to them
abbrev pub IsPlaced : List ℕ → List Exchange → ℕ → ℕ → Option (List ℕ) → Type 0
IsPlaced kind exchanges received sent None = ⊤
IsPlaced kind exchanges received sent (Some waiting) =
    (start : ℕ) × (received ≡ start + length waiting) × IsBetween kind exchanges start sent

-- rule: Begin of a message
-- so it is at each timestamp: no bytes wait for a message while the reply to one is under way
abbrev pub ArePlaced : List ℕ → List Exchange → List Timestamp → Type 0
ArePlaced kind exchanges timestamps =
    AllByRecursion (λ (t : Timestamp). IsPlaced kind exchanges t.received t.sent t.waiting) timestamps
