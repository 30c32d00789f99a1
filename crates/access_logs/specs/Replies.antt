-- The replies that pass on the connections of a port; this project's profile.
use Rattle.std.specs.Prelude.{ℕ, List, [], ◌∷◌, ◌++◌, drop, take, max, Option, None, Some}
use Rattle.http_ports.specs.Traffic.{Slot, Traffic}
use Rattle.http_ports.specs.declared.timestamp.Timestamp.{Timestamp}

-- what was sent in reply to a message, and the message's first bytes: those that waited when the reply began
pub record Piece : Type 0 where
  pub message : List ℕ
  pub reply : List ℕ

-- a reply of which nothing was sent
abbrev pub begun : List ℕ → Piece
begun message = record { message = message; reply = [] }

-- a reply to a message of which more bytes came
abbrev pub with_message : Piece → List ℕ → Piece
with_message piece bytes = record { message = piece.message ++ bytes; reply = piece.reply }

-- a reply of which more was sent
abbrev pub with_more : Piece → List ℕ → Piece
with_more piece bytes = record { message = piece.message; reply = piece.reply ++ bytes }

-- a reply begins: these bytes wait, and so many were sent before it
pub record Begin : Type 0 where
  pub message : List ℕ
  pub sent : ℕ

-- the first one of a connection, before a message may begin
abbrev pub at_first : Begin
at_first = record { message = []; sent = 0 }

-- a reply, if a byte of it was sent
abbrev pub piece_if : List ℕ → List ℕ → List Piece
piece_if message [] = []
piece_if message (byte ∷ reply) = record { message = message; reply = byte ∷ reply } ∷ []

-- a reply begins at a timestamp at which a message may begin
abbrev pub begin_at : Option (List ℕ) → ℕ → List Begin
begin_at None sent = []
begin_at (Some waiting) sent = record { message = waiting; sent = sent } ∷ []

abbrev pub begins_of : List Timestamp → List Begin
begins_of [] = []
begins_of (timestamp ∷ timestamps) = begin_at timestamp.waiting timestamp.sent ++ begins_of timestamps

-- the last one to begin
abbrev pub last_begin : Begin → List Begin → Begin
last_begin first [] = first
last_begin first (next ∷ begins) = last_begin next begins

-- those before it, each of which ends where the next one begins
abbrev pub done_from : Begin → List Begin → List ℕ → List Piece
done_from first [] sent = []
done_from first (next ∷ begins) sent =
    piece_if first.message (drop first.sent (take next.sent sent)) ++ done_from next begins sent

-- the replies of a connection that are done
abbrev pub done_of : Traffic → List Piece
done_of traffic = done_from at_first (begins_of traffic.timestamps) traffic.sent

-- the one after them, which ends with the connection
abbrev pub going_from : Begin → List ℕ → Piece
going_from last sent = record { message = last.message; reply = drop last.sent sent }

abbrev pub going_of : Traffic → Piece
going_of traffic = going_from (last_begin at_first (begins_of traffic.timestamps)) traffic.sent

-- rule: Replies of a connection
-- what was sent on a connection, cut at each timestamp at which a message may begin
abbrev pub pieces_of : Traffic → List Piece
pieces_of traffic = done_of traffic ++ piece_if (going_of traffic).message (going_of traffic).reply

-- the replies of connections that have ended, of which the latest is the first
abbrev pub ended_pieces : List Traffic → List Piece
ended_pieces [] = []
ended_pieces (traffic ∷ earlier) = ended_pieces earlier ++ pieces_of traffic

-- and those of a connection that are done, if there is one
abbrev pub with_done : List Piece → Option Traffic → List Piece
with_done before None = before
with_done before (Some traffic) = before ++ done_of traffic

-- the replies of a slot that are done
abbrev pub done_at : Slot → List Piece
done_at slot = with_done (ended_pieces slot.ended) slot.current

-- no reply begins after more bytes than these
abbrev pub latest_begin : List Begin → ℕ
latest_begin [] = 0
latest_begin (next ∷ begins) = max next.sent (latest_begin begins)
