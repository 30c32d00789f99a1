-- What passes on the connection of a peer of a script; this project's profile.
use Rattle.std.specs.Prelude.{◌≡◌, ◌<◌, ◌≤◌, ◌-◌, ◌==◌, ⊤, ℕ, min, max, List, length, take, if◌then◌else◌, vec_len, vec_capacity}
use Rattle.http_ports.specs.Ports.{receiving, sending}
use Rattle.http_ports.specs.Traffic.{Traffic, marked}
use Rattle.http_ports.specs.declared.event.Received.{Received}
use Rattle.http_ports.specs.declared.event.Received.TheVariants as received
use Rattle.http_ports.specs.declared.event.Sent.{Sent}
use Rattle.http_ports.specs.declared.event.Sent.TheVariants as sent
use Rattle.http_ports.specs.declared.last.Last.TheVariants.{InputEnded, ReadFailed, WaitsToRead, WaitsToWrite, WriteFailed}
use Rattle.http_memory.specs.declared.scripts.peer.Finish.{Finish}
use Rattle.http_memory.specs.declared.scripts.peer.Finish.TheVariants as finish
use Rattle.http_memory.specs.declared.scripts.peer.Peer.{Peer}

-- rule: Peer of a script
-- the traffic of a peer's connection: what was received is what was read of its input, and what was sent is what it got;
-- with the timestamps that it was given
abbrev pub traffic_of : Peer → Traffic
traffic_of peer =
    record {
      received = take peer.read peer.input.items;
      sent = peer.got.items;
      timestamps = peer.timestamps;
      last = peer.last;
      expired = peer.expired;
    }

-- what a read comes to if there is no more input
abbrev pub read_at_end : Finish → Received
read_at_end finish.Ends = received.End
read_at_end finish.Fails = received.Failure
read_at_end finish.Stays = received.Nothing

-- how many bytes pass at once, of those that there are and those that there is room for
abbrev pub piece_of : Peer → ℕ → ℕ → ℕ
piece_of peer there room = min (min there room) (max peer.piece 1)

-- what a read into so many cells comes to
abbrev pub read_of : Peer → ℕ → Received
read_of peer room =
    if peer.read == vec_len peer.input then read_at_end peer.after_input
    else if peer.pauses then received.Nothing
    else received.Bytes (piece_of peer (vec_len peer.input - peer.read) room)

-- what a write comes to if there is no more room
abbrev pub write_at_limit : Finish → Sent
write_at_limit finish.Ends = sent.Failure
write_at_limit finish.Fails = sent.Failure
write_at_limit finish.Stays = sent.Nothing

-- what a write of so many bytes comes to
abbrev pub write_of : Peer → ℕ → Sent
write_of peer there =
    if vec_capacity peer.got - vec_len peer.got == 0 then write_at_limit peer.when_full
    else if peer.pauses then sent.Nothing
    else sent.Bytes (piece_of peer there (vec_capacity peer.got - vec_len peer.got))

-- the traffic after a read that gave this, in these cells
abbrev pub after_read : Received → List ℕ → Traffic → Traffic
after_read (received.Bytes count) cells = receiving (take count cells)
after_read received.Nothing cells = marked WaitsToRead
after_read received.End cells = marked InputEnded
after_read received.Failure cells = marked ReadFailed

-- a read gives one byte or more, and no more than fit
abbrev pub FitsRead : Received → List ℕ → Type 0
FitsRead (received.Bytes count) cells = (0 < count) × (count ≤ length cells)
FitsRead received.Nothing cells = ⊤
FitsRead received.End cells = ⊤
FitsRead received.Failure cells = ⊤

-- one read of a peer
pub record Gives (result : Received) (cells : List ℕ) (old new : Peer) : Type 0 where
  pub fits : FitsRead result cells
  pub traffic : traffic_of new ≡ after_read result cells (traffic_of old)
  pub input : new.input ≡ old.input

-- the traffic after a write of these bytes that took so many
abbrev pub after_write : Sent → List ℕ → Traffic → Traffic
after_write (sent.Bytes count) bytes = sending (take count bytes)
after_write sent.Nothing bytes = marked WaitsToWrite
after_write sent.Failure bytes = marked WriteFailed

-- a write takes one byte or more, and no more than there are
abbrev pub FitsWrite : Sent → List ℕ → Type 0
FitsWrite (sent.Bytes count) bytes = (0 < count) × (count ≤ length bytes)
FitsWrite sent.Nothing bytes = ⊤
FitsWrite sent.Failure bytes = ⊤

-- one write to a peer
pub record Takes (result : Sent) (bytes : List ℕ) (old new : Peer) : Type 0 where
  pub fits : FitsWrite result bytes
  pub traffic : traffic_of new ≡ after_write result bytes (traffic_of old)
  pub input : new.input ≡ old.input
