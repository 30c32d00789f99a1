-- What a port's log has of its slots; this project's profile.
use Rattle.std.specs.Prelude.{◌≡◌, ◌≤◌, ℕ, List, Some, length, vec_len}
use Rattle.rtrb.specs.Ring.{SameProducer}
use Rattle.http_ports.specs.Loops.{kept_at}
use Rattle.http_ports.specs.Traffic.{Slot, Traffic}
use Rattle.access_logs.specs.Queues.{Sending}
use Rattle.access_logs.specs.Logs.{IsFresh, Logged, LogsAll, pieces_at}
use Rattle.access_logs.specs.Replies.{begins_of, latest_begin}
use Rattle.access_logs.specs.Sights.{IsGoing, Sight, sight_of}
use Rattle.access_logs.specs.declared.port_log.PortLog.{PortLog}

-- since its sender was this one, a log has logged the replies that are done at each slot, in order, and has seen those that
-- are under way
pub record Tracks (start : Sending) (log : PortLog) (sights : ℕ → Sight) : Type 0 where
  pub logged : List Logged
  pub sends : LogsAll start logged log.lines
  pub ring : SameProducer start.end log.lines.end
  pub done : (k : ℕ) → pieces_at k logged ≡ (sights k).done
  pub going : (k : ℕ) → IsGoing (sights k).going (kept_at log.seens.items k)

-- a port that is logged, and the sender of its log at first
pub record Logging (P : Type 0) : Type 0 where
  pub port : P
  pub first : Sending

-- a log with a place for each slot of a port has logged what passed there, since its sender had sent nothing; no reply
-- began there after more bytes than were sent
pub record IsLogging (slots : ℕ → Slot) (capacity : ℕ) (first : Sending) (log : PortLog) : Type 0 where
  pub fresh : IsFresh first
  pub begun : (k : ℕ) (traffic : Traffic) → (slots k).current ≡ Some traffic
      → latest_begin (begins_of traffic.timestamps) ≤ length traffic.sent
  pub places : vec_len log.seens ≡ capacity
  pub tied : Tracks first log (λ k. sight_of (slots k))
