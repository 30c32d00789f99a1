-- What one more block of a package leaves of a connection; this project's profile.
use Rattle.std.specs.Prelude.{ℕ, List, Option}
use Rattle.http_desks.specs.Calls.{Call}
use Rattle.http_desks.specs.Downloads.{Reads}
use Rattle.http_desks.specs.Uses.{IsUse}
use Rattle.http_ports.specs.Traffic.{IsTime}
use Rattle.http_ports.specs.declared.timestamp.Timestamp.{Timestamp}
use Rattle.http_sessions.specs.Talks.{Said}
use Rattle.http_sessions.specs.declared.talks.talk.Talk.{Talk}

-- what is said then is what was said before, with any desk: no bytes passed, and the desk was not called
abbrev pub Sends : (List ℕ → Option ℕ → Type 0) → (List ℕ → Reads) → Talk → Talk → Type 0
Sends sizes reads old new =
    (path kind : List ℕ) (timestamps : List Timestamp) (received sent : List ℕ) (calls : List Call)
    → Said (IsUse path IsTime sizes reads) kind timestamps old received sent calls
    → Said (IsUse path IsTime sizes reads) kind timestamps new received sent calls
