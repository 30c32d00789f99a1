-- What holds of the statuses of replies, however they are written; this project's profile.
use Rattle.std.specs.Prelude.{◌≡◌, ℕ, List, ◌++◌, IsSome}
use Rattle.http_wire.specs.Replies.{status_line}
use Rattle.http_wire.specs.declared.heads.status.Status.{Status}
use Rattle.tallies.specs.Codes.{code_of, position_of}
use Rattle.tallies.specs.Statuses.{nothing, written}
use Rattle.tallies.specs.declared.sight.StatusSight.{StatusSight}

-- the line of each status is seen to have the number that it has, which is one of those that are counted
abbrev pub IsCounted : Type 0
IsCounted = (status : Status) → ((written nothing (status_line status)).code ≡ code_of status) × IsSome (position_of (code_of status))

-- what is seen of bytes in two parts is what is seen of the whole
abbrev pub IsSameInParts : Type 0
IsSameInParts = (sight : StatusSight) (first rest : List ℕ) → written (written sight first) rest ≡ written sight (first ++ rest)
