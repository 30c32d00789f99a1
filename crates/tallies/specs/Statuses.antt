-- The status of a reply, in what is written of it (RFC 9112, section 4); this project's profile.
use Rattle.std.specs.Prelude.{ℕ, ◌+◌, ◌*◌, ◌%◌, ◌==◌, ◌&&◌, nat_lt, if◌then◌else◌, List, Option, None, Some, fold}
use Rattle.tallies.specs.declared.sight.StatusSight.{StatusSight}

-- nothing is written
abbrev pub nothing : StatusSight
nothing = record { count = 0; code = 0 }

-- one more byte: the tenth to the twelfth are the digits of the status
abbrev pub step : StatusSight → ℕ → StatusSight
step sight byte =
    if nat_lt sight.count 9 then record { count = sight.count + 1; code = sight.code } else
    if nat_lt sight.count 12 then record { count = sight.count + 1; code = sight.code % 100 * 10 + byte % 16 } else sight

-- rule: Status of a reply in parts
-- some more bytes
abbrev pub written : StatusSight → List ℕ → StatusSight
written sight bytes = fold step sight bytes

-- the status, if it became whole
abbrev pub completed : StatusSight → StatusSight → Option ℕ
completed before after = if nat_lt before.count 12 && after.count == 12 then Some after.code else None
