-- Timestamps, in seconds since 1 January 1970, UTC, as replies report them: the Omaha protocol's
-- `daystart`.
use Rattle.std.specs.Prelude.{ℕ, ◌-◌, ◌/◌, ◌%◌}

-- the seconds of a day
abbrev pub day : ℕ
day = 86400

-- the days from 1 January 1970 to 1 January 2007
abbrev pub days_before_2007 : ℕ
days_before_2007 = 13514

-- rule: Elapsed days and seconds
-- whole days since 1 January 2007, and 0 before it
abbrev pub elapsed_days : ℕ → ℕ
elapsed_days moment = moment / day - days_before_2007

-- seconds since the day began
abbrev pub elapsed_seconds : ℕ → ℕ
elapsed_seconds moment = moment % day
