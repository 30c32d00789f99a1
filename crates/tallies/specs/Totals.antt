-- The sums of the tallies of all workers; this project's profile.
use Rattle.std.specs.Prelude.{◌≡◌, ℕ, ◌-◌, ◌^◌, List, length, map, min, sum}
use Rattle.tallies.specs.declared.codes.TheConstants.{CODES}
use Rattle.tallies.specs.declared.totals.Totals.{Totals}

-- rule: Sums of tallies
-- they have a number for each status and each mirror, and for each cohort of each app
pub record IsOfSize (mirrors : ℕ) (cohorts : List ℕ) (totals : Totals) : Type 0 where
  pub replies : length totals.replies ≡ length CODES
  pub bytes : length totals.bytes ≡ mirrors
  pub checks : map length totals.checks ≡ cohorts

-- rule: All replies
-- the sum of those of all statuses, up to 2^64 - 1
abbrev pub all_replies : List ℕ → ℕ
all_replies replies = min (sum replies) (2 ^ 64 - 1)
