-- The counts of an operator's calls; this project's profile.
use Rattle.std.specs.Prelude.{ℕ, ◌+◌, ◌-◌, ◌^◌, List, codes, min, Option, None, Some, unwrap_or}
use Rattle.operator_pages.specs.declared.counts.Counts.{Counts}
use Rattle.operator_pages.specs.declared.counts.Outcome.{Outcome}
use Rattle.operator_pages.specs.declared.counts.Outcome.TheVariants as outcome
use Rattle.operator_pages.specs.declared.counts.Reach.{Reach}
use Rattle.operator_pages.specs.declared.counts.Reach.TheVariants as reach

-- one more, up to 2^64 - 1
abbrev pub more : ℕ → ℕ
more count = min (count + 1) (2 ^ 64 - 1)

-- no calls yet
abbrev pub no_counts : ℕ → Counts
no_counts time = record {
  started = time;
  published = 0;
  followed = 0;
  stale = 0;
  rejected = 0;
  malformed = 0;
  unreachable = 0;
  failed = 0;
  raised = 0;
  lost = None;
}

-- rule: Counts of an operator
-- one more call that came to this
abbrev pub counted : Outcome → Counts → Counts
counted outcome.Published counts = record counts { published = more counts.published }
counted outcome.Followed counts = record counts { followed = more counts.followed }
counted outcome.Stale counts = record counts { stale = more counts.stale }
counted outcome.Rejected counts = record counts { rejected = more counts.rejected }
counted outcome.Malformed counts = record counts { malformed = more counts.malformed }
counted outcome.Unreachable counts = record counts { unreachable = more counts.unreachable }
counted outcome.Failed counts = record counts { failed = more counts.failed }
counted outcome.Raised counts = record counts { raised = more counts.raised }

-- since when no server of the history replies, after a call at a time that found this
abbrev pub lost_after : Reach → ℕ → Option ℕ → Option ℕ
lost_after reach.Unasked moment lost = lost
lost_after reach.Replies moment lost = None
lost_after reach.Unreachable moment lost = Some (unwrap_or lost moment)

-- rule: Reach of a history
-- one more call, at a time, that found this of the history
abbrev pub heard : Reach → ℕ → Counts → Counts
heard found moment counts = record counts { lost = lost_after found moment counts.lost }

-- the word of what a call came to
abbrev pub word_of : Outcome → List ℕ
word_of outcome.Published = codes "published"
word_of outcome.Followed = codes "followed"
word_of outcome.Stale = codes "stale"
word_of outcome.Rejected = codes "rejected"
word_of outcome.Malformed = codes "malformed"
word_of outcome.Unreachable = codes "unreachable"
word_of outcome.Failed = codes "failed"
word_of outcome.Raised = codes "raised"

-- how many calls came to something
abbrev pub count_of : Counts → Outcome → ℕ
count_of counts outcome.Published = counts.published
count_of counts outcome.Followed = counts.followed
count_of counts outcome.Stale = counts.stale
count_of counts outcome.Rejected = counts.rejected
count_of counts outcome.Malformed = counts.malformed
count_of counts outcome.Unreachable = counts.unreachable
count_of counts outcome.Failed = counts.failed
count_of counts outcome.Raised = counts.raised
