-- The targets of a cohort's 1000 buckets, and what a change of the cohort does to them; this project's profile.
use Rattle.std.specs.Prelude.{◌≡◌, ℕ, ◌-◌, ◌<◌, ◌&&◌, not, Bool, true, false, if◌then◌else◌, List, [], ◌∷◌, ◌++◌, filter, nat_lt, Option, None, Some}
use Rattle.std.specs.List.{list_any, range_with_len, sum_by}
use Rattle.std.specs.Option.{is_some}
use Rattle.std.specs.Str.{bytes_eq}
use Rattle.catalogue.specs.declared.content.Cohort.{Cohort}
use Rattle.cohorts.specs.Offers.{target_of}
use Rattle.cohorts.specs.Tracks.{lane_of}
use Rattle.buckets.specs.declared.change.Span.{Span}

-- rule: Target of a bucket
-- the release that a bucket's clients are brought to, if there is one: the target of its lane
abbrev pub bucket_target : Cohort → ℕ → Option (List ℕ)
bucket_target cohort bucket = target_of cohort (lane_of cohort bucket)

-- there is one
abbrev pub has_target : Cohort → ℕ → Bool
has_target cohort bucket = is_some (bucket_target cohort bucket)

-- rule: Cut off bucket
-- a bucket has a target before a change and none after it
abbrev pub is_cut_off : Cohort → Cohort → ℕ → Bool
is_cut_off before after bucket = has_target before bucket && not (has_target after bucket)

-- two targets are one version, or both are none
abbrev pub is_same_target : Option (List ℕ) → Option (List ℕ) → Bool
is_same_target None None = true
is_same_target None (Some other) = false
is_same_target (Some one) None = false
is_same_target (Some one) (Some other) = bytes_eq one other

-- rule: Moved bucket
-- a bucket has another target after a change than before it, or only one of the two
abbrev pub is_moved : Cohort → Cohort → ℕ → Bool
is_moved before after bucket = not (is_same_target (bucket_target before bucket) (bucket_target after bucket))

-- the smaller one of the shares before a change and after it
abbrev pub lower : Cohort → Cohort → ℕ
lower before after = if nat_lt before.share after.share then before.share else after.share

-- the larger one of the two
abbrev pub upper : Cohort → Cohort → ℕ
upper before after = if nat_lt before.share after.share then after.share else before.share

-- the span from one bucket up to another, if it has buckets
abbrev pub part : ℕ → ℕ → List Span
part start end = if nat_lt start end then record { start = start; end = end } ∷ [] else []

-- rule: Parts of a cohort
-- the buckets below both shares, those between the two, and those above both
abbrev pub parts_of : Cohort → Cohort → List Span
parts_of before after =
    part 0 (lower before after) ++ (part (lower before after) (upper before after) ++ part (upper before after) 1000)

-- the parts whose first bucket is cut off
abbrev pub cut_off_of : Cohort → Cohort → List Span
cut_off_of before after = filter (λ (span : Span). is_cut_off before after span.start) (parts_of before after)

-- the parts whose first bucket is moved
abbrev pub moves_of : Cohort → Cohort → List Span
moves_of before after = filter (λ (span : Span). is_moved before after span.start) (parts_of before after)

-- a bucket is in a span
abbrev pub is_in : ℕ → Span → Bool
is_in bucket span = not (nat_lt bucket span.start) && nat_lt bucket span.end

-- a list of spans has exactly those of the 1000 buckets that pass a test
abbrev pub IsExactly : List Span → (ℕ → Bool) → Type 0
IsExactly spans test = (bucket : ℕ) → bucket < 1000 → list_any (is_in bucket) spans ≡ test bucket

-- how many buckets are in a span, and in a list of spans
abbrev pub width : Span → ℕ
width span = if nat_lt span.start span.end then span.end - span.start else 0

abbrev pub width_of : List Span → ℕ
width_of spans = sum_by width spans

-- all buckets of a cohort
unfoldable pub all_buckets : List ℕ
all_buckets = range_with_len 0 1000
