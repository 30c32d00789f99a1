-- Cohort texts, by which a client names its cohort and its bucket: this project's profile of the
-- Omaha protocol's member `cohort`, as `stable:319`.
use Rattle.std.specs.Prelude.{ℕ, ◌==◌, ◌&&◌, not, Bool, if◌then◌else◌, List, ◌∷◌, ◌++◌, decimal, length, nat_lt, slice_index, Option, Some, None}
use Rattle.std.specs.List.{before_first, after_first, list_all}
use Rattle.std.specs.Char.{is_ascii_digit}
use Rattle.std.specs.Str.Parse.{digits_value}
use Rattle.catalogue.specs.Forms.{has_length, is_cohort_name}

-- a colon
abbrev pub is_colon : ℕ → Bool
is_colon byte = byte == 58

-- a zero before further digits
abbrev pub has_leading_zero : List ℕ → Bool
has_leading_zero digits = nat_lt 1 (length digits) && (slice_index digits 0 == 48)

-- a bucket in decimal, 0 to 999: one to three digits without leading zeros
abbrev pub is_bucket : List ℕ → Bool
is_bucket digits =
    has_length 1 3 digits && list_all is_ascii_digit digits && not (has_leading_zero digits)

-- the bucket that digits spell, if they do
abbrev pub bucket_of : List ℕ → Option ℕ
bucket_of digits = if is_bucket digits then Some (digits_value 10 digits) else None

-- a cohort's name with the bucket that follows it, if both are well formed
abbrev pub named : List ℕ → Option ℕ → Option (List ℕ × ℕ)
named name None = None
named name (Some bucket) = if is_cohort_name name then Some (name, bucket) else None

-- rule: Cohort text
-- the cohort's name and the bucket that a string names: what is before its first colon, and what is
-- after it; none if the string is not well formed
unfoldable pub parsed : List ℕ → Option (List ℕ × ℕ)
parsed text = named (before_first is_colon text) (bucket_of (after_first is_colon text))

-- the cohort text of a name and a bucket
abbrev pub printed : List ℕ → ℕ → List ℕ
printed name bucket = name ++ 58 ∷ decimal bucket
