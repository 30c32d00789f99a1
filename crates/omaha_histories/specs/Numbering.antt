-- Which editions records make, and the records up to one; this project's profile.
use Rattle.std.specs.Prelude.{◌≡◌, ◌+◌, ◌<◌, ℕ, Bool, true, false, if◌then◌else◌, List, length, sum_by, take}
use Rattle.kept_records.specs.declared.record.Kind.{Kind}
use Rattle.kept_records.specs.declared.record.Kind.TheVariants as kind
use Rattle.kept_records.specs.declared.record.Record.{Record}

-- a record makes an edition: it is no raise
abbrev pub makes_edition : Kind → Bool
makes_edition kind.Profile = true
makes_edition kind.Script = true
makes_edition kind.Raise = false

-- how many editions a record makes: one or none
abbrev pub edition_of : Kind → ℕ
edition_of kind = if makes_edition kind then 1 else 0

-- how many editions records make
abbrev pub editions_in : List Record → ℕ
editions_in records = sum_by (λ (it : Record). edition_of it.kind) records

-- rule: Records up to an edition
-- some are the first ones of the records, they make at most so many editions, and with the next record they would make
-- more; so each raise before the next edition is among them
pub record AreUpTo (editions : ℕ) (records some : List Record) : Type 0 where
  pub first : some ≡ take (length some) records
  pub within : editions_in some < editions + 1
  pub longest : length some < length records → editions < editions_in (take (length some + 1) records)
