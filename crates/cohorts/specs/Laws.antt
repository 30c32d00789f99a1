-- What holds of all cohort texts.
use Rattle.std.specs.Prelude.{◌≡◌, ℕ, ◌<◌, List, Some, true}
use Rattle.catalogue.specs.Forms.{is_cohort_name}
use Rattle.cohorts.specs.CohortTexts.{parsed, printed}

-- a name and a bucket are read back from their cohort text
abbrev pub PrintedIsParsed : Type 0
PrintedIsParsed =
    (name : List ℕ) (bucket : ℕ) →
    is_cohort_name name ≡ true → bucket < 1000 → parsed (printed name bucket) ≡ Some (name, bucket)

-- what is read from a string is well formed, and prints as that string
abbrev pub ParsedIsPrinted : Type 0
ParsedIsPrinted =
    (text name : List ℕ) (bucket : ℕ) →
    parsed text ≡ Some (name, bucket) →
    (is_cohort_name name ≡ true) × (bucket < 1000) × (printed name bucket ≡ text)
