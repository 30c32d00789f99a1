-- What is kept of the `Content-Length` fields that were read.
use Rattle.std.specs.Prelude.{◌≡◌, ℕ, List, [], ◌∷◌, Result, Ok, Err}
use Rattle.http_wire.specs.Framing.{length_by, length_in}
use Rattle.http_wire.specs.declared.heads.status.Status.{Status}
use Rattle.http_wire.specs.declared.heads.body_length.Length.{Length}
use Rattle.http_wire.specs.declared.heads.body_length.Length.TheVariants as lengths

-- it counts as the values: none; one, which is this number; or some, which this status rejects
abbrev pub IsLengthOf : Length → List (List ℕ) → Type 0
IsLengthOf lengths.Missing values = values ≡ []
IsLengthOf (lengths.Known size) values =
    (value : List ℕ) × (values ≡ value ∷ []) × (length_in value ≡ Ok size)
IsLengthOf (lengths.Refused status) values =
    (value : List ℕ) × (more : List (List ℕ)) × (values ≡ value ∷ more)
    × ((method : List ℕ) → length_by method values ≡ Err status)

-- the length, or the status of an error, of a message with this method
abbrev pub length_for : List ℕ → Length → Result ℕ Status
length_for method lengths.Missing = length_by method []
length_for method (lengths.Known size) = Ok size
length_for method (lengths.Refused why) = Err why
