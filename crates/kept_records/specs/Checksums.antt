-- The checksums of records, each over all records before it; this project's profile, with SHA-256 of FIPS 180-4.
use Rattle.std.specs.Int.{to_be_bytes, w64}
use Rattle.std.specs.Prelude.{◌+◌, ◌++◌, ◌∷◌, [], ℕ, List, replicate}
use Rattle.sha2.specs.Sha256.{sha256}
use Rattle.kept_records.specs.Keeping.{number_of}
use Rattle.kept_records.specs.declared.record.Record.{Record}

-- rule: Checksum of a record
-- the SHA-256 of a record's number, in eight bytes with the highest first, the number of its kind, in one, the checksum of
-- the record before it, and its bytes
abbrev pub checksum_of : ℕ → Record → List ℕ → List ℕ
checksum_of number kept before = sha256 (to_be_bytes w64 number ++ number_of kept.kind ∷ [] ++ before ++ kept.bytes)

-- what counts as the checksum before the first record
abbrev pub no_checksum : List ℕ
no_checksum = replicate 32 0

-- the checksum of the last of these records, which are numbered from this number on, after one of this checksum
abbrev pub checksum_from : ℕ → List ℕ → List Record → List ℕ
checksum_from first before [] = before
checksum_from first before (kept ∷ more) = checksum_from (first + 1) (checksum_of first kept before) more

-- the checksums of these records, in their order
abbrev pub checksums_from : ℕ → List ℕ → List Record → List (List ℕ)
checksums_from first before [] = []
checksums_from first before (kept ∷ more) =
    checksum_of first kept before ∷ checksums_from (first + 1) (checksum_of first kept before) more
