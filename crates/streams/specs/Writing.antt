-- What writing whole leaves; this project's profile.
use Rattle.std.specs.Prelude.{◌≡◌, ◌<◌, ◌⊎◌, ℕ, true, List, length, take, Option}
use Rattle.std.specs.Io.KnownBytes.{Appends}
use Rattle.streams.specs.Streams.{Known}

-- known bytes grow by a first part of the bytes, which is not all of them
abbrev pub AppendsPart : Option (List ℕ) → Option (List ℕ) → List ℕ → Type 0
AppendsPart before after bytes =
    (count : ℕ) × (count < length bytes) × Appends before after (take count bytes)

-- rule: Writing whole
-- the writer failed before it took all of the bytes
abbrev pub Breaks : Known → Known → List ℕ → Type 0
Breaks old new bytes = AppendsPart old.bytes new.bytes bytes × (new.failed ≡ true)

-- the bytes were written: all of them, unless the writer failed
abbrev pub IsWritten : Known → Known → List ℕ → Type 0
IsWritten old new bytes = Appends old.bytes new.bytes bytes ⊎ Breaks old new bytes
