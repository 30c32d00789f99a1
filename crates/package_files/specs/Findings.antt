-- What is found of the files of declared packages; this project's profile.
use Rattle.std.specs.Prelude.{◌≡◌, ◌≢◌, ◌⊎◌, ℕ, List, [], ◌∷◌, ◌++◌, Option, None, Some}
use Rattle.http_desks.specs.Downloads.{Reads}
use Rattle.http_devices.specs.Opening.{Opens}
use Rattle.http_devices.specs.declared.entry.Entry.TheVariants as entry
use Rattle.values.specs.declared.declared.Declared.{Declared}
use Rattle.package_files.specs.Hashing.{IsHashed}
use Rattle.package_files.specs.declared.finding.Finding.{Finding}
use Rattle.package_files.specs.declared.finding.Mismatch.{Mismatch}
use Rattle.package_files.specs.declared.finding.Mismatch.TheVariants as mismatch

-- a declared package: its name, and what is declared of it
abbrev pub Package : Type 0
Package = List ℕ × Declared

-- how the bytes of a file of the declared size differ: they agree, they have another SHA-256, or they can't be read
abbrev pub AreBytes : Reads → Declared → Option Mismatch → Type 0
AreBytes reads declared None = IsHashed reads declared.size (Some declared.hash)
AreBytes reads declared (Some mismatch.Hash) =
    (hash : List ℕ) × (hash ≢ declared.hash) × IsHashed reads declared.size (Some hash)
AreBytes reads declared (Some mismatch.Unreadable) = IsHashed reads declared.size None
AreBytes reads declared (Some mismatch.Missing) = ⊥
AreBytes reads declared (Some mismatch.NotRegular) = ⊥
AreBytes reads declared (Some (mismatch.Size size other)) = ⊥

-- rule: File of a package
-- how a file differs from what is declared: it agrees, it isn't there, it is no regular file, it has another
-- size, it has the size and another SHA-256, or it couldn't be opened or read
abbrev pub IsFound : Opens → Reads → Declared → Option Mismatch → Type 0
IsFound opens reads declared None =
    opens (entry.File declared.size) × IsHashed reads declared.size (Some declared.hash)
IsFound opens reads declared (Some mismatch.Missing) = opens entry.Missing
IsFound opens reads declared (Some mismatch.NotRegular) = opens entry.NotRegular
IsFound opens reads declared (Some (mismatch.Size size other)) =
    opens (entry.File size) × (size ≢ declared.size) × (other ≡ declared.size)
IsFound opens reads declared (Some mismatch.Hash) =
    opens (entry.File declared.size)
    × ((hash : List ℕ) × (hash ≢ declared.hash) × IsHashed reads declared.size (Some hash))
IsFound opens reads declared (Some mismatch.Unreadable) =
    opens entry.Unreadable ⊎ (opens (entry.File declared.size) × IsHashed reads declared.size None)

-- the finding of a package, if its file differs
abbrev pub finding_of : List ℕ → Option Mismatch → List Finding
finding_of name None = []
finding_of name (Some differs) = record { name = name; mismatch = differs } ∷ []

-- rule: Findings of a catalogue
-- what is found of each package is listed in their order, and nothing else
abbrev pub AreFindings : (List ℕ → Opens) → (List ℕ → Reads) → List Package → List Finding → Type 0
AreFindings opens reads [] findings = findings ≡ []
AreFindings opens reads (named ∷ rest) findings =
    (differs : Option Mismatch) × (later : List Finding)
    × IsFound (opens named.0) (reads named.0) named.1 differs
    × (findings ≡ finding_of named.0 differs ++ later) × AreFindings opens reads rest later

-- the findings of these packages are added
abbrev pub Adds : (List ℕ → Opens) → (List ℕ → Reads) → List Package → List Finding → List Finding → Type 0
Adds opens reads packages old new =
    (more : List Finding) × (new ≡ old ++ more) × AreFindings opens reads packages more
