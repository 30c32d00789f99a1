-- Pins: which versions an administrator allows a client's app; this project's profile of the Omaha protocol's
-- member `targetversionprefix`.
use Rattle.std.specs.Prelude.{ℕ, ◌==◌, Bool, true, false, List, [], ◌∷◌, reverse, bytes_eq, Option, None, Some, unwrap_or, if◌then◌else◌}
use Rattle.catalogue.specs.Versions.{begins_as, client_version_of}
use Rattle.cohorts.specs.declared.pin.Pin.{Pin}
use Rattle.cohorts.specs.declared.pin.Pin.TheVariants as pin

-- what follows a byte in a string that is read backwards, if it begins with that byte
abbrev pub after : ℕ → List ℕ → Option (List ℕ)
after byte [] = None
after byte (last ∷ others) = if last == byte then Some (reverse others) else None

-- what is before a byte at the end of a string, if it ends with that byte
abbrev pub before : ℕ → List ℕ → Option (List ℕ)
before byte text = after byte (reverse text)

-- the versions that begin with the components that a string spells; none if it spells none
abbrev pub prefix_of : Option (List ℕ × ℕ) → Pin
prefix_of None = pin.Nothing
prefix_of (Some read) = pin.Prefix read.0 read.1

-- the version alone that a string spells; none if it spells none
abbrev pub only_of : Option (List ℕ × ℕ) → Pin
only_of None = pin.Nothing
only_of (Some read) = pin.Only read.0

-- the pin of a string that isn't empty, by what is before a `$` at its end, if there is one
abbrev pub pin_by : List ℕ → Option (List ℕ) → Pin
pin_by text (Some start) = only_of (client_version_of start)
pin_by text None = prefix_of (client_version_of (unwrap_or (before 46 text) text))

-- rule: Pin of a prefix
-- the pin of a string: any version for the empty one; a version alone for its components and `$`; the versions
-- that begin with components, which one dot may follow; and no version for any other string
abbrev pub pin_of : List ℕ → Pin
pin_of [] = pin.Any
pin_of (byte ∷ rest) = pin_by (byte ∷ rest) (before 36 (byte ∷ rest))

-- rule: Version that a pin matches
-- the pin allows the version; a version has sixteen components
abbrev pub matches : Pin → List ℕ → Bool
matches pin.Any version = true
matches (pin.Prefix first count) version = begins_as count version first
matches (pin.Only only) version = bytes_eq version only
matches pin.Nothing version = false
