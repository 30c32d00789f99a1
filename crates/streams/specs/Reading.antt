-- What reading to the end gives; this project's profile.
use Rattle.std.specs.Prelude.{◌≡◌, ◌<◌, ◌≤◌, ⊤, ℕ, true, List, length, IfSome}
use Rattle.streams.specs.Streams.{Known}
use Rattle.streams.specs.declared.reading.ReadFailure.{ReadFailure}
use Rattle.streams.specs.declared.reading.ReadFailure.TheVariants as failure

-- rule: Reading up to a maximum
-- all of the known bytes, and at most the maximum
abbrev pub IsWhole : Known → ℕ → List ℕ → Type 0
IsWhole known max bytes = IfSome known.bytes (λ held. bytes ≡ held) × (length bytes ≤ max)

-- there are more bytes than the maximum, if they are known
abbrev pub IsLonger : Known → ℕ → Type 0
IsLonger known max = IfSome known.bytes (λ held. max < length held)

-- why nothing was read: the reader failed, or has more bytes, or memory ran out
abbrev pub Explains : Known → Known → ℕ → ReadFailure → Type 0
Explains old new max failure.Broken = new.failed ≡ true
Explains old new max failure.TooLong = IsLonger old max
Explains old new max failure.Memory = ⊤
