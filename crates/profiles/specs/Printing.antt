-- What a command prints of what it found; this project's profile.
use Rattle.std.specs.Prelude.{◌≡◌, ℕ, List, Result, Ok, Err}
use Rattle.std.specs.Io.KnownBytes.{Appends}
use Rattle.streams.specs.Writing.{Breaks}
use Rattle.profiles.specs.Streams.{Streams}
use Rattle.failures.specs.declared.failure.Failure.{Failure}
use Rattle.failures.specs.declared.failure.Failure.TheVariants as failure

-- what was found is printed and nothing else; or the writer failed within it; or nothing is printed
abbrev pub Prints : Result (List ℕ) Failure → Streams → Streams → Result (Unit {0}) Failure → Type 0
Prints (Ok text) old new (Ok done) =
    Appends old.output.bytes new.output.bytes text × (new.input ≡ old.input)
Prints (Ok text) old new (Err refusal) =
    (refusal ≡ failure.Write) × Breaks old.output new.output text × (new.input ≡ old.input)
Prints (Err refusal) old new result = (result ≡ Err refusal) × (new ≡ old)
