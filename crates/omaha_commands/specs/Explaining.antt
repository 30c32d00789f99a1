-- What the command `explain` prints; this project's profile.
use Rattle.std.specs.Prelude.{◌≡◌, ◌⊎◌, ℕ, List, Option, Some, None, Result, Ok, Err}
use Rattle.failures.specs.Explanations.{explanation_of}
use Rattle.profiles.specs.Printing.{Prints}
use Rattle.profiles.specs.Streams.{Streams}
use Rattle.failures.specs.declared.failure.Failure.{Failure}
use Rattle.failures.specs.declared.failure.Failure.TheVariants as failure

-- what was found of a code is printed; without an explanation nothing is, and the failure names the code, which
-- takes memory
abbrev pub SaysOf : Option (List ℕ) → List ℕ → Streams → Streams → Result (Unit {0}) Failure → Type 0
SaysOf (Some text) code old new result = Prints (Ok text) old new result
SaysOf None code old new result =
    ((result ≡ Err (failure.Code code)) ⊎ (result ≡ Err failure.Memory)) × (new ≡ old)

-- the explanation of a code is printed
abbrev pub Says : List ℕ → Streams → Streams → Result (Unit {0}) Failure → Type 0
Says code old new result = SaysOf (explanation_of code) code old new result

-- some string is printed and nothing else, or there is none
abbrev pub PrintsSome : Streams → Streams → Result (Unit {0}) Failure → Type 0
PrintsSome old new result = (found : Result (List ℕ) Failure) × Prints found old new result

-- rule: Report on a code
-- the explanation of the code is printed; without a code a list of them, of which only tests say what it is
abbrev pub Explains : Option (List ℕ) → Streams → Streams → Result (Unit {0}) Failure → Type 0
Explains (Some code) old new result = Says code old new result
Explains None old new result = PrintsSome old new result
