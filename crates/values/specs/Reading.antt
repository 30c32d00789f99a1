-- What a reader of a string from outside returns, against the definition of reading: the definition's
-- value or its first fault, unless memory ran out.
use Rattle.std.specs.Prelude.{◌≡◌, Result, Ok, Err}
use Rattle.values.specs.declared.read_error.ReadError.{ReadError}
use Rattle.values.specs.declared.read_error.ReadError.TheVariants as errors

-- an error is the fault that reading gives, or out of memory
abbrev pub Explains : {Y F : Type 0} → ReadError F → Result Y F → Type 0
Explains errors.Memory reading = Unit {0}
Explains (errors.Fault fault) reading = reading ≡ Err fault

-- a reader's result agrees with the reading, unless memory ran out; `view` is how a contract sees
-- the reader's value
abbrev pub Reads : {X Y F : Type 0} → (X → Y) → Result X (ReadError F) → Result Y F → Type 0
Reads view (Ok value) reading = reading ≡ Ok (view value)
Reads view (Err error) reading = Explains error reading
