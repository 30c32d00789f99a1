-- Reading a list element by element: what was read, and then the rest or its error.
use Rattle.std.proofs.Common.{◌+◌, List, ◌++◌, Result, Ok}
use Rattle.profile_toml.specs.Fields.{◌>>=◌}
use Rattle.profile_toml.specs.declared.tables.path.BadEntry.{BadEntry}

-- the reading of a list, of which the front was read before
abbrev pub with_front : {A : Type 0}
    → List A → Result (List A) BadEntry → Result (List A) BadEntry
with_front front reading = reading >>= λ rest. Ok (front ++ rest)
