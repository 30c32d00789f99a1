-- What a server says of itself on the standard error; this project's profile.
use Rattle.std.specs.Prelude.{◌≢◌, ℕ, All, List, ◌++◌, codes, decimal, Option, None, Some}
use Rattle.streams.specs.Strings.{shown_string}
use Rattle.server_ports.specs.declared.notes.Serving.{Serving}

-- a line of the server
abbrev pub note_line : List ℕ → List ℕ
note_line said = codes "omaha: " ++ said ++ codes "\n"

-- rule: Download that fails
-- a report that wasn't made yet, by those that were
abbrev pub IsUnreported : List (List ℕ) → List ℕ → Type 0
IsUnreported reported report = All (λ (each : List ℕ). each ≢ report) reported

-- what is served, and at which address
unfoldable pub served_string : List ℕ → ℕ → List ℕ → List ℕ
served_string name edition address =
    codes "serving " ++ shown_string name ++ codes " as edition " ++ decimal edition ++ codes " at " ++ address

-- how many workers serve, and how many connections there may be at once
unfoldable pub crew_string : ℕ → ℕ → List ℕ
crew_string workers connections = decimal workers ++ codes " workers, " ++ decimal connections ++ codes " connections"

-- the same with the address of the operator, if there is one
abbrev pub operated_string : Serving → Option (List ℕ) → List ℕ
operated_string serving (Some operator) =
    served_string serving.name.now serving.edition serving.address.now ++ codes ", operator at " ++ operator
    ++ codes ", " ++ crew_string serving.workers serving.connections
operated_string serving None =
    served_string serving.name.now serving.edition serving.address.now ++ codes ", "
    ++ crew_string serving.workers serving.connections

-- rule: Line of what is served
-- what is served, where, and by what
abbrev pub serving_string : Serving → List ℕ
serving_string serving = operated_string serving serving.operator.now
