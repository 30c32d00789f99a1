-- What is sent to a serializer for one member of an object.
use Rattle.std.specs.Prelude.{◌≡◌, ℕ, List, Option, Some, None}
use Rattle.serde.specs.Event.{Log, Logs, field_key}
use Rattle.serde.specs.declared.name.Case.TheVariants.{AsIs}
use Rattle.serde_json.specs.Data.{Data}
use Rattle.serde_json.specs.Events.{SendsValue}

-- the name, and then the value
abbrev pub SendsMember : List ℕ → Data → Log → Log → Type 0
SendsMember name value old new =
    (named : Log) × Logs old named (field_key name AsIs) × SendsValue value named new

-- the member, if there is a value
abbrev pub SendsOptional : List ℕ → Option Data → Log → Log → Type 0
SendsOptional name None old new = new ≡ old
SendsOptional name (Some value) old new = SendsMember name value old new
