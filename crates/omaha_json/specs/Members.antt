-- Members of a JSON object (RFC 8259). A member of another type than the expected one, or of a value
-- that is no object, counts as missing: this project's profile.
use Rattle.std.specs.Prelude.{ℕ, List, [], Bool, false, Option, option_map, option_and_then, unwrap_or}
use Rattle.serde_json.specs.Data.{Data}
use Rattle.serde_json.specs.Find.{get, as_bool, as_str, as_object}

-- rule: Missing member
-- the member that is a string, else the empty string
abbrev pub string_or_empty_at : List ℕ → Data → List ℕ
string_or_empty_at name json = unwrap_or (option_and_then as_str (get name json)) []

-- the value, if it is an object
abbrev pub object_of : Data → Option Data
object_of json = option_map (λ _. json) (as_object json)

-- the member that is an object
abbrev pub object_at : List ℕ → Data → Option Data
object_at name json = option_and_then object_of (get name json)

-- whether the member is the value `true`
abbrev pub true_at : List ℕ → Data → Bool
true_at name json = unwrap_or (option_and_then as_bool (get name json)) false
