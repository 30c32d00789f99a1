-- What profiles and scripts have in common: UTF-8 and TOML, as the crate `toml` reads it, and the
-- schemas 1 and 2, of which the second has floors; this project's profile.
use Rattle.std.specs.Prelude.{ℕ, ◌==◌, List, if◌then◌else◌, Option, None, Result, Ok, Err, codes}
use Rattle.std.specs.Str.{is_utf8}
use Rattle.toml.specs.Data.{Members}
use Rattle.toml.specs.Parse.{parse_document}
use Rattle.profile_toml.specs.Fields.{as_natural, required}
use Rattle.profile_toml.specs.Tables.{PlacedTable}
use Rattle.profile_toml.specs.declared.tables.path.BadEntry.{BadEntry}
use Rattle.profile_toml.specs.declared.document.Schema.{Schema}
use Rattle.profile_toml.specs.declared.document.Schema.TheVariants as schema
use Rattle.profile_toml.specs.declared.fault.ProfileFault.{ProfileFault}
use Rattle.profile_toml.specs.declared.fault.ProfileFault.TheVariants as fault

-- rule: TOML of a profile
-- the members of the document that the bytes are
abbrev pub document_of : List ℕ → Option Members
document_of text = if is_utf8 text then parse_document text else None

-- the newest schema, which has all keys; profiles are written in it
abbrev pub newest : Schema
newest = schema.Two

-- the schema of a number
abbrev pub schema_numbered : ℕ → Result Schema ProfileFault
schema_numbered number =
    if number == 1 then Ok schema.One else if number == 2 then Ok schema.Two else Err fault.BadSchema

-- the schema of the number that was read
abbrev pub schema_read : Result ℕ BadEntry → Result Schema ProfileFault
schema_read (Ok number) = schema_numbered number
schema_read (Err bad) = Err fault.BadSchema

-- rule: Schema of a profile
-- the key `schema` is the integer 1 or 2
abbrev pub schema_of : PlacedTable → Result Schema ProfileFault
schema_of table = schema_read (required as_natural (codes "schema") table)

-- what is read of a document's entries; an invalid one is the document's fault
abbrev pub entries : {A : Type 0} → Result A BadEntry → Result A ProfileFault
entries (Ok value) = Ok value
entries (Err bad) = Err (fault.BadEntry bad.path)
