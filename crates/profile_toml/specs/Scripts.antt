-- What a script's tables say: the edition that it is written for and its edits, or the first invalid
-- entry; this project's profile, schemas 1 and 2.
use Rattle.std.specs.Prelude.{ℕ, nat_le, List, [], ◌∷◌, length, codes, if◌then◌else◌, Result, Ok, Err}
use Rattle.catalogue.specs.declared.edit.Edit.{Edit}
use Rattle.profile_toml.specs.Fields.{◌>>=◌, as_natural, known, required}
use Rattle.profile_toml.specs.Lists.{each, optional_tables}
use Rattle.profile_toml.specs.Tables.{PlacedTable}
use Rattle.profile_toml.specs.declared.tables.path.BadEntry.{BadEntry}
use Rattle.profile_toml.specs.ScriptEdits.{edit_of}
use Rattle.profile_toml.specs.declared.document.Schema.{Schema}
use Rattle.profile_toml.specs.declared.fault.ProfileFault.{ProfileFault}
use Rattle.profile_toml.specs.declared.fault.ProfileFault.TheVariants.{TooManyEdits}

-- the maximum of a script's edits
abbrev pub max_edits : ℕ
max_edits = 4096

-- rule: Number of a script's edits
abbrev pub few_edits : List Edit → Result (List Edit) ProfileFault
few_edits edits = if nat_le (length edits) max_edits then Ok edits else Err TooManyEdits

-- the keys of a script, in the order in which they are read
abbrev pub script_keys : List (List ℕ)
script_keys = codes "schema" ∷ codes "base" ∷ codes "edit" ∷ []

-- rule: Tables of a script
-- a script, of a schema: the edition that it is written for, and its edits
unfoldable pub script_of : Schema → PlacedTable → Result (ℕ × List Edit) BadEntry
script_of schema table = do
  all_known ← known script_keys table
  base ← required as_natural (codes "base") table
  edit_list ← optional_tables (codes "edit") table
  edits ← each (edit_of schema) edit_list
  Ok (base, edits)
