-- What a document is read as: a profile's edits and mirrors, or a script's base and edits; or the first
-- fault, in the order F1 to F5; this project's profile.
use Rattle.std.specs.Prelude.{ℕ, List, Result, Ok}
use Rattle.std.specs.Option.{ok_or}
use Rattle.catalogue.specs.declared.edit.Edit.{Edit}
use Rattle.catalogue.specs.declared.mirror.Mirror.{Mirror}
use Rattle.profile_toml.specs.Fields.{◌>>=◌}
use Rattle.profile_toml.specs.Tables.{document}
use Rattle.profile_toml.specs.Apps.{edits_of}
use Rattle.profile_toml.specs.Documents.{document_of, entries, schema_of}
use Rattle.profile_toml.specs.Mirrors.{valid_mirrors}
use Rattle.profile_toml.specs.Profiles.{profile_of}
use Rattle.profile_toml.specs.Scripts.{few_edits, script_of}
use Rattle.profile_toml.specs.declared.fault.ProfileFault.{ProfileFault}
use Rattle.profile_toml.specs.declared.fault.ProfileFault.TheVariants.{NotToml}

-- rule: Faults of a profile
-- the edits that a profile makes, and its mirrors: its schema is read first, its mirrors
-- are checked last
unfoldable pub profile_of_bytes : List ℕ → Result (List Edit × List Mirror) ProfileFault
profile_of_bytes text = do
  members ← ok_or (document_of text) NotToml
  schema ← schema_of (document members)
  profile ← entries (profile_of schema (document members))
  mirrors ← valid_mirrors profile.mirrors
  Ok (edits_of profile.apps, mirrors)

-- rule: Faults of a script
-- the number of the edition that a script is written for, and its edits: its schema is read
-- first, the number of its edits is checked last
unfoldable pub script_of_bytes : List ℕ → Result (ℕ × List Edit) ProfileFault
script_of_bytes text = do
  members ← ok_or (document_of text) NotToml
  schema ← schema_of (document members)
  script ← entries (script_of schema (document members))
  edits ← few_edits script.1
  Ok (script.0, edits)
