-- What a profile's tables say: its mirrors and its apps, or the first invalid entry; this project's
-- profile, schemas 1 and 2. Tables are read from the top down: the profile's own keys, the mirrors one by
-- one, and app by app its own keys, its cohorts and its releases. A table's unknown keys are
-- reported before its known ones.
use Rattle.std.specs.Prelude.{ℕ, List, [], ◌∷◌, codes, Result, Ok}
use Rattle.profile_toml.specs.Fields.{◌>>=◌, known}
use Rattle.profile_toml.specs.Lists.{each, optional_tables, required_tables}
use Rattle.profile_toml.specs.Tables.{PlacedTable}
use Rattle.profile_toml.specs.declared.tables.path.BadEntry.{BadEntry}
use Rattle.profile_toml.specs.Apps.{app_of}
use Rattle.profile_toml.specs.Mirrors.{mirror_of}
use Rattle.profile_toml.specs.declared.document.Schema.{Schema}
use Rattle.profile_toml.specs.declared.profile.Profile.{Profile}

-- the keys of a profile, in the order in which they are read
abbrev pub profile_keys : List (List ℕ)
profile_keys = codes "schema" ∷ codes "mirror" ∷ codes "app" ∷ []

-- rule: Tables of a profile
-- a profile, of a schema
unfoldable pub profile_of : Schema → PlacedTable → Result Profile BadEntry
profile_of schema table = do
  all_known ← known profile_keys table
  mirror_list ← required_tables (codes "mirror") table
  app_list ← optional_tables (codes "app") table
  mirrors ← each mirror_of mirror_list
  apps ← each (app_of schema) app_list
  Ok (record { mirrors = mirrors; apps = apps })
