-- A release of a profile: its keys, by the profile's schema, and its edits; this project's profile.
use Rattle.std.specs.Prelude.{ℕ, Bool, true, false, List, [], ◌∷◌, ◌++◌, codes, if◌then◌else◌, Option, Some, None, unwrap_or, Result, Ok}
use Rattle.toml.specs.Data.{as_bool, as_str}
use Rattle.catalogue.specs.declared.edits.releases.AddRelease.{AddRelease}
use Rattle.catalogue.specs.declared.edit.Edit.{Edit}
use Rattle.catalogue.specs.declared.edit.Edit.TheVariants as edit
use Rattle.profile_toml.specs.Fields.{◌>>=◌, as_natural, known, optional, required}
use Rattle.profile_toml.specs.Tables.{PlacedTable}
use Rattle.profile_toml.specs.Strings.{optional_strings}
use Rattle.profile_toml.specs.declared.tables.path.BadEntry.{BadEntry}
use Rattle.profile_toml.specs.declared.document.Schema.{Schema}
use Rattle.profile_toml.specs.declared.document.Schema.TheVariants.{One, Two}
use Rattle.profile_toml.specs.declared.release.PackageEntry.{PackageEntry}
use Rattle.profile_toml.specs.declared.release.ReleaseEntry.{ReleaseEntry}

-- what is said of a release's version and its full package
unfoldable pub package_in : PlacedTable → Result PackageEntry BadEntry
package_in table = do
  version ← required as_str (codes "version") table
  name ← required as_str (codes "name") table
  size ← required as_natural (codes "size") table
  sha256 ← required as_str (codes "sha256") table
  Ok (record { version = version; name = name; size = size; sha256 = sha256 })

-- the keys of a release of schema 1, in the order in which they are read
abbrev pub keys_of_schema_1 : List (List ℕ)
keys_of_schema_1 =
    codes "version" ∷ codes "name" ∷ codes "size" ∷ codes "sha256" ∷ codes "stone" ∷ codes "withdrawn"
    ∷ codes "audience" ∷ []

-- those of a schema: the second has one more
abbrev pub release_keys : Schema → List (List ℕ)
release_keys One = keys_of_schema_1
release_keys Two = keys_of_schema_1 ++ codes "floor" ∷ []

-- rule: Release of a profile
-- a release of an app; in schema 1 there is no floor, since its key is unknown
unfoldable pub release_of : Schema → PlacedTable → Result ReleaseEntry BadEntry
release_of schema table = do
  all_known ← known (release_keys schema) table
  full ← package_in table
  stone ← optional as_bool (codes "stone") table
  withdrawn ← optional as_bool (codes "withdrawn") table
  audience ← optional_strings (codes "audience") table
  floor ← optional as_str (codes "floor") table
  let is_stone = unwrap_or stone false
  let is_withdrawn = unwrap_or withdrawn false
  Ok (record { full = full; stone = is_stone; withdrawn = is_withdrawn; audience = audience; floor = floor })

-- the release as an edit adds it to an app
abbrev pub added_to : List ℕ → PackageEntry → AddRelease
added_to app full =
    record {
      app = app;
      version = full.version;
      name = full.name;
      size = full.size;
      sha256 = full.sha256;
    }

-- it is added
abbrev pub added_edits : List ℕ → PackageEntry → List Edit
added_edits app full = edit.AddRelease (added_to app full) ∷ []

-- the release is set to be a stone, if it is one
abbrev pub stone_edits : List ℕ → List ℕ → Bool → List Edit
stone_edits app version stone =
    if stone then edit.SetStone (record { app = app; version = version; on = true }) ∷ [] else []

-- it is withdrawn, if the profile says so
abbrev pub withdrawn_edits : List ℕ → List ℕ → Bool → List Edit
withdrawn_edits app version withdrawn =
    if withdrawn then edit.SetWithdrawn (record { app = app; version = version; on = true }) ∷ [] else []

-- its audience is set, if it is given
abbrev pub audience_edits : List ℕ → List ℕ → Option (List (List ℕ)) → List Edit
audience_edits app version None = []
audience_edits app version (Some names) =
    edit.SetAudience (record { app = app; version = version; cohorts = Some names }) ∷ []

-- its floor is set, if it is given
abbrev pub floor_edits : List ℕ → List ℕ → Option (List ℕ) → List Edit
floor_edits app version None = []
floor_edits app version (Some floor) =
    edit.SetFloor (record { app = app; version = version; floor = floor }) ∷ []

-- rule: Edits of a release of a profile
-- the edits of a release
abbrev pub release_edits : List ℕ → ReleaseEntry → List Edit
release_edits app release =
    added_edits app release.full
    ++ stone_edits app release.full.version release.stone
    ++ withdrawn_edits app release.full.version release.withdrawn
    ++ audience_edits app release.full.version release.audience
    ++ floor_edits app release.full.version release.floor
