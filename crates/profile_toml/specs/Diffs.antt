-- A differential of a profile: its keys and its edit; this project's profile.
use Rattle.std.specs.Prelude.{ℕ, List, [], ◌∷◌, codes, Result, Ok}
use Rattle.toml.specs.Data.{as_str}
use Rattle.catalogue.specs.declared.edits.diffs.AddDiff.{AddDiff}
use Rattle.catalogue.specs.declared.edit.Edit.{Edit}
use Rattle.catalogue.specs.declared.edit.Edit.TheVariants as edit
use Rattle.profile_toml.specs.Fields.{◌>>=◌, as_natural, known, required}
use Rattle.profile_toml.specs.Tables.{PlacedTable}
use Rattle.profile_toml.specs.declared.tables.path.BadEntry.{BadEntry}
use Rattle.profile_toml.specs.declared.diff.DiffEntry.{DiffEntry}

-- what is said of a differential: its releases and its package
unfoldable pub diff_in : PlacedTable → Result DiffEntry BadEntry
diff_in table = do
  from ← required as_str (codes "from") table
  to ← required as_str (codes "to") table
  name ← required as_str (codes "name") table
  size ← required as_natural (codes "size") table
  sha256 ← required as_str (codes "sha256") table
  Ok (record { from = from; to = to; name = name; size = size; sha256 = sha256 })

-- the keys of a differential, in the order in which they are read
abbrev pub diff_keys : List (List ℕ)
diff_keys = codes "from" ∷ codes "to" ∷ codes "name" ∷ codes "size" ∷ codes "sha256" ∷ []

-- rule: Differential of a profile
-- a differential of an app
unfoldable pub diff_of : PlacedTable → Result DiffEntry BadEntry
diff_of table = do
  all_known ← known diff_keys table
  diff_in table

-- the differential as an edit adds it to an app
abbrev pub diff_added_to : List ℕ → DiffEntry → AddDiff
diff_added_to app diff =
    record {
      app = app;
      from = diff.from;
      to = diff.to;
      name = diff.name;
      size = diff.size;
      sha256 = diff.sha256;
    }

-- the edit of a differential
abbrev pub diff_edits : List ℕ → DiffEntry → List Edit
diff_edits app diff = edit.AddDiff (diff_added_to app diff) ∷ []
