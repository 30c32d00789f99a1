-- The mirrors of a profile: their keys, and which a profile may name: one to four, each valid, no
-- two of one name; this project's profile.
use Rattle.std.specs.Prelude.{ℕ, ◌||◌, not, nat_lt, Bool, List, [], ◌∷◌, ◌++◌, length, codes, if◌then◌else◌, Option, Some, None, Result, Ok, Err}
use Rattle.std.specs.List.{list_any}
use Rattle.std.specs.Option.{option_map_or}
use Rattle.std.specs.Str.{bytes_eq}
use Rattle.toml.specs.Data.{as_str}
use Rattle.catalogue.specs.Mirrors.{is_mirror}
use Rattle.catalogue.specs.declared.mirror.Mirror.{Mirror}
use Rattle.profile_toml.specs.Fields.{◌>>=◌, as_natural, known, required}
use Rattle.profile_toml.specs.Tables.{PlacedTable}
use Rattle.profile_toml.specs.declared.tables.path.BadEntry.{BadEntry}
use Rattle.profile_toml.specs.declared.fault.ProfileFault.{ProfileFault}
use Rattle.profile_toml.specs.declared.fault.ProfileFault.TheVariants.{BadMirror}

-- the keys of a mirror, in the order in which they are read
abbrev pub mirror_keys : List (List ℕ)
mirror_keys = codes "name" ∷ codes "codebase" ∷ codes "budget" ∷ []

-- rule: Mirror of a profile
-- a mirror
unfoldable pub mirror_of : PlacedTable → Result Mirror BadEntry
mirror_of table = do
  all_known ← known mirror_keys table
  name ← required as_str (codes "name") table
  codebase ← required as_str (codes "codebase") table
  budget ← required as_natural (codes "budget") table
  Ok (record { name = name; codebase = codebase; budget = budget })

-- the maximum of a profile's mirrors
abbrev pub max_mirrors : ℕ
max_mirrors = 4

-- the mirror has the name
abbrev pub is_named : List ℕ → Mirror → Bool
is_named name mirror = bytes_eq name mirror.name

-- a mirror that is invalid, or has the name of one before it
abbrev pub is_invalid_after : List Mirror → Mirror → Bool
is_invalid_after before mirror = not (is_mirror mirror) || list_any (is_named mirror.name) before

-- the index of the first invalid one among mirrors, of which those before are valid
abbrev pub first_invalid_after : List Mirror → List Mirror → Option ℕ
first_invalid_after before [] = None
first_invalid_after before (mirror ∷ mirrors) =
    if is_invalid_after before mirror then Some (length before)
    else first_invalid_after (before ++ mirror ∷ []) mirrors

-- the index that is reported of a list of mirrors: 0 if there is none, 4 if there is a fifth, else
-- that of the first invalid one
abbrev pub invalid_mirror : List Mirror → Option ℕ
invalid_mirror [] = Some 0
invalid_mirror (mirror ∷ mirrors) =
    if nat_lt max_mirrors (length (mirror ∷ mirrors)) then Some max_mirrors
    else first_invalid_after [] (mirror ∷ mirrors)

-- rule: Mirrors of a profile
-- the mirrors, if a profile may name them
abbrev pub valid_mirrors : List Mirror → Result (List Mirror) ProfileFault
valid_mirrors mirrors =
    option_map_or (λ index. Err (BadMirror index)) (invalid_mirror mirrors) (Ok mirrors)
