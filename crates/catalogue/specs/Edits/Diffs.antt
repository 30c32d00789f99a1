-- The faults of an added differential, in their order; this project's profile.
use Rattle.std.specs.Prelude.{◌||◌, not, nat_le, Bool, List, [], ◌∷◌, length, is_some, is_none}
use Rattle.catalogue.specs.Versions.{is_below, version_of, lenient_version_of}
use Rattle.catalogue.specs.Forms.{is_package_name, hash_of, is_size}
use Rattle.catalogue.specs.Limits.{max_diffs}
use Rattle.catalogue.specs.Lookups.{app_of, declared_of, diffs_of, has_diff, has_release, releases_of}
use Rattle.catalogue.specs.declared.content.App.{App}
use Rattle.catalogue.specs.declared.edits.diffs.AddDiff.{AddDiff}
use Rattle.catalogue.specs.declared.fault.Fault.{Fault}
use Rattle.catalogue.specs.declared.fault.Fault.TheVariants as fault

-- the app, the form of each string and number, then that both releases are there and that it leads up,
-- what must be new in the app and in the catalogue, and that there is room
abbrev pub tests_of_add_diff : List App → AddDiff → List (Bool × Fault)
tests_of_add_diff apps e =
    let from = lenient_version_of e.from in
    let to = lenient_version_of e.to in
    (is_none (app_of apps e.app), fault.UnknownApp)
    ∷ (is_none (version_of e.from) || is_none (version_of e.to), fault.BadVersion)
    ∷ (is_none (hash_of e.sha256), fault.BadHash)
    ∷ (not (is_size e.size), fault.BadSize)
    ∷ (not (is_package_name e.name), fault.BadName)
    ∷ (
      not (has_release (releases_of apps e.app) from) || not (has_release (releases_of apps e.app) to),
      fault.UnknownRelease,
    )
    ∷ (not (is_below from to), fault.DiffBackward)
    ∷ (has_diff (diffs_of apps e.app) (from, to), fault.DiffExists)
    ∷ (is_some (declared_of apps e.name), fault.NameTaken)
    ∷ (nat_le max_diffs (length (diffs_of apps e.app)), fault.Limit)
    ∷ []
