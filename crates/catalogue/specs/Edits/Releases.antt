-- The faults of an added release, in their order; this project's profile.
use Rattle.std.specs.Prelude.{not, nat_le, Bool, List, [], ◌∷◌, length, is_some, is_none}
use Rattle.std.specs.List.{list_any}
use Rattle.catalogue.specs.Versions.{version_of, lenient_version_of}
use Rattle.catalogue.specs.Forms.{is_package_name, hash_named, hash_of, is_size}
use Rattle.catalogue.specs.Limits.{max_releases}
use Rattle.catalogue.specs.Lookups.{app_of, declared_of, has_hash, has_release, releases_of}
use Rattle.catalogue.specs.declared.content.App.{App}
use Rattle.catalogue.specs.declared.edits.releases.AddRelease.{AddRelease}
use Rattle.catalogue.specs.declared.fault.Fault.{Fault}
use Rattle.catalogue.specs.declared.fault.Fault.TheVariants as fault

-- the app, the form of each string and number, then what must be new in the app and in the catalogue,
-- then that there is room
abbrev pub tests_of_add_release : List App → AddRelease → List (Bool × Fault)
tests_of_add_release apps e =
    (is_none (app_of apps e.app), fault.UnknownApp)
    ∷ (is_none (version_of e.version), fault.BadVersion)
    ∷ (is_none (hash_of e.sha256), fault.BadHash)
    ∷ (not (is_size e.size), fault.BadSize)
    ∷ (not (is_package_name e.name), fault.BadName)
    ∷ (has_release (releases_of apps e.app) (lenient_version_of e.version), fault.ReleaseExists)
    ∷ (list_any (has_hash (hash_named e.sha256)) (releases_of apps e.app), fault.HashTaken)
    ∷ (is_some (declared_of apps e.name), fault.NameTaken)
    ∷ (nat_le max_releases (length (releases_of apps e.app)), fault.Limit)
    ∷ []
