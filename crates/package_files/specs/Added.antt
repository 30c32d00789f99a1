-- The packages that a script adds; this project's profile.
use Rattle.std.specs.Prelude.{List, [], ◌∷◌, flat_map}
use Rattle.catalogue.specs.Changes.{new_diff, new_release}
use Rattle.catalogue.specs.declared.edit.Edit.{Edit}
use Rattle.catalogue.specs.declared.edit.Edit.TheVariants as edit
use Rattle.catalogue.specs.Lookups.{diff_package, full_package}
use Rattle.package_files.specs.Findings.{Package}

-- the package that an edit adds, if it adds one
abbrev pub added_by : Edit → List Package
added_by (edit.AddRelease added) = full_package (new_release added) ∷ []
added_by (edit.AddDiff added) = diff_package (new_diff added) ∷ []
added_by other = []

-- rule: Packages of a script
-- the full packages of the releases that a script adds, and its differentials, in order
abbrev pub added_in : List Edit → List Package
added_in batch = flat_map added_by batch
