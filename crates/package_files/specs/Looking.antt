-- The steps of a look for packages.
use Rattle.std.specs.Prelude.{List, [], ◌∷◌, flat_map, map}
use Rattle.catalogue.specs.declared.edit.Edit.{Edit}
use Rattle.catalogue.specs.Lookups.{packages_in}
use Rattle.catalogue.specs.declared.content.App.{App}
use Rattle.catalogue.specs.declared.content.Diff.{Diff}
use Rattle.catalogue.specs.declared.content.Release.{Release}
use Rattle.package_files.specs.Added.{added_by}
use Rattle.package_files.specs.Lacking.{Sized, sized}

-- the one package of a release
abbrev pub release_sizes : Release → List Sized
release_sizes release = (release.name, release.size) ∷ []

-- the one package of a differential
abbrev pub diff_sizes : Diff → List Sized
diff_sizes diff = (diff.name, diff.size) ∷ []

-- the packages of an app
abbrev pub app_sizes : App → List Sized
app_sizes app = map sized (packages_in app)

-- the package that an edit adds, if it adds one
abbrev pub edit_sizes : Edit → List Sized
edit_sizes edit = map sized (added_by edit)
