-- What is true of the fields of every catalogue; private to this crate but for `IsValid`.
use Rattle.std.specs.Prelude.{List}
use Rattle.catalogue.specs.Draft.{Indexes}
use Rattle.catalogue.specs.Validity.{IsValid}
use Rattle.catalogue.specs.declared.content.App.{App}
use Rattle.catalogue.specs.declared.package_index.PackageIndex.{PackageIndex}

-- the index is that of the content, and the content is valid
pub record IsSound (packages : PackageIndex) (apps : List App) : Type 0 where
  pub indexed : Indexes packages apps
  pub valid : IsValid apps
