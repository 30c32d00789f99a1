-- A draft's index finds what its content declares; private to this crate.
use Rattle.std.specs.Prelude.{◌≡◌, ℕ, List}
use Rattle.catalogue.specs.Lookups.{declared_of}
use Rattle.catalogue.specs.PackageIndex.{found_in}
use Rattle.catalogue.specs.declared.content.App.{App}
use Rattle.catalogue.specs.declared.draft.Draft.{Draft}
use Rattle.catalogue.specs.declared.package_index.PackageIndex.{PackageIndex}

-- under each name the index finds what the content declares of its package
abbrev pub Indexes : PackageIndex → List App → Type 0
Indexes packages apps = (name : List ℕ) → found_in packages name ≡ declared_of apps name

-- the draft's index is that of its content
abbrev pub IsIndexed : Draft → Type 0
IsIndexed draft = Indexes draft.packages draft.apps

-- the draft has the content, and its index
pub record Becomes (draft : Draft) (apps : List App) : Type 0 where
  pub content : draft.apps ≡ apps
  pub indexed : IsIndexed draft
