-- The packages that a folder lacks; this project's profile.
use Rattle.std.specs.Prelude.{◌≡◌, ◌≢◌, ℕ, All, List, ◌∷◌, ◌++◌, codes, decimal, flat_map, map, Option, None, Some, Result, Ok, Err}
use Rattle.percent_encoding.specs.Percent.{percent_encode}
use Rattle.catalogue.specs.declared.edit.Edit.{Edit}
use Rattle.catalogue.specs.Lookups.{packages_of}
use Rattle.catalogue.specs.declared.content.App.{App}
use Rattle.package_files.specs.Added.{added_in}
use Rattle.package_files.specs.FindingStrings.{ascii_controls}
use Rattle.package_files.specs.Findings.{Package}
use Rattle.package_files.specs.declared.lacking.Lack.{Lack}
use Rattle.package_files.specs.declared.lacking.Lack.TheVariants as lack
use Rattle.package_files.specs.declared.lacking.Lacking.{Lacking}

-- what the size of a file may be, by its name; none if there is no file
abbrev pub Sizes : Type 1
Sizes = List ℕ → Option ℕ → Type 0

-- a package's name and its size
abbrev pub Sized : Type 0
Sized = List ℕ × ℕ

-- a package with its declared size
abbrev pub sized : Package → Sized
sized named = (named.0, named.1.size)

-- the packages of all apps with their sizes
abbrev pub sizes_of : List App → List Sized
sizes_of apps = map sized (packages_of apps)

-- the packages that a script adds, with their sizes
abbrev pub sizes_in : List Edit → List Sized
sizes_in batch = map sized (added_in batch)

-- the file of a package has the declared size
abbrev pub IsThere : Sizes → Sized → Type 0
IsThere sizes named = sizes named.0 (Some named.1)

-- all of these packages are there
abbrev pub AreThere : Sizes → List Sized → Type 0
AreThere sizes packages = All (IsThere sizes) packages

-- there is no file of a name, or it has another size than the declared one
abbrev pub Lacks : (Option ℕ → Type 0) → ℕ → Lack → Type 0
Lacks sizes declared lack.Missing = sizes None
Lacks sizes declared (lack.Size said found) = sizes (Some found) × (found ≢ declared) × (said ≡ declared)

-- rule: Package that a folder lacks
-- the first of these packages that isn't there, and what there is
pub record LacksFirst (sizes : Sizes) (packages : List Sized) (name : List ℕ) (what : Lack) : Type 0 where
  pub before : List Sized
  pub declared : ℕ
  pub later : List Sized
  pub is : packages ≡ before ++ (name, declared) ∷ later
  pub there : AreThere sizes before
  pub lacks : Lacks (sizes name) declared what

-- what was found of packages: all are there, or this one is the first that isn't
abbrev pub IsLooked : Sizes → List Sized → Result (Unit {0}) Lacking → Type 0
IsLooked sizes packages (Ok done) = AreThere sizes packages
IsLooked sizes packages (Err lacking) = LacksFirst sizes packages lacking.name.now lacking.lack

-- rule: Line of a lacking package
-- the name, with each control character and each byte outside ASCII as `%` and two hexadecimal digits; and the declared
-- size and the one that was found
abbrev pub lacking_string : List ℕ → Lack → List ℕ
lacking_string name lack.Missing = codes "missing " ++ percent_encode ascii_controls name
lacking_string name (lack.Size declared found) =
    codes "size " ++ percent_encode ascii_controls name ++ codes " " ++ decimal declared ++ codes " " ++ decimal found
