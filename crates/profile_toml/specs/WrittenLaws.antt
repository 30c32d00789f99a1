-- What holds of written profiles; this project's profile.
use Rattle.std.specs.Prelude.{◌≡◌, ℕ, List, [], Ok}
use Rattle.catalogue.specs.Batches.{outcome}
use Rattle.catalogue.specs.declared.edit.Edit.{Edit}
use Rattle.profile_toml.specs.Reading.{profile_of_bytes}
use Rattle.profile_toml.specs.WrittenProfiles.{IsProfileFile, IsReadAs}
use Rattle.catalogue.specs.declared.content.App.{App}
use Rattle.catalogue.specs.declared.mirror.Mirror.{Mirror}

-- a content with its mirrors is written in one way
abbrev pub ProfilesAreWrittenInOneWay : Type 0
ProfilesAreWrittenInOneWay =
    (apps : List App) (mirrors : List Mirror) (first second : List ℕ) →
    IsProfileFile apps mirrors first → IsProfileFile apps mirrors second → first ≡ second

-- a written profile that is read, whose edits are applied and whose content is written again, has the same
-- bytes
abbrev pub ReadProfilesAreWrittenAgain : Type 0
ReadProfilesAreWrittenAgain =
    (apps : List App) (mirrors : List Mirror) (text : List ℕ) →
    IsProfileFile apps mirrors text → IsReadAs apps mirrors text →
    (edits : List Edit) (named : List Mirror) (made : List App) →
    profile_of_bytes text ≡ Ok (edits, named) → outcome edits [] ≡ Ok made →
    (again : List ℕ) → IsProfileFile made named again → again ≡ text
