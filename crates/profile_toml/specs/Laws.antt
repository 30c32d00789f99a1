-- What holds of every profile that is read, and of every fault that is reported; this project's
-- profile.
use Rattle.std.specs.Prelude.{◌≡◌, ℕ, ◌≤◌, List, length, true, Ok, Err}
use Rattle.std.specs.List.{list_all}
use Rattle.catalogue.specs.Mirrors.{is_mirror}
use Rattle.values.specs.Lists.{IsOnce}
use Rattle.catalogue.specs.declared.edit.Edit.{Edit}
use Rattle.catalogue.specs.declared.mirror.Mirror.{Mirror}
use Rattle.profile_toml.specs.TableLaws.{IsOneLine}
use Rattle.profile_toml.specs.FaultStrings.{fault_string}
use Rattle.profile_toml.specs.Mirrors.{is_named, max_mirrors}
use Rattle.profile_toml.specs.Reading.{profile_of_bytes, script_of_bytes}
use Rattle.profile_toml.specs.declared.fault.ProfileFault.{ProfileFault}

-- one to four mirrors, each valid, no two of one name
pub record AreMirrors (mirrors : List Mirror) : Type 0 where
  pub some : 1 ≤ length mirrors
  pub few : length mirrors ≤ max_mirrors
  pub formed : list_all is_mirror mirrors ≡ true
  pub once : IsOnce is_named mirrors

-- the mirrors of a profile that is read are such mirrors
abbrev pub ProfilesNameMirrors : Type 0
ProfilesNameMirrors =
    (text : List ℕ) (edits : List Edit) (mirrors : List Mirror) →
    profile_of_bytes text ≡ Ok (edits, mirrors) → AreMirrors mirrors

-- rule: A fault is one line
-- the fault of a profile is printed as one line, and so is that of a script
abbrev pub FaultsOfProfilesAreOneLine : Type 0
FaultsOfProfilesAreOneLine =
    (text : List ℕ) (fault : ProfileFault) →
    profile_of_bytes text ≡ Err fault → IsOneLine (fault_string fault)

abbrev pub FaultsOfScriptsAreOneLine : Type 0
FaultsOfScriptsAreOneLine =
    (text : List ℕ) (fault : ProfileFault) →
    script_of_bytes text ≡ Err fault → IsOneLine (fault_string fault)
