-- How the fault of a profile or a script is printed: its code and name; this project's profile.
use Rattle.std.specs.Prelude.{ℕ, List, ◌++◌, codes, decimal}
use Rattle.profile_toml.specs.declared.fault.ProfileFault.{ProfileFault}
use Rattle.profile_toml.specs.declared.fault.ProfileFault.TheVariants.{NotToml, BadSchema, BadEntry, BadMirror, TooManyEdits}

-- the fault's code, a space and its name; of an invalid entry also its path, of an invalid mirror its index
abbrev pub fault_string : ProfileFault → List ℕ
fault_string NotToml = codes "F1 NotToml"
fault_string BadSchema = codes "F2 BadSchema"
fault_string (BadEntry path) = codes "F3 BadEntry " ++ path
fault_string (BadMirror index) = codes "F4 BadMirror " ++ decimal index
fault_string TooManyEdits = codes "F5 TooManyEdits"
