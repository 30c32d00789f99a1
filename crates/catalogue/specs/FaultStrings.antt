-- How faults print: the code, a space and the name, as the program and the operator's desk show
-- them; this project's profile.
use Rattle.std.specs.Prelude.{ℕ, List, ◌++◌, codes, decimal}
use Rattle.catalogue.specs.declared.fault.Fault.{Fault}
use Rattle.catalogue.specs.declared.fault.Fault.TheVariants as fault
use Rattle.catalogue.specs.declared.fault.Refused.{Refused}

-- rule: Printed fault of an edit
-- a fault's code and name
abbrev pub fault_string : Fault → List ℕ
fault_string fault.UnknownApp = codes "C1 UnknownApp"
fault_string fault.AppExists = codes "C2 AppExists"
fault_string fault.BadAppId = codes "C3 BadAppId"
fault_string fault.BadVersion = codes "C4 BadVersion"
fault_string fault.ReleaseExists = codes "C5 ReleaseExists"
fault_string fault.HashTaken = codes "C6 HashTaken"
fault_string fault.BadHash = codes "C7 BadHash"
fault_string fault.BadSize = codes "C8 BadSize"
fault_string fault.BadName = codes "C9 BadName"
fault_string fault.NameTaken = codes "C10 NameTaken"
fault_string fault.UnknownRelease = codes "C11 UnknownRelease"
fault_string fault.DiffExists = codes "C12 DiffExists"
fault_string fault.DiffBackward = codes "C13 DiffBackward"
fault_string fault.UnknownCohort = codes "C14 UnknownCohort"
fault_string fault.CohortExists = codes "C15 CohortExists"
fault_string fault.BadShare = codes "C16 BadShare"
fault_string fault.Limit = codes "C17 Limit"

-- a rejected edit's index and fault, as `edit 12: C11 UnknownRelease`
abbrev pub refused_string : Refused → List ℕ
refused_string refused = codes "edit " ++ decimal refused.index ++ codes ": " ++ fault_string refused.fault
