-- How the fault of a record is printed; this project's profile.
use Rattle.std.specs.Prelude.{ℕ, List, ◌++◌, codes}
use Rattle.catalogue.specs.FaultStrings.{refused_string}
use Rattle.profile_toml.specs.FaultStrings.{fault_string as profile_fault_string}
use Rattle.failures.specs.declared.record_fault.RecordFault.{RecordFault}
use Rattle.failures.specs.declared.record_fault.RecordFault.TheVariants as fault

-- what the record is, and its fault
abbrev pub fault_string : RecordFault → List ℕ
fault_string fault.NoProfile = codes "no profile"
fault_string fault.SecondProfile = codes "a second profile"
fault_string (fault.Profile error) = codes "profile " ++ profile_fault_string error
fault_string (fault.Script error) = codes "script " ++ profile_fault_string error
fault_string (fault.Refused refused) = refused_string refused
fault_string fault.HistoryFull = codes "history full"
fault_string fault.Raise = codes "bad raise"
fault_string fault.Unadopted = codes "not adopted, omaha history says why"
