-- How a client's fault is printed: the fault's code and name, this project's own.
use Rattle.std.specs.Prelude.{ℕ, List, codes}
use Rattle.update_client.specs.declared.fault.Fault.{Fault}
use Rattle.update_client.specs.declared.fault.Fault.TheVariants as fault

-- rule: Printed fault of a client
-- the fault's code, a space and its name
abbrev pub fault_string : Fault → List ℕ
fault_string fault.Link = codes "U1 Link"
fault_string fault.Reply = codes "U2 Reply"
fault_string fault.BadLength = codes "U3 BadLength"
fault_string fault.BadHash = codes "U4 BadHash"
fault_string fault.Install = codes "U5 Install"
fault_string fault.NoProgress = codes "U6 NoProgress"
fault_string fault.TooManySteps = codes "U7 TooManySteps"
fault_string fault.Busy = codes "U8 Busy"
