-- How the fault of a raise prints: the code, a space and the name, as the operator's desk shows it; this project's
-- profile.
use Rattle.std.specs.Prelude.{ℕ, List, ◌++◌, codes, decimal}
use Rattle.mirror_ledger.specs.declared.raise_error.RaiseError.{RaiseError}
use Rattle.mirror_ledger.specs.declared.raise_error.RaiseError.TheVariants as fault

-- rule: Printed fault of a raise
-- the fault's code and name, and the budget that is above the one that was asked for
abbrev pub fault_string : RaiseError → List ℕ
fault_string fault.UnknownMirror = codes "B1 UnknownMirror"
fault_string fault.TooHigh = codes "B2 TooHigh"
fault_string (fault.Lower now) = codes "B3 Lower " ++ decimal now
