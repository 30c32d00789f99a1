-- How the error of a batch prints, as the program shows it; this project's
-- profile.
use Rattle.std.specs.Prelude.{ℕ, List, codes}
use Rattle.catalogue.specs.FaultStrings.{refused_string}
use Rattle.editions.specs.declared.fault.NextError.{NextError}
use Rattle.editions.specs.declared.fault.NextError.TheVariants as error

-- rule: Printed error of a batch
-- the rejected edit, as `edit 12: C11 UnknownRelease`; else `history full` or `memory`
abbrev pub error_string : NextError → List ℕ
error_string (error.Refused refused) = refused_string refused
error_string error.HistoryFull = codes "history full"
error_string error.Memory = codes "memory"
