-- The lines that the operator's desk replies with; this project's profile.
use Rattle.std.specs.Prelude.{◌≡◌, ◌⊎◌, ℕ, List, ◌++◌, codes, decimal}
use Rattle.catalogue.specs.FaultStrings.{fault_string}
use Rattle.catalogue.specs.declared.fault.Refused.{Refused}
use Rattle.http_desks.specs.declared.desk.DeskStatus.{DeskStatus}
use Rattle.http_desks.specs.declared.desk.DeskStatus.TheVariants as status
use Rattle.mirror_ledger.specs.FaultStrings.{fault_string as raise_fault_string}
use Rattle.mirror_ledger.specs.declared.raise_error.RaiseError.{RaiseError}
use Rattle.profile_toml.specs.FaultStrings.{fault_string as script_fault_string}
use Rattle.profile_toml.specs.declared.fault.ProfileFault.{ProfileFault}

-- rule: Lines of the operator's desk
-- the number of the edition that was published
abbrev pub edition_line : ℕ → List ℕ
edition_line number = codes "edition " ++ decimal number ++ codes "\n"

-- the number of the edition that is published, which is not the script's base
abbrev pub stale_line : ℕ → List ℕ
stale_line number = codes "stale " ++ decimal number ++ codes "\n"

-- the index of the rejected edit, from 0, and its fault
abbrev pub refused_line : Refused → List ℕ
refused_line refused =
    codes "refused " ++ decimal refused.index ++ codes " " ++ fault_string refused.fault ++ codes "\n"

-- there is no room for a batch
abbrev pub full_line : List ℕ
full_line = codes "history full\n"

-- the number of the edition that is published, after a record of another server was adopted
abbrev pub followed_line : ℕ → List ℕ
followed_line number = codes "followed " ++ decimal number ++ codes "\n"

-- no server of the history replies: nothing was kept
abbrev pub unreachable_line : List ℕ
unreachable_line = codes "history unreachable\n"

-- the same, and it may have been kept
abbrev pub doubt_line : List ℕ
doubt_line = codes "history in doubt\n"

-- the reply to a script or a raise that no server of the history took, as far as this one knows
abbrev pub IsUnkept : DeskStatus × List ℕ → Type 0
IsUnkept reply =
    (reply ≡ (status.ServiceUnavailable, unreachable_line)) ⊎ (reply ≡ (status.ServiceUnavailable, doubt_line))

-- the fault of a script
abbrev pub script_line : ProfileFault → List ℕ
script_line fault = script_fault_string fault ++ codes "\n"

-- the mirror whose budget was raised, and the budget that it has, as it was sent
abbrev pub raised_line : List ℕ → List ℕ → List ℕ
raised_line name digits = codes "raised " ++ name ++ codes " " ++ digits ++ codes "\n"

-- why a budget was not raised
abbrev pub unraised_line : RaiseError → List ℕ
unraised_line fault = codes "refused " ++ raise_fault_string fault ++ codes "\n"

-- the body is no valid raise
abbrev pub invalid_raise_line : List ℕ
invalid_raise_line = codes "bad raise\n"
