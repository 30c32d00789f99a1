-- The steps of a look for the packages of a script.
use Rattle.std.specs.Prelude.{◌≡◌, ◌⊎◌, ⊤, ℕ, Bool, true, List, Option, None, Some, Result, Ok, Err}
use Rattle.catalogue.specs.Histories.{History}
use Rattle.http_desks.specs.Calls.{Asks, answer_in}
use Rattle.http_desks.specs.declared.desk.Answer.{Answer}
use Rattle.http_desks.specs.declared.desk.DeskStatus.{DeskStatus}
use Rattle.http_desks.specs.declared.desk.DeskStatus.TheVariants as status
use Rattle.http_desks.specs.declared.desk.Off.{Off}
use Rattle.http_desks.specs.declared.desk.Off.TheVariants as off
use Rattle.package_files.specs.Lacking.{Sizes}
use Rattle.package_files.specs.declared.lacking.Lack.{Lack}
use Rattle.package_files.specs.declared.lacking.Lacking.{Lacking}
use Rattle.service_desks.specs.Operators.{IsCall as IsOperatorCall}
use Rattle.service_desks.specs.States.{State}
use Rattle.systems.specs.Edges.{Edges}
use Rattle.omaha_server.specs.Checks.{HasPackages, IsRejected, IsStocked, LacksPackage, lacking_line}
use Rattle.server_ports.specs.declared.error.ServerError.{ServerError}
use Rattle.server_ports.specs.declared.error.ServerError.TheVariants as server
use Rattle.server_ports.specs.declared.place.Place.{Place}

-- the reply names the lacking package, unless memory runs out
abbrev pub Names : List ℕ × Lack → Result (DeskStatus × List ℕ) Off → Type 0
Names lacking (Ok reply) = reply ≡ (status.UnprocessableContent, lacking_line lacking.0 lacking.1)
Names lacking (Err off.Memory) = ⊤
Names lacking (Err off.Closed) = ⊥

-- there is a reply if a package isn't there
abbrev pub IsLookedAt : Result (Unit {0}) Lacking → Option (Result Answer Off) → Type 0
IsLookedAt (Ok done) stopped = stopped ≡ None
IsLookedAt (Err lacking) None = ⊥
IsLookedAt (Err lacking) (Some reply) = Names (lacking.name.now, lacking.lack) (answer_in reply)

-- a reply in place of the desk's
abbrev pub IsStop : Sizes → List ℕ → Result (DeskStatus × List ℕ) Off → Type 0
IsStop sizes body (Ok reply) = IsRejected sizes body reply
IsStop sizes body (Err off.Memory) = ⊤
IsStop sizes body (Err off.Closed) = ⊥

-- a body whose packages are there, or the reply to one whose aren't
abbrev pub StopsFor : Sizes → List ℕ → Option (Result Answer Off) → Type 0
StopsFor sizes body None = IsStocked sizes body
StopsFor sizes body (Some reply) = IsStop sizes body (answer_in reply)

-- the same, if packages must exist
abbrev pub StopsIf : Bool → Sizes → List ℕ → Option (Result Answer Off) → Type 0
StopsIf must sizes body None = must ≡ true → IsStocked sizes body
StopsIf must sizes body (Some reply) = (must ≡ true) × IsStop sizes body (answer_in reply)

-- what a body comes to that is no word, if packages must exist: a reply in place of the desk's, and nothing changes; or the
-- desk is asked
abbrev pub ChecksBody : Bool → Sizes → State → List ℕ → ℕ → Result (DeskStatus × List ℕ) Off → State → Type 0
ChecksBody must sizes before body moment answer after =
    ((must ≡ true) × IsStop sizes body answer × (after ≡ before))
    ⊎ ((must ≡ true → IsStocked sizes body) × IsOperatorCall before (Asks body moment answer) after)

-- a server lacks a package of this name, unless memory runs out
abbrev pub IsLackOf : List ℕ × Lack → ServerError → Type 0
IsLackOf lacking (server.Package name what) = (name, what) ≡ lacking
IsLackOf lacking server.Memory = ⊤
IsLackOf lacking other = ⊥

-- the packages of a history were looked for, if they must be there
abbrev pub IsChecked : Edges → Place → History → Result (Unit {0}) ServerError → Type 0
IsChecked edges place history (Ok done) = HasPackages edges place history
IsChecked edges place history (Err (server.Package name what)) =
    LacksPackage edges place history (server.Package name what)
IsChecked edges place history (Err server.Memory) = ⊤
IsChecked edges place history (Err other) = ⊥
