-- How a server is asked to end; this project's profile.
use Rattle.std.specs.Prelude.{◌≡◌, ℕ, true, List, Result, Ok, Err}
use Rattle.http_desks.specs.declared.desk.DeskStatus.{DeskStatus}
use Rattle.http_desks.specs.declared.desk.DeskStatus.TheVariants as status
use Rattle.http_desks.specs.declared.desk.Off.{Off}
use Rattle.http_desks.specs.declared.desk.Off.TheVariants as off
use Rattle.operator_pages.specs.Health.{stopping_line}
use Rattle.omaha_server.specs.Overviews.{IsUnmoved, Overview}

-- rule: Stop of a server
-- the server was asked to end, and nothing else changed; or there was no memory for the reply
abbrev pub IsEnding : Overview → Result (DeskStatus × List ℕ) Off → Overview → Type 0
IsEnding before (Ok reply) after =
    (reply ≡ (status.Success, stopping_line)) × (after.state ≡ before.state) × (after.ending ≡ true)
IsEnding before (Err off.Memory) after = IsUnmoved before after
IsEnding before (Err off.Closed) after = ⊥
