-- What the calls of an operator come to, and what they find of the history; this project's profile.
use Rattle.std.specs.Prelude.{◌||◌, ℕ, Bool, List, codes, bytes_eq, nat_eq, if◌then◌else◌, Option, None, Some, Result, Ok, Err}
use Rattle.std.specs.List.{starts_with}
use Rattle.http_desks.specs.declared.desk.DeskStatus.{DeskStatus}
use Rattle.http_desks.specs.declared.desk.DeskStatus.TheVariants as status
use Rattle.http_desks.specs.declared.desk.Off.{Off}
use Rattle.operator_pages.specs.Counts.{counted}
use Rattle.operator_pages.specs.declared.counts.Counts.{Counts}
use Rattle.operator_pages.specs.declared.counts.Outcome.{Outcome}
use Rattle.operator_pages.specs.declared.counts.Outcome.TheVariants as outcome
use Rattle.operator_pages.specs.declared.counts.Reach.{Reach}
use Rattle.operator_pages.specs.declared.counts.Reach.TheVariants as reach
use Rattle.service_desks.specs.Following.{follow_word}
use Rattle.service_desks.specs.Raises.{is_raise}

-- the body that asks for the status, and the one that asks the server to end
abbrev pub status_word : List ℕ
status_word = codes "status"

abbrev pub stop_word : List ℕ
stop_word = codes "stop"

-- a body that publishes, adopts and raises nothing
abbrev pub is_word : List ℕ → Bool
is_word body = bytes_eq body (codes "dump") || bytes_eq body status_word || bytes_eq body stop_word

-- a script without edits for no edition, since none has the number 0: whoever sends it asks for the edition's number
abbrev pub asks_number : List ℕ → Bool
asks_number body = bytes_eq body (codes "schema = 1\nbase = 0\n")

-- what a look for a record of another server came to, by its line: one was adopted, or there was none
abbrev pub followed_in : List ℕ → Option Outcome
followed_in line = if starts_with nat_eq line (codes "followed ") then Some outcome.Followed else None

-- what a body of 200 came to, by the line of its reply
abbrev pub outcome_of : List ℕ → List ℕ → Option Outcome
outcome_of body line =
    if is_raise body then Some outcome.Raised else
    if bytes_eq body follow_word then followed_in line else
    if is_word body then None else Some outcome.Published

-- what a call came to, by its body and its reply
abbrev pub outcome_in : List ℕ → Result (DeskStatus × List ℕ) Off → Option Outcome
outcome_in body (Ok (status.Success, line)) = outcome_of body line
outcome_in body (Ok (status.BadRequest, line)) = Some outcome.Malformed
outcome_in body (Ok (status.Conflict, line)) = if asks_number body then None else Some outcome.Stale
outcome_in body (Ok (status.UnprocessableContent, line)) = Some outcome.Rejected
outcome_in body (Ok (status.ServiceUnavailable, line)) = Some outcome.Unreachable
outcome_in body (Err off) = if is_word body then None else Some outcome.Failed

-- the counts after a call that came to this
abbrev pub counted_by : Option Outcome → Counts → Counts
counted_by None counts = counts
counted_by (Some found) counts = counted found counts

-- rule: Reach by a call
-- what a call found of the history, by whether it published an edition: a script or a raise that is accepted was kept, a
-- look for a record found one or none, and a script gave way to another server's. No other reply needs the history
abbrev pub reach_in : Bool → List ℕ → Result (DeskStatus × List ℕ) Off → Reach
reach_in published body (Ok (status.Success, line)) = if is_word body then reach.Unasked else reach.Replies
reach_in published body (Ok (status.BadRequest, line)) = reach.Unasked
reach_in published body (Ok (status.Conflict, line)) = if published then reach.Replies else reach.Unasked
reach_in published body (Ok (status.UnprocessableContent, line)) = reach.Unasked
reach_in published body (Ok (status.ServiceUnavailable, line)) = reach.Unreachable
reach_in published body (Err off) = reach.Unasked
