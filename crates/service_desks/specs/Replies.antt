-- The status and the bytes of a line of the operator's desk.
use Rattle.std.specs.Prelude.{ℕ, List}
use Rattle.http_desks.specs.declared.desk.DeskStatus.{DeskStatus}
use Rattle.http_desks.specs.declared.desk.DeskStatus.TheVariants as status
use Rattle.service_desks.specs.Lines.{doubt_line, invalid_raise_line, edition_line, followed_line, full_line, raised_line, refused_line, script_line, stale_line, unraised_line, unreachable_line}
use Rattle.service_desks.specs.declared.lines.Line.{Line}
use Rattle.service_desks.specs.declared.lines.Line.TheVariants as line

abbrev pub bytes_of : Line → List ℕ
bytes_of (line.Edition number) = edition_line number
bytes_of (line.Stale number) = stale_line number
bytes_of (line.Refused refused) = refused_line refused
bytes_of line.HistoryFull = full_line
bytes_of (line.Followed number) = followed_line number
bytes_of line.Unreachable = unreachable_line
bytes_of line.InDoubt = doubt_line
bytes_of (line.Invalid fault) = script_line fault.now
bytes_of (line.Raised name digits) = raised_line name.now digits.now
bytes_of (line.Unraised fault) = unraised_line fault
bytes_of line.InvalidRaise = invalid_raise_line

abbrev pub status_of : Line → DeskStatus
status_of (line.Edition number) = status.Success
status_of (line.Stale number) = status.Conflict
status_of (line.Refused refused) = status.UnprocessableContent
status_of line.HistoryFull = status.UnprocessableContent
status_of (line.Followed number) = status.Success
status_of line.Unreachable = status.ServiceUnavailable
status_of line.InDoubt = status.ServiceUnavailable
status_of (line.Invalid fault) = status.BadRequest
status_of (line.Raised name digits) = status.Success
status_of (line.Unraised fault) = status.UnprocessableContent
status_of line.InvalidRaise = status.BadRequest
