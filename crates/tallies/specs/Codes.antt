-- The statuses that a server replies with; this project's profile.
use Rattle.std.specs.Prelude.{ℕ, ◌==◌, Option, position}
use Rattle.http_wire.specs.declared.heads.status.Status.{Status}
use Rattle.http_wire.specs.declared.heads.status.Status.TheVariants as status
use Rattle.tallies.specs.declared.codes.TheConstants.{CODES}

-- rule: Counted statuses
-- the position of a status among those of all replies
abbrev pub position_of : ℕ → Option ℕ
position_of code = position (λ it. it == code) CODES

-- the number of a status
abbrev pub code_of : Status → ℕ
code_of status.Success = 200
code_of status.BadRequest = 400
code_of status.Forbidden = 403
code_of status.NotFound = 404
code_of status.MethodNotAllowed = 405
code_of status.Conflict = 409
code_of status.LengthRequired = 411
code_of status.ContentTooLarge = 413
code_of status.UnprocessableContent = 422
code_of status.FieldsTooLarge = 431
code_of status.InternalServerError = 500
code_of status.NotImplemented = 501
code_of status.ServiceUnavailable = 503
