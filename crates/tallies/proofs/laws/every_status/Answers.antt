use Rattle.std.proofs.Common.{◌≡◌, IsSome, refl}
use Rattle.http_wire.specs.Replies.{status_line}
use Rattle.http_wire.specs.declared.heads.status.Status.{Status}
use Rattle.http_wire.specs.declared.heads.status.Status.TheVariants as status
use Rattle.tallies.specs.Codes.{code_of, position_of}
use Rattle.tallies.specs.Statuses.{nothing, written}
use Rattle.tallies.proofs.laws.every_status.Goals as goal

code-of_line :
    (status : Status) → ((written nothing (status_line status)).code ≡ code_of status) × IsSome (position_of (code_of status))
unfolding status_line
code-of_line status.Success = (refl, refl)
code-of_line status.BadRequest = (refl, refl)
code-of_line status.Forbidden = (refl, refl)
code-of_line status.NotFound = (refl, refl)
code-of_line status.MethodNotAllowed = (refl, refl)
code-of_line status.Conflict = (refl, refl)
code-of_line status.LengthRequired = (refl, refl)
code-of_line status.ContentTooLarge = (refl, refl)
code-of_line status.UnprocessableContent = (refl, refl)
code-of_line status.FieldsTooLarge = (refl, refl)
code-of_line status.InternalServerError = (refl, refl)
code-of_line status.NotImplemented = (refl, refl)
code-of_line status.ServiceUnavailable = (refl, refl)

pub returns : goal.returns
returns c = code-of_line
