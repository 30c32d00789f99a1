-- The bytes of a reply (RFC 9112, sections 4 and 6). Which fields it has is this project's profile.
use Rattle.std.specs.Prelude.{ℕ, Bool, List, [], ◌∷◌, ◌++◌, Option, None, Some, if◌then◌else◌, decimal, codes}
use Rattle.http_wire.specs.declared.heads.status.Status.{Status}
use Rattle.http_wire.specs.declared.heads.status.Status.TheVariants as status
use Rattle.http_wire.specs.declared.heads.reply.Allow.{Allow}
use Rattle.http_wire.specs.declared.heads.reply.ReplyHead.{ReplyHead}
use Rattle.http_wire.specs.declared.heads.reply.Allow.TheVariants as allow

-- rule: Status lines
-- the first line, with its line end
unfoldable pub status_line : Status → List ℕ
status_line status.Success = codes "HTTP/1.1 200 OK\r\n"
status_line status.BadRequest = codes "HTTP/1.1 400 Bad Request\r\n"
status_line status.Forbidden = codes "HTTP/1.1 403 Forbidden\r\n"
status_line status.NotFound = codes "HTTP/1.1 404 Not Found\r\n"
status_line status.MethodNotAllowed = codes "HTTP/1.1 405 Method Not Allowed\r\n"
status_line status.Conflict = codes "HTTP/1.1 409 Conflict\r\n"
status_line status.LengthRequired = codes "HTTP/1.1 411 Length Required\r\n"
status_line status.ContentTooLarge = codes "HTTP/1.1 413 Content Too Large\r\n"
status_line status.UnprocessableContent = codes "HTTP/1.1 422 Unprocessable Content\r\n"
status_line status.FieldsTooLarge = codes "HTTP/1.1 431 Request Header Fields Too Large\r\n"
status_line status.InternalServerError = codes "HTTP/1.1 500 Internal Server Error\r\n"
status_line status.NotImplemented = codes "HTTP/1.1 501 Not Implemented\r\n"
status_line status.ServiceUnavailable = codes "HTTP/1.1 503 Service Unavailable\r\n"

-- the field that names the body's type, if it has one
unfoldable pub type_line : List ℕ → List ℕ
type_line [] = []
type_line (byte ∷ bytes) = codes "Content-Type: " ++ (byte ∷ bytes) ++ codes "\r\n"

-- the field that names the method, if another one was sent
unfoldable pub allow_line : Option Allow → List ℕ
allow_line None = []
allow_line (Some allow.Post) = codes "Allow: POST\r\n"
allow_line (Some allow.Get) = codes "Allow: GET\r\n"

-- the field that gives the body's length
unfoldable pub length_line : ℕ → List ℕ
length_line size = codes "Content-Length: " ++ decimal size ++ codes "\r\n"

-- the field that says that the connection ends, if it does, and the empty line
unfoldable pub last_lines : Bool → List ℕ
last_lines closes = if closes then codes "Connection: close\r\n\r\n" else codes "\r\n"

-- rule: Head of a reply
-- the lines in their order
unfoldable pub head_bytes : ReplyHead → List ℕ
head_bytes head =
    status_line head.status ++ type_line head.kind.now ++ allow_line head.allow ++ length_line head.size
    ++ last_lines head.closes
