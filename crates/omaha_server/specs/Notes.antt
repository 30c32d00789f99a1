-- What a server says of its operator's calls on the standard error; this project's profile.
use Rattle.std.specs.Prelude.{◌&&◌, ◌||◌, ℕ, Bool, List, codes, bytes_eq, nat_eq, if◌then◌else◌, Option, None, Some, Result, Ok, Err}
use Rattle.std.specs.List.{starts_with}
use Rattle.http_desks.specs.declared.desk.DeskStatus.{DeskStatus}
use Rattle.http_desks.specs.declared.desk.DeskStatus.TheVariants as status
use Rattle.http_desks.specs.declared.desk.Off.{Off}
use Rattle.service_desks.specs.Following.{follow_word}

-- a reply of 200 of which nothing is said: a dump, and that there is nothing to adopt of other servers
abbrev pub is_unsaid : List ℕ → List ℕ → Bool
is_unsaid body line =
    bytes_eq body (codes "dump") || (bytes_eq body follow_word && starts_with nat_eq line (codes "edition "))

-- rule: What is said of a call
-- what is said of the reply to a body: that of a script that was published or adopted, and of a raise
abbrev pub note_of : List ℕ → Result (DeskStatus × List ℕ) Off → Option (List ℕ)
note_of body (Ok (status.Success, line)) = if is_unsaid body line then None else Some line
note_of body (Ok (status.BadRequest, line)) = None
note_of body (Ok (status.Conflict, line)) = None
note_of body (Ok (status.UnprocessableContent, line)) = None
note_of body (Ok (status.ServiceUnavailable, line)) = None
note_of body (Err off) = None
