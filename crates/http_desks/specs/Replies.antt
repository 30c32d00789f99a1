-- The reply to a whole message; this project's profile.
use Rattle.std.specs.Prelude.{◌≡◌, ℕ, Bool, true, List, [], ◌∷◌, ◌++◌, length, Option, None, Some, Result, Ok, Err, if◌then◌else◌, codes}
use Rattle.std.specs.Io.KnownBytes.{Appends}
use Rattle.http_wire.specs.Replies.{allow_line, last_lines, length_line, status_line, type_line}
use Rattle.http_wire.specs.declared.heads.reply.Allow.{Allow}
use Rattle.http_wire.specs.declared.heads.reply.Allow.TheVariants as allow
use Rattle.http_wire.specs.declared.heads.status.Status.{Status}
use Rattle.http_wire.specs.declared.heads.status.Status.TheVariants as status
use Rattle.http_desks.specs.Downloads.{Reads, agrees, download, joined_blocks}
use Rattle.http_wire.specs.Sending.{AppendsPart}
use Rattle.values.specs.declared.failed.Failed.{Failed}
use Rattle.http_desks.specs.declared.answering.Handled.{Handled}
use Rattle.http_desks.specs.declared.answering.Handled.TheVariants.{Answered, Off, Cut}
use Rattle.http_desks.specs.declared.desk.DeskStatus.{DeskStatus}
use Rattle.http_desks.specs.declared.desk.DeskStatus.TheVariants as answered
use Rattle.http_desks.specs.declared.desk.Off.{Off as Reason}
use Rattle.values.specs.declared.declared.Declared.{Declared}
use Rattle.http_desks.specs.declared.method.Method.{Method}
use Rattle.http_desks.specs.declared.method.Method.TheVariants as method
use Rattle.http_desks.specs.declared.page.PageKind.{PageKind}
use Rattle.http_desks.specs.Calls.{Call, Leads}
use Rattle.http_desks.specs.Pages.{page_fields, page_status}
use Rattle.http_desks.specs.Uses.{Fetch, Mismatched, Read, Broken, IsFetch, Use, Paged, Misused, Barred, Asked, Unknown, Untaken, Fetched, calls_of}

-- the status of the reply
abbrev pub status_of : DeskStatus → Status
status_of answered.Success = status.Success
status_of answered.BadRequest = status.BadRequest
status_of answered.Conflict = status.Conflict
status_of answered.UnprocessableContent = status.UnprocessableContent
status_of answered.ServiceUnavailable = status.ServiceUnavailable

-- the lines of a head, in their order
unfoldable pub head_lines : Status → List ℕ → Option Allow → ℕ → Bool → List ℕ
head_lines status kind allow size closes =
    status_line status ++ type_line kind ++ allow_line allow ++ length_line size ++ last_lines closes

-- a reply without a body
abbrev pub empty_reply : Status → Option Allow → Bool → List ℕ
empty_reply status allow closes = head_lines status [] allow 0 closes

-- an empty body has no type
abbrev pub kind_for : List ℕ → List ℕ → List ℕ
kind_for kind [] = []
kind_for kind (byte ∷ bytes) = kind

-- the reply of a desk; the connection ends after it if the desk is off
abbrev pub answer_reply : List ℕ → Bool → Result (DeskStatus × List ℕ) Reason → List ℕ
answer_reply kind closes (Err off) = empty_reply status.InternalServerError None true
answer_reply kind closes (Ok answer) =
    head_lines (status_of answer.0) (kind_for kind answer.1) None (length answer.1) closes ++ answer.1

-- what is sent of a package
abbrev pub fetch_bytes : List ℕ → Fetch → List ℕ
fetch_bytes hash Mismatched = []
fetch_bytes hash (Read blocks last) = download hash blocks last
fetch_bytes hash (Broken blocks) = joined_blocks blocks

-- the head of a package, which has its declared size, and what is sent of it
abbrev pub fetch_reply : Declared → Bool → Fetch → List ℕ
fetch_reply declared closes fetch =
    head_lines status.Success (codes "application/octet-stream") None declared.size closes
    ++ fetch_bytes declared.hash fetch

-- a page, for a message that may have it
abbrev pub page_reply : Bool → Method → PageKind → List ℕ → List ℕ
page_reply closes method.Get kind body =
    head_lines (page_status kind) (page_fields kind) None (length body) closes ++ body
page_reply closes method.ForeignGet kind body = empty_reply status.Forbidden None closes
page_reply closes method.Post kind body = empty_reply status.MethodNotAllowed (Some allow.Get) closes
page_reply closes method.BrowserPost kind body = empty_reply status.MethodNotAllowed (Some allow.Get) closes
page_reply closes method.Other kind body = empty_reply status.MethodNotAllowed (Some allow.Get) closes

-- rule: Page of a desk
-- the reply where a page was asked for; the connection ends after it if the desk is off
abbrev pub paged_reply : Bool → Method → Result (Option (PageKind × List ℕ)) Reason → List ℕ
paged_reply closes by (Err off) = empty_reply status.InternalServerError None true
paged_reply closes by (Ok None) = empty_reply status.NotFound None closes
paged_reply closes by (Ok (Some page)) = page_reply closes by page.0 page.1

-- rule: Reply to a message
-- the reply, by the type of the desk's bodies and whether the connection ends after it
abbrev pub reply_to : List ℕ → Bool → Use → List ℕ
reply_to kind closes (Paged path by page) = paged_reply closes by page
reply_to kind closes Misused = empty_reply status.MethodNotAllowed (Some allow.Post) closes
reply_to kind closes Barred = empty_reply status.Forbidden None closes
reply_to kind closes (Asked moment answer) = answer_reply kind closes answer
reply_to kind closes (Unknown name) = empty_reply status.NotFound None closes
reply_to kind closes (Untaken name declared) = empty_reply status.MethodNotAllowed (Some allow.Get) closes
reply_to kind closes (Fetched name declared fetch) = fetch_reply declared closes fetch

-- how the package came out, if no write failed
abbrev pub fetch_handled : List ℕ → Fetch → Option Handled
fetch_handled hash Mismatched = Some Cut
fetch_handled hash (Read blocks last) = Some (if agrees hash blocks last then Answered else Cut)
fetch_handled hash (Broken blocks) = None

-- how the reply came out, if no write failed
abbrev pub handled_of : Use → Option Handled
handled_of (Asked moment (Err off)) = Some Off
handled_of (Asked moment (Ok answer)) = Some Answered
handled_of (Fetched name declared fetch) = fetch_handled declared.hash fetch
handled_of (Paged path by (Err off)) = Some Off
handled_of (Paged path by (Ok page)) = Some Answered
handled_of Misused = Some Answered
handled_of Barred = Some Answered
handled_of (Unknown name) = Some Answered
handled_of (Untaken name declared) = Some Answered

-- the reply was written, and how it came out is reported; or a write failed, and a first part was
-- written
abbrev pub Writes : List ℕ → Option Handled → Option (List ℕ) → Option (List ℕ) → Result Handled Failed → Type 0
Writes text outcome old new (Ok handled) = (outcome ≡ Some handled) × Appends old new text
Writes text outcome old new (Err failed) = AppendsPart old new text

-- a package was sent, in whole or in part
abbrev pub Fetches :
    (Option ℕ → Type 0) → Reads → Declared → Bool → Option (List ℕ) → Option (List ℕ) → Result Handled Failed → Type 0
Fetches sizes reads declared closes old new result =
    (fetch : Fetch) × IsFetch sizes reads declared.size fetch
    × Writes (fetch_reply declared closes fetch) (fetch_handled declared.hash fetch) old new result

-- the message was used, the desk was called for it, and the reply was written
pub record Answers
    {D : Type 0} (IsFit : Use → Type 0) (steps : D → Call → D → Type 0) (kind body : List ℕ) (closes : Bool)
    (before after : D) (old new : Option (List ℕ)) (result : Result Handled Failed)
    : Type 0 where
  pub used : Use
  pub fits : IsFit used
  pub calls : Leads steps before (calls_of body used) after
  pub writes : Writes (reply_to kind closes used) (handled_of used) old new result
