-- The pages of a desk; this project's profile.
use Rattle.std.specs.Prelude.{ℕ, List, Option, None, Some, Result, Ok, Err, codes}
use Rattle.http_desks.specs.declared.desk.Off.{Off}
use Rattle.http_desks.specs.declared.page.Page.{Page}
use Rattle.http_desks.specs.declared.page.PageKind.{PageKind}
use Rattle.http_desks.specs.declared.page.PageKind.TheVariants as kind
use Rattle.http_wire.specs.declared.heads.status.Status.{Status}
use Rattle.http_wire.specs.declared.heads.status.Status.TheVariants as status

-- the status of a page
abbrev pub page_status : PageKind → Status
page_status kind.Plain = status.Success
page_status kind.Ending = status.ServiceUnavailable
page_status kind.Metrics = status.Success
page_status kind.Html = status.Success

-- what is after `Content-Type: ` in the head of a page: its type, and for HTML what keeps a browser from fetching or
-- running anything
abbrev pub page_fields : PageKind → List ℕ
page_fields kind.Plain = codes "text/plain; charset=utf-8"
page_fields kind.Ending = codes "text/plain; charset=utf-8"
page_fields kind.Metrics = codes "text/plain; version=0.0.4; charset=utf-8"
page_fields kind.Html =
    codes "text/html; charset=utf-8\r\nContent-Security-Policy: default-src 'none'; style-src 'unsafe-inline'"

-- the type and the bytes of a page, if there is one, or why the desk is off
abbrev pub page_in : Result (Option Page) Off → Result (Option (PageKind × List ℕ)) Off
page_in (Ok None) = Ok None
page_in (Ok (Some page)) = Ok (Some (page.kind, page.body.items))
page_in (Err off) = Err off
