-- Which path has which page; this project's profile.
use Rattle.std.specs.Prelude.{ℕ, Bool, false, true, if◌then◌else◌, List, Option, None, Some, bytes_eq, codes, option_map}
use Rattle.http_desks.specs.declared.page.PageKind.{PageKind}
use Rattle.http_desks.specs.declared.page.PageKind.TheVariants as kind
use Rattle.operator_pages.specs.Health.{health_string, status_string}
use Rattle.operator_pages.specs.Metrics.{metrics_string}
use Rattle.operator_pages.specs.Pages.{page_string}
use Rattle.operator_pages.specs.declared.paths.Subject.{Subject}
use Rattle.operator_pages.specs.declared.paths.Subject.TheVariants as subject
use Rattle.operator_pages.specs.declared.shown.Shown.{Shown}

-- what a path names
abbrev pub subject_at : List ℕ → Option Subject
subject_at path =
    if bytes_eq path (codes "/healthz") then Some subject.Health else
    if bytes_eq path (codes "/status") then Some subject.Status else
    if bytes_eq path (codes "/metrics") then Some subject.Metrics else
    if bytes_eq path (codes "/") then Some subject.Edition else None

-- the kind of a page; health is another one once the server was asked to end
abbrev pub kind_of : Subject → Bool → PageKind
kind_of subject.Health false = kind.Plain
kind_of subject.Health true = kind.Ending
kind_of subject.Status ending = kind.Plain
kind_of subject.Metrics ending = kind.Metrics
kind_of subject.Edition ending = kind.Html

abbrev pub body_of : Subject → Shown → List ℕ
body_of subject.Health shown = health_string shown.edition shown.counts.lost shown.ending
body_of subject.Status shown = status_string shown
body_of subject.Metrics shown = metrics_string shown
body_of subject.Edition shown = page_string shown

-- rule: Page of a path
-- the type and the bytes of a page, if the path has one
abbrev pub page_at : List ℕ → Shown → Option (PageKind × List ℕ)
page_at path shown = option_map (λ found. (kind_of found shown.ending, body_of found shown)) (subject_at path)
