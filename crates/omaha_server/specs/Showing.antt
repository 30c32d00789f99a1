-- The pages of an operator's address, and its status; this project's profile.
use Rattle.std.specs.Prelude.{◌≡◌, ◌+◌, ◌<◌, ◌≤◌, ⊤, ℕ, true, List, bytes_eq, codes, length, slice_index, Option, Result, Ok, Err}
use Rattle.operator_pages.specs.AppSights.{AreSights}
use Rattle.catalogue.specs.Histories.{History}
use Rattle.editions.specs.Editions.{content_of}
use Rattle.http_desks.specs.declared.desk.DeskStatus.{DeskStatus}
use Rattle.http_desks.specs.declared.desk.DeskStatus.TheVariants as status
use Rattle.http_desks.specs.declared.desk.Off.{Off}
use Rattle.http_desks.specs.declared.desk.Off.TheVariants as off
use Rattle.http_desks.specs.declared.page.PageKind.{PageKind}
use Rattle.mirror_ledger.specs.Named.{budget_at}
use Rattle.operator_pages.specs.Health.{status_string}
use Rattle.operator_pages.specs.Paths.{page_at}
use Rattle.operator_pages.specs.declared.publishes.Publish.{Publish}
use Rattle.operator_pages.specs.declared.shown.Shown.{Shown}
use Rattle.catalogue.specs.declared.mirror.Mirror.{Mirror}
use Rattle.service_desks.specs.States.{earlier_in}
use Rattle.tallies.specs.Totals.{IsOfSize}
use Rattle.server_ports.specs.Counting.{cohort_counts}
use Rattle.omaha_server.specs.Overviews.{Overview}
use Rattle.omaha_server.specs.declared.circumstances.Circumstances.{Circumstances}

-- rule: Granted so far
-- what each mirror granted is within its present budget
pub record AreGranted (mirrors : List Mirror) (granted : List ℕ) : Type 0 where
  pub many : length granted ≡ length mirrors
  pub within : (index : ℕ) → index < length granted → slice_index granted index ≤ budget_at mirrors index

-- what is shown is the published edition and the mirrors with their present budgets, with what they granted, by a program of
-- that version; what the operator's calls came to, and whether the server is to end; and of what the workers counted a number
-- for each status, each of these mirrors and each cohort of these apps
pub record IsKnown (version : List ℕ) (overview : Overview) (shown : Shown) : Type 0 where
  pub apps : shown.apps.now ≡ content_of overview.state.history
  pub edition : shown.edition ≡ earlier_in overview.state.store + length overview.state.history
  pub mirrors : shown.mirrors.now ≡ overview.state.mirrors
  pub granted : AreGranted overview.state.mirrors shown.granted.now
  pub counts : shown.counts ≡ overview.counts
  pub publishes : shown.publishes.now ≡ overview.publishes
  pub ending : shown.ending ≡ overview.ending
  pub version_is : shown.version.now ≡ version
  pub totals : IsOfSize (length shown.mirrors.now) (cohort_counts shown.apps.now) shown.totals.now

-- it is what the operator's thread knows, with a history, mirrors and the last publishes
pub record IsOverview (history : History) (mirrors : List Mirror) (noted : List Publish) (known : Circumstances)
    (overview : Overview) : Type 0 where
  pub history_is : overview.state.history ≡ history
  pub mirrors_are : overview.state.mirrors ≡ mirrors
  pub earlier : earlier_in overview.state.store ≡ known.earlier
  pub counts : overview.counts ≡ known.counts
  pub publishes : overview.publishes ≡ noted
  pub ending : overview.ending ≡ known.ending

-- what is seen of the apps, if the page for people is asked for
abbrev pub IsSeen : List ℕ → History → Shown → Type 0
IsSeen at history shown = bytes_eq at (codes "/") ≡ true → AreSights (content_of history) shown.sights.now

-- rule: Pages of an operator
-- the page of a path, if it has one, unless memory runs out
abbrev pub ShowsPage : List ℕ → Overview → List ℕ → Result (Option (PageKind × List ℕ)) Off → Type 0
ShowsPage version overview at (Ok page) =
    (shown : Shown) × IsKnown version overview shown × IsSeen at overview.state.history shown × (page ≡ page_at at shown)
ShowsPage version overview at (Err off.Memory) = ⊤
ShowsPage version overview at (Err off.Closed) = ⊥

-- rule: Status on demand
-- the status, unless memory runs out
abbrev pub ShowsStatus : List ℕ → Overview → Result (DeskStatus × List ℕ) Off → Type 0
ShowsStatus version overview (Ok reply) =
    (shown : Shown) × IsKnown version overview shown × (reply ≡ (status.Success, status_string shown))
ShowsStatus version overview (Err off.Memory) = ⊤
ShowsStatus version overview (Err off.Closed) = ⊥
