-- What holds of a content after a whole history of accepted batches: each item is there because
-- some edit added it, and a setting is that of the last edit that set it; this project's profile.
use Rattle.std.specs.Prelude.{◌≡◌, ℕ, ◌==◌, ◌&&◌, ◌++◌, Bool, true, false, List, [], ◌∷◌, if◌then◌else◌, find, option_map, Option, None, Some, Ok, unwrap_or}
use Rattle.std.specs.List.{list_any, flat_map, slice_get}
use Rattle.std.specs.Option.{option_map_or}
use Rattle.std.specs.Str.{bytes_eq}
use Rattle.catalogue.specs.Versions.{lenient_version_of, zero_version}
use Rattle.catalogue.specs.Batches.{outcome, run}
use Rattle.catalogue.specs.Changes.{new_diff, new_release}
use Rattle.catalogue.specs.Forms.{same_id}
use Rattle.catalogue.specs.Lookups.{cohorts_of, diffs_of, has_cohort, is_app, is_cohort, is_release, pair_of, releases_of, same_pair}
use Rattle.catalogue.specs.Validity.{IsValid}
use Rattle.catalogue.specs.declared.content.App.{App}
use Rattle.catalogue.specs.declared.content.Cohort.{Cohort}
use Rattle.catalogue.specs.declared.content.Diff.{Diff}
use Rattle.catalogue.specs.declared.content.Release.{Release}
use Rattle.catalogue.specs.declared.edit.Edit.{Edit}
use Rattle.catalogue.specs.declared.edit.Edit.TheVariants as edit

-- a history: its batches, each a list of edits
abbrev pub History : Type 0
History = List (List Edit)

-- all edits of a history, in order
abbrev pub edits_of : History → List Edit
edits_of history = flat_map (λ batch. batch) history

-- the history was accepted from the empty catalogue on, and led to the content
abbrev pub LeadsTo : History → List App → Type 0
LeadsTo history apps = run history [] ≡ Ok apps

-- the edit adds an app of the identifier
abbrev pub adds_app : List ℕ → Edit → Bool
adds_app id (edit.AddApp e) = same_id id e.app
adds_app id e = false

-- an app is there exactly where some edit of the history added it
abbrev pub AppsWereAdded : Type 0
AppsWereAdded =
    (history : History) (apps : List App) → LeadsTo history apps →
    (id : List ℕ) → list_any (is_app id) apps ≡ list_any (adds_app id) (edits_of history)

-- two releases have the same version, spelling, name, size and hash
abbrev pub same_release : Release → Release → Bool
same_release left right =
    bytes_eq left.version right.version
    && bytes_eq left.spelled right.spelled
    && bytes_eq left.name right.name
    && left.size == right.size
    && bytes_eq left.hash right.hash

-- the edit adds such a release to the app of the identifier
abbrev pub adds_release : List ℕ → Release → Edit → Bool
adds_release id release (edit.AddRelease e) = same_id id e.app && same_release release (new_release e)
adds_release id release e = false

-- a release is there, with its version, spelling, name, size and hash, exactly where some edit of
-- the history added it
abbrev pub ReleasesWereAdded : Type 0
ReleasesWereAdded =
    (history : History) (apps : List App) → LeadsTo history apps →
    (id : List ℕ) (release : Release) →
    list_any (same_release release) (releases_of apps id) ≡ list_any (adds_release id release) (edits_of history)

-- two differentials have the same pair, name, size and hash
abbrev pub same_diff : Diff → Diff → Bool
same_diff left right =
    same_pair (pair_of left) (pair_of right)
    && bytes_eq left.name right.name
    && left.size == right.size
    && bytes_eq left.hash right.hash

-- the edit adds such a differential to the app of the identifier
abbrev pub adds_diff : List ℕ → Diff → Edit → Bool
adds_diff id diff (edit.AddDiff e) = same_id id e.app && same_diff diff (new_diff e)
adds_diff id diff e = false

-- a differential is there, with its pair, name, size and hash, exactly if some edit of the history
-- added it
abbrev pub DiffsWereAdded : Type 0
DiffsWereAdded =
    (history : History) (apps : List App) → LeadsTo history apps →
    (id : List ℕ) (diff : Diff) →
    list_any (same_diff diff) (diffs_of apps id) ≡ list_any (adds_diff id diff) (edits_of history)

-- the edit adds a cohort of the name to the app of the identifier: an app comes with its default
abbrev pub adds_cohort : List ℕ → List ℕ → Edit → Bool
adds_cohort id name (edit.AddApp e) = same_id id e.app && bytes_eq name e.default
adds_cohort id name (edit.AddCohort e) = same_id id e.app && bytes_eq name e.cohort
adds_cohort id name e = false

-- a cohort is there exactly where some edit of the history added it
abbrev pub CohortsWereAdded : Type 0
CohortsWereAdded =
    (history : History) (apps : List App) → LeadsTo history apps →
    (id name : List ℕ) → has_cohort (cohorts_of apps id) name ≡ list_any (adds_cohort id name) (edits_of history)

-- what is read of the cohort of a name, or the value if there is no such cohort
abbrev pub read_cohort : {A : Type 0} → (Cohort → A) → A → List App → List ℕ → List ℕ → A
read_cohort read none apps id name = option_map_or read (find (is_cohort name) (cohorts_of apps id)) none

-- the edit names the cohort
abbrev pub names_cohort : List ℕ → List ℕ → List ℕ → List ℕ → Bool
names_cohort id name edit_app edit_cohort = same_id id edit_app && bytes_eq name edit_cohort

-- the target and the held target of a cohort, none if there is no such cohort
abbrev pub Targets : Type 0
Targets = Option (List ℕ) × Option (List ℕ)

abbrev pub targets_of : List App → List ℕ → List ℕ → Targets
targets_of = read_cohort (λ cohort. (cohort.target, cohort.held)) (None, None)

-- the share of a cohort, all clients if there is no such cohort
abbrev pub share_of : List App → List ℕ → List ℕ → ℕ
share_of = read_cohort (λ cohort. cohort.share) 1000

-- the rollback flag of a cohort, off if there is no such cohort
abbrev pub has_rollback : List App → List ℕ → List ℕ → Bool
has_rollback = read_cohort (λ cohort. cohort.rollback) false

-- the open flag of a cohort, off if there is no such cohort
abbrev pub is_open : List App → List ℕ → List ℕ → Bool
is_open = read_cohort (λ cohort. cohort.hintable) false

-- the targets that the edit sets for the cohort, if it sets them
abbrev pub sets_targets : List ℕ → List ℕ → Edit → Option Targets
sets_targets id name (edit.SetTarget e) =
    if names_cohort id name e.app e.cohort
    then Some (option_map lenient_version_of e.target, option_map lenient_version_of e.held)
    else None
sets_targets id name e = None

-- the share that the edit sets for the cohort, if it sets it
abbrev pub sets_share : List ℕ → List ℕ → Edit → Option ℕ
sets_share id name (edit.SetShare e) = if names_cohort id name e.app e.cohort then Some e.share else None
sets_share id name e = None

-- the rollback flag that the edit sets for the cohort, if it sets it
abbrev pub sets_rollback : List ℕ → List ℕ → Edit → Option Bool
sets_rollback id name (edit.SetRollback e) =
    if names_cohort id name e.app e.cohort then Some e.on else None
sets_rollback id name e = None

-- the open flag that the edit sets for the cohort, if it sets it
abbrev pub sets_open : List ℕ → List ℕ → Edit → Option Bool
sets_open id name (edit.SetOpen e) = if names_cohort id name e.app e.cohort then Some e.on else None
sets_open id name e = None

-- what is read of the release of a version, or the value if there is no such release
abbrev pub read_release : {A : Type 0} → (Release → A) → A → List App → List ℕ → List ℕ → A
read_release read none apps id version =
    option_map_or read (find (is_release version) (releases_of apps id)) none

-- the edit names the release
abbrev pub names_release : List ℕ → List ℕ → List ℕ → List ℕ → Bool
names_release id version edit_app edit_version = same_id id edit_app && bytes_eq version edit_version

-- the stone flag of a release, off if there is no such release
abbrev pub is_stone : List App → List ℕ → List ℕ → Bool
is_stone = read_release (λ release. release.stone) false

-- the withdrawn flag of a release, off if there is no such release
abbrev pub is_withdrawn : List App → List ℕ → List ℕ → Bool
is_withdrawn = read_release (λ release. release.withdrawn) false

-- the audience of a release, all cohorts if there is no such release
abbrev pub audience_of : List App → List ℕ → List ℕ → Option (List (List ℕ))
audience_of = read_release (λ release. release.audience) None

-- the floor of a release, 0 if there is no such release
abbrev pub floor_of : List App → List ℕ → List ℕ → List ℕ
floor_of = read_release (λ release. release.floor) zero_version

-- the stone flag that the edit sets for the release, if it sets it
abbrev pub sets_stone : List ℕ → List ℕ → Edit → Option Bool
sets_stone id version (edit.SetStone e) =
    if names_release id version e.app (lenient_version_of e.version) then Some e.on else None
sets_stone id version e = None

-- the withdrawn flag that the edit sets for the release, if it sets it
abbrev pub sets_withdrawn : List ℕ → List ℕ → Edit → Option Bool
sets_withdrawn id version (edit.SetWithdrawn e) =
    if names_release id version e.app (lenient_version_of e.version) then Some e.on else None
sets_withdrawn id version e = None

-- the audience that the edit sets for the release, if it sets it
abbrev pub sets_audience : List ℕ → List ℕ → Edit → Option (Option (List (List ℕ)))
sets_audience id version (edit.SetAudience e) =
    if names_release id version e.app (lenient_version_of e.version) then Some e.cohorts else None
sets_audience id version e = None

-- the floor that the edit sets for the release, if it sets it
abbrev pub sets_floor : List ℕ → List ℕ → Edit → Option (List ℕ)
sets_floor id version (edit.SetFloor e) =
    if names_release id version e.app (lenient_version_of e.version)
    then Some (lenient_version_of e.floor)
    else None
sets_floor id version e = None

-- what the last of the edits set, or the value before them
abbrev pub last_set : {A : Type 0} → (Edit → Option A) → A → List Edit → A
last_set sets value [] = value
last_set sets value (e ∷ edits) = last_set sets (unwrap_or (sets e) value) edits

-- a cohort's targets are those of the last edit of the history that set them, else none
abbrev pub TargetsAreTheLastSet : Type 0
TargetsAreTheLastSet =
    (history : History) (apps : List App) → LeadsTo history apps →
    (id name : List ℕ) → targets_of apps id name ≡ last_set (sets_targets id name) (None, None) (edits_of history)

-- a cohort's share is that of the last edit of the history that set it, else 1000
abbrev pub SharesAreTheLastSet : Type 0
SharesAreTheLastSet =
    (history : History) (apps : List App) → LeadsTo history apps →
    (id name : List ℕ) → share_of apps id name ≡ last_set (sets_share id name) 1000 (edits_of history)

-- a cohort's open flag is that of the last edit of the history that set it, else off
abbrev pub OpenFlagsAreTheLastSet : Type 0
OpenFlagsAreTheLastSet =
    (history : History) (apps : List App) → LeadsTo history apps →
    (id name : List ℕ) → is_open apps id name ≡ last_set (sets_open id name) false (edits_of history)

-- a cohort's rollback flag is that of the last edit of the history that set it, else off
abbrev pub RollbackFlagsAreTheLastSet : Type 0
RollbackFlagsAreTheLastSet =
    (history : History) (apps : List App) → LeadsTo history apps →
    (id name : List ℕ) → has_rollback apps id name ≡ last_set (sets_rollback id name) false (edits_of history)

-- a release's stone flag is that of the last edit of the history that set it, else off
abbrev pub StonesAreTheLastSet : Type 0
StonesAreTheLastSet =
    (history : History) (apps : List App) → LeadsTo history apps →
    (id version : List ℕ) → is_stone apps id version ≡ last_set (sets_stone id version) false (edits_of history)

-- a release's withdrawn flag is that of the last edit of the history that set it, else off
abbrev pub WithdrawalsAreTheLastSet : Type 0
WithdrawalsAreTheLastSet =
    (history : History) (apps : List App) → LeadsTo history apps →
    (id version : List ℕ) →
    is_withdrawn apps id version ≡ last_set (sets_withdrawn id version) false (edits_of history)

-- a release's audience is that of the last edit of the history that set it, else all cohorts
abbrev pub AudiencesAreTheLastSet : Type 0
AudiencesAreTheLastSet =
    (history : History) (apps : List App) → LeadsTo history apps →
    (id version : List ℕ) →
    audience_of apps id version ≡ last_set (sets_audience id version) None (edits_of history)

-- a release's floor is that of the last edit of the history that set it, else 0
abbrev pub FloorsAreTheLastSet : Type 0
FloorsAreTheLastSet =
    (history : History) (apps : List App) → LeadsTo history apps →
    (id version : List ℕ) →
    floor_of apps id version ≡ last_set (sets_floor id version) zero_version (edits_of history)

-- a batch that is accepted after a history makes a longer one
abbrev pub HistoriesGrow : Type 0
HistoriesGrow =
    (history : History) (batch : List Edit) (apps more : List App) →
    LeadsTo history apps → outcome batch apps ≡ Ok more → LeadsTo (history ++ batch ∷ []) more

-- what a history leads to is valid
abbrev pub HistoriesAreValid : Type 0
HistoriesAreValid = (history : History) (apps : List App) → LeadsTo history apps → IsValid apps

-- a prefix of an accepted history is accepted
abbrev pub PrefixesAreAccepted : Type 0
PrefixesAreAccepted =
    (history more : History) (apps : List App) → LeadsTo (history ++ more) apps →
    (before : List App) × LeadsTo history before

-- the identifier of the app that the edit names
abbrev pub app_named : Edit → List ℕ
app_named (edit.AddApp e) = e.app
app_named (edit.AddRelease e) = e.app
app_named (edit.AddDiff e) = e.app
app_named (edit.SetStone e) = e.app
app_named (edit.SetWithdrawn e) = e.app
app_named (edit.SetAudience e) = e.app
app_named (edit.SetFloor e) = e.app
app_named (edit.AddCohort e) = e.app
app_named (edit.SetTarget e) = e.app
app_named (edit.SetShare e) = e.app
app_named (edit.SetRollback e) = e.app
app_named (edit.SetOpen e) = e.app

-- a batch leaves an app that none of its edits names as it is, with its index
abbrev pub BatchesKeepOtherApps : Type 0
BatchesKeepOtherApps =
    (batch : List Edit) (apps made : List App) → outcome batch apps ≡ Ok made →
    (index : ℕ) (app : App) → slice_get apps index ≡ Some app →
    list_any (λ e. same_id (app_named e) app.id) batch ≡ false → slice_get made index ≡ Some app

-- rule: Edit of releases or differentials
-- the edit changes the releases or the differentials of the app that it names; no edit of an app, of a cohort or of
-- its settings does
abbrev pub changes_releases : Edit → Bool
changes_releases (edit.AddRelease e) = true
changes_releases (edit.AddDiff e) = true
changes_releases (edit.SetStone e) = true
changes_releases (edit.SetWithdrawn e) = true
changes_releases (edit.SetAudience e) = true
changes_releases (edit.SetFloor e) = true
changes_releases e = false

-- an edit of the batch changes those of the app of an identifier
abbrev pub changes_releases_of : List Edit → List ℕ → Bool
changes_releases_of batch id = list_any (λ e. changes_releases e && same_id (app_named e) id) batch

-- a content has an app at an index with the releases and the differentials of a given app
pub record HasReleasesOf (app : App) (made : List App) (index : ℕ) : Type 0 where
  pub new : App
  pub there : slice_get made index ≡ Some new
  pub releases : new.releases ≡ app.releases
  pub diffs : new.diffs ≡ app.diffs

-- a batch leaves the releases and the differentials of an app as they are if none of its edits changes them, and the
-- app keeps its index
abbrev pub BatchesKeepOtherReleases : Type 0
BatchesKeepOtherReleases =
    (batch : List Edit) (apps made : List App) → outcome batch apps ≡ Ok made →
    (index : ℕ) (app : App) → slice_get apps index ≡ Some app →
    changes_releases_of batch app.id ≡ false → HasReleasesOf app made index
