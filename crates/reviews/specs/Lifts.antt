-- A track as it would be without one of the rules that may leave its clients stuck; this project's profile.
use Rattle.std.specs.Prelude.{ℕ, ◌==◌, ◌&&◌, not, Bool, true, false, if◌then◌else◌, List, [], map, None}
use Rattle.std.specs.List.{list_all}
use Rattle.std.specs.Option.{is_some, option_map_or}
use Rattle.std.specs.Str.{bytes_eq}
use Rattle.catalogue.specs.Versions.{zero_version}
use Rattle.catalogue.specs.Lookups.{is_release, place_of}
use Rattle.catalogue.specs.declared.content.App.{App}
use Rattle.catalogue.specs.declared.content.Cohort.{Cohort}
use Rattle.catalogue.specs.declared.content.Release.{Release}
use Rattle.cohorts.specs.Offers.{is_offered}
use Rattle.cohorts.specs.declared.pin.Pin.TheVariants as pin
use Rattle.payload_graph.specs.Chains.{target_index}
use Rattle.payload_graph.specs.Net.{version_of_index}
use Rattle.payload_graph.specs.declared.payload.TrackKey.{TrackKey}
use Rattle.reviews.specs.declared.cause.Cause.{Cause}
use Rattle.reviews.specs.declared.cause.Cause.TheVariants.{Withdrawn, Audience, Stone, Floor, Downgrade}

-- the version of a track's target; none if it has no target
abbrev pub target_version : App → TrackKey → List ℕ
target_version app key = option_map_or (version_of_index app.releases) (target_index app key) []

-- a release without a rule: the target isn't withdrawn; the target is open to all; it is no stone; it has no floor
abbrev pub lifted_release : Cause → List ℕ → Release → Release
lifted_release Withdrawn target release =
    record release { withdrawn = release.withdrawn && not (is_release target release) }
lifted_release Audience target release =
    record release { audience = if is_release target release then None else release.audience }
lifted_release Stone target release = record release { stone = false }
lifted_release Floor target release = record release { floor = zero_version }
lifted_release Downgrade target release = release

-- the releases of an app are the same without a rule, by the version of a track's target
abbrev pub is_idle : Cause → List ℕ → List Release → Bool
is_idle Withdrawn target releases = list_all (λ (release : Release). not (release.withdrawn && is_release target release)) releases
is_idle Audience target releases = list_all (λ (release : Release). not (is_some release.audience && is_release target release)) releases
is_idle Stone target releases = list_all (λ (release : Release). not release.stone) releases
is_idle Floor target releases = list_all (λ (release : Release). bytes_eq release.floor zero_version) releases
is_idle Downgrade target releases = false

-- a cohort without a rule: it allows downgrades
abbrev pub lifted_cohort : Cause → Cohort → Cohort
lifted_cohort Downgrade cohort = record cohort { rollback = true }
lifted_cohort Withdrawn cohort = cohort
lifted_cohort Audience cohort = cohort
lifted_cohort Stone cohort = cohort
lifted_cohort Floor cohort = cohort

-- a track's clients without a rule: they allow downgrades
abbrev pub lifted_key : Cause → TrackKey → TrackKey
lifted_key Downgrade key = record key { rollback = true }
lifted_key Withdrawn key = key
lifted_key Audience key = key
lifted_key Stone key = key
lifted_key Floor key = key

-- the releases of an app without a rule, by the version of a track's target
abbrev pub lifted_releases : Cause → List ℕ → List Release → List Release
lifted_releases cause target releases = map (lifted_release cause target) releases

-- rule: Lifted rule
-- an app without one of the rules of a track
abbrev pub lifted : Cause → App → TrackKey → App
lifted cause app key =
    record app {
      cohorts = map (lifted_cohort cause) app.cohorts;
      releases = lifted_releases cause (target_version app key) app.releases;
    }

-- no release is a stone, and a release is offered to a cohort's clients whatever their version: so its full package leads
-- there from each other one, if downgrades are allowed
abbrev pub is_open_way : Cohort → List Release → Release → Bool
is_open_way cohort releases release =
    is_idle Stone release.version releases && (is_offered cohort pin.Any release && place_of release.floor releases == 0)
