-- The reply to a request, in a valid content, keeps its content as bytes.
use Rattle.std.proofs.Common.{◌≡◌, ℕ, zero, suc, ◌<◌, ◌^◌, ◌==◌, ◌&&◌, Bool, true, List, [], ◌∷◌, length, map, Option, None, Some, option_map, option_and_then, unwrap_or, slice_get, nat_le, refl, IsUtf8, arith}
use Rattle.std.specs.Prelude.{All, ⊤, position}
use Rattle.std.specs.List.{AllByRecursion, list_all, zip}
use Rattle.std.specs.Option.{option_map_or}
use Rattle.std.proofs.lemmas.Bool.{and_parts}
use Rattle.std.proofs.lemmas.Bool.Decides.{nat_tests}
use Rattle.std.proofs.lemmas.List.Elements.{All-cons, All-nil}
use Rattle.std.proofs.lemmas.Str.{IsUtf8-from_ascii}
use Rattle.std.proofs.lemmas.Str.Ascii.{IsAscii-nil}
use Rattle.hex.specs.Hex.{IsBytes}
use Rattle.catalogue.specs.Forms.{is_cohort_name, is_hash, is_size}
use Rattle.catalogue.specs.Lookups.{is_app}
use Rattle.catalogue.specs.Mirrors.{is_codebase, is_mirror, max_budget}
use Rattle.catalogue.specs.Validity.{IsValidApp, is_valid_cohort, is_valid_diff, is_valid_release}
use Rattle.catalogue.specs.declared.content.App.{App}
use Rattle.catalogue.specs.declared.content.Cohort.{Cohort}
use Rattle.catalogue.specs.declared.content.Diff.{Diff}
use Rattle.catalogue.specs.declared.content.Release.{Release}
use Rattle.catalogue.specs.declared.mirror.Mirror.{Mirror}
use Rattle.catalogue.proofs.ValidCohortLemmas.{ValidCohort-from_test}
use Rattle.catalogue.proofs.ValidDiffLemmas.{ValidDiff-from_test}
use Rattle.catalogue.proofs.ValidReleaseLemmas.{ValidRelease-from_test}
use Rattle.cohorts.proofs.BucketLemmas.{session_bucket-small}
use Rattle.cohorts.proofs.CohortTextLemmas.{printed-parsed}
use Rattle.cohorts.specs.CohortTexts.{parsed}
use Rattle.cohorts.specs.Tracks.{no_cohort, session_bucket, track_of}
use Rattle.omaha_json.specs.Soundness.{IsApp, IsCheck, IsDiff, IsHash, IsOffer, IsOptionalCheck, IsPart, IsSize, IsSound, IsState}
use Rattle.omaha_json.specs.declared.request.AppAsk.{AppAsk}
use Rattle.omaha_json.specs.declared.request.Check.{Check}
use Rattle.omaha_json.specs.declared.request.Request.{Request}
use Rattle.payload_graph.specs.Chains.{destination_of}
use Rattle.payload_graph.specs.declared.payload.Payload.{Payload}
use Rattle.payload_graph.specs.declared.payload.Payload.TheVariants.{Full, Differ}
use Rattle.replies.specs.Clients.{Client, client_at, client_of, cohort_of}
use Rattle.replies.specs.Replies.{Decision, app_reply, check_reply, codebase_at, diff_of, diff_part, full_part, offer_of, release_by, reply_of, state_of, update_reply}
use Rattle.theorems.proofs.StringLemmas.{IsUtf8-codebase, IsUtf8-cohort_name, IsUtf8-cohort_text, IsUtf8-fingerprint, IsUtf8-package_name, IsUtf8-version}

-- what is found in a list, if anything is, passes a test that all of the list passes
abbrev Passes : {X : Type 0} → (X → Bool) → Option X → Type 0
Passes test None = ⊤
Passes test (Some x) = test x ≡ true

passes : {X : Type 0} (test : X → Bool) (xs : List X) (index : ℕ) → list_all test xs ≡ true → Passes test (slice_get xs index)
passes test [] index all = tt
passes test (x ∷ xs) zero all = (and_parts (test x) (list_all test xs) all).0
passes test (x ∷ xs) (suc index) all = passes test xs index (and_parts (test x) (list_all test xs) all).1

-- the same of what holds of all of a list
abbrev Holds : {X : Type 0} → (X → Type 0) → Option X → Type 0
Holds P None = ⊤
Holds P (Some x) = P x

holds : {X : Type 0} (P : X → Type 0) (xs : List X) (index : ℕ) → AllByRecursion P xs → Holds P (slice_get xs index)
holds P [] index all = tt
holds P (x ∷ xs) zero all = all.0
holds P (x ∷ xs) (suc index) all = holds P xs index all.1

IsUtf8-nothing : IsUtf8 []
IsUtf8-nothing = IsUtf8-from_ascii [] IsAscii-nil

IsBytes-all : (hash : List ℕ) → list_all (λ byte. nat_le byte 255) hash ≡ true → IsBytes hash
IsBytes-all [] all index = omega arith
IsBytes-all (byte ∷ hash) all zero =
    let small = (and_parts (nat_le byte 255) (list_all (λ b. nat_le b 255) hash) all).0 in
    grind (arith, nat_tests, small)
IsBytes-all (byte ∷ hash) all (suc index) =
    IsBytes-all hash (and_parts (nat_le byte 255) (list_all (λ b. nat_le b 255) hash) all).1 index

IsHash-from_test : (hash : List ℕ) → is_hash hash ≡ true → IsHash hash
IsHash-from_test hash is =
    let parts = and_parts (length hash == 32) (list_all (λ byte. nat_le byte 255) hash) is in
    let long = parts.0 in
    (grind (arith, nat_tests, long), IsBytes-all hash parts.1)

IsSize-from_test : (size : ℕ) → is_size size ≡ true → IsSize size
IsSize-from_test size is =
    let parts = and_parts (nat_le 1 size) (nat_le size (2 ^ 40)) is in
    let low = parts.0 in
    let high = parts.1 in
    (grind (arith, nat_tests, low), grind (arith, nat_tests, high))

-- the package of a release, and its offer
module _ (codebase : List ℕ) (at : IsUtf8 codebase) where
  IsPart-full : (cohorts : List Cohort) (release : Release) → is_valid_release cohorts release ≡ true → IsPart (full_part codebase release)
  IsPart-full cohorts release is =
      let good = ValidRelease-from_test cohorts release is in
      (at, IsUtf8-package_name release.name good.named, IsSize-from_test release.size good.sized, IsHash-from_test release.hash good.hashed)

  IsPart-diff : (releases : List Release) (diff : Diff) → is_valid_diff releases diff ≡ true → IsPart (diff_part codebase diff)
  IsPart-diff releases diff is =
      let good = ValidDiff-from_test releases diff is in
      (at, IsUtf8-package_name diff.name good.named, IsSize-from_test diff.size good.sized, IsHash-from_test diff.hash good.hashed)

  IsDiff-of : (releases : List Release) (diff : Option Diff) → Passes (is_valid_diff releases) diff → IsDiff (option_map (diff_part codebase) diff)
  IsDiff-of releases None is = tt
  IsDiff-of releases (Some diff) is = IsPart-diff releases diff is

  IsOffer-of : (app : App) (release : Release) (diff : Option Diff) → is_valid_release app.cohorts release ≡ true →
      Passes (is_valid_diff app.releases) diff → IsOffer (offer_of codebase release diff)
  IsOffer-of app release diff is differs =
      let good = ValidRelease-from_test app.cohorts release is in (
        IsUtf8-version release.spelled release.version good.spelled,
        IsUtf8-fingerprint release.hash,
        IsPart-full app.cohorts release is,
        IsDiff-of app.releases diff differs,
      )

-- the codebase of a mirror, if there is one
codebase-utf8 : (mirror : Option Mirror) → Passes is_mirror mirror → IsUtf8 (option_map_or (λ mirror. mirror.codebase) mirror [])
codebase-utf8 None is = IsUtf8-nothing
codebase-utf8 (Some mirror) is =
    IsUtf8-codebase mirror.codebase
    (and_parts (is_cohort_name mirror.name) (is_codebase mirror.codebase)
    (and_parts (is_cohort_name mirror.name && is_codebase mirror.codebase) (nat_le mirror.budget max_budget) is).0).1

-- the reply to an update check
IsCheck-of :
    (app : App) (mirrors : List Mirror) → list_all is_mirror mirrors ≡ true →
    (release : Option Release) (diff : Option Diff) (outcome : Option ℕ) →
    Passes (is_valid_release app.cohorts) release → Passes (is_valid_diff app.releases) diff →
    IsCheck (check_reply mirrors release diff outcome)
IsCheck-of app mirrors formed None diff outcome is differs = tt
IsCheck-of app mirrors formed (Some release) diff None is differs = tt
IsCheck-of app mirrors formed (Some release) diff (Some mirror) is differs =
    IsOffer-of (codebase_at mirrors mirror) (codebase-utf8 (slice_get mirrors mirror) (passes is_mirror mirrors mirror formed))
    app release diff is differs

release-passes : (app : App) → IsValidApp app → (payload : Option Payload) →
    Passes (is_valid_release app.cohorts) (option_and_then (release_by app) payload)
release-passes app valid None = tt
release-passes app valid (Some payload) =
    passes (is_valid_release app.cohorts) app.releases (destination_of app payload) valid.releases_valid

diff-passes : (app : App) → IsValidApp app → (payload : Option Payload) →
    Passes (is_valid_diff app.releases) (option_and_then (diff_of app) payload)
diff-passes app valid None = tt
diff-passes app valid (Some (Full release)) = tt
diff-passes app valid (Some (Differ index)) = passes (is_valid_diff app.releases) app.diffs index valid.diffs_valid

-- a client of a valid app, in a bucket
abbrev IsValidClient : Client → Type 0
IsValidClient client = IsValidApp client.app × (client.track.bucket < 1000)

bucket-small : (ask : AppAsk) (session : List ℕ) (found : Option (List ℕ × ℕ)) → parsed ask.cohort ≡ found →
    option_map_or (λ named. named.1) found (session_bucket session) < 1000
bucket-small ask session None same = session_bucket-small session
bucket-small ask session (Some (name, bucket)) same = (printed-parsed ask.cohort name bucket same).1

client_at-good : (apps : List App) (session : List ℕ) (ask : AppAsk) (index : ℕ) → AllByRecursion IsValidApp apps →
    Holds IsValidClient (client_at apps session ask index)
client_at-good apps session ask index valid = cases (slice_get apps index) (holds IsValidApp apps index valid)
  where
    cases : (app : Option App) → Holds IsValidApp app →
        Holds IsValidClient (option_map (λ app. record { index = index; app = app; track = track_of app.releases app.cohorts ask session }) app)
    cases None is = tt
    cases (Some app) is = (is, bucket-small ask session (parsed ask.cohort) refl)

client_of-good : (apps : List App) (session : List ℕ) (ask : AppAsk) → AllByRecursion IsValidApp apps →
    Holds IsValidClient (client_of apps session ask)
client_of-good apps session ask valid = cases (position (is_app ask.appid) apps)
  where
    cases : (at : Option ℕ) → Holds IsValidClient (option_and_then (client_at apps session ask) at)
    cases None = tt
    cases (Some index) = client_at-good apps session ask index valid

cohort-utf8 : (releases : List Release) (cohort : Option Cohort) → Passes (is_valid_cohort releases) cohort → IsUtf8 (unwrap_or cohort no_cohort).name
cohort-utf8 releases None is = IsUtf8-nothing
cohort-utf8 releases (Some cohort) is = IsUtf8-cohort_name cohort.name (ValidCohort-from_test releases cohort is).named

-- the reply to an app
IsState-of :
    (mirrors : List Mirror) → list_all is_mirror mirrors ≡ true →
    (client : Option Client) (ask : AppAsk) (decision : Decision) → Holds IsValidClient client →
    IsState (state_of mirrors client ask decision)
IsState-of mirrors formed None ask decision good = tt
IsState-of mirrors formed (Some client) ask decision (valid, small) =
    let named : IsUtf8 (cohort_of client).name =
    cohort-utf8 client.app.releases (slice_get client.app.cohorts client.track.cohort)
    (passes (is_valid_cohort client.app.releases) client.app.cohorts client.track.cohort valid.cohorts_valid) in
    (IsUtf8-cohort_text (cohort_of client).name client.track.bucket named small, named, cases ask.check)
  where
    cases : (check : Option Check) → IsOptionalCheck (option_map (λ _. update_reply mirrors client.app decision) check)
    cases None = tt
    cases (Some check) =
        IsCheck-of client.app mirrors formed (option_and_then (release_by client.app) decision.0)
        (option_and_then (diff_of client.app) decision.0) decision.1
        (release-passes client.app valid decision.0) (diff-passes client.app valid decision.0)

apps-sound :
    (apps : List App) (session : List ℕ) (mirrors : List Mirror) → AllByRecursion IsValidApp apps → list_all is_mirror mirrors ≡ true →
    (asks : List AppAsk) (decisions : List Decision) → AllByRecursion (λ (ask : AppAsk). IsUtf8 ask.appid) asks →
    All IsApp (map (app_reply apps session mirrors) (zip asks decisions))
apps-sound apps session mirrors valid formed [] decisions named = All-nil IsApp
apps-sound apps session mirrors valid formed (ask ∷ asks) [] named = All-nil IsApp
apps-sound apps session mirrors valid formed (ask ∷ asks) (decision ∷ decisions) named =
    All-cons IsApp (app_reply apps session mirrors (ask, decision)) (map (app_reply apps session mirrors) (zip asks decisions))
    (named.0, IsState-of mirrors formed (client_of apps session ask) ask decision (client_of-good apps session ask valid))
    (apps-sound apps session mirrors valid formed asks decisions named.1)

pub IsSound-reply_of :
    (apps : List App) → AllByRecursion IsValidApp apps →
    (mirrors : List Mirror) → list_all is_mirror mirrors ≡ true →
    (request : Request) → AllByRecursion (λ (ask : AppAsk). IsUtf8 ask.appid) request.apps →
    (payloads : List (Option Payload)) (outcomes : List (Option ℕ)) (moment : ℕ) → moment < 2 ^ 64 →
    IsSound (reply_of apps request payloads outcomes mirrors moment)
IsSound-reply_of apps valid mirrors formed request named payloads outcomes moment dated = (
  omega (arith, dated),
  omega (arith, dated),
  apps-sound apps request.session mirrors valid formed request.apps (zip payloads outcomes) named,
)
