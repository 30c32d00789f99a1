-- What `review` finds and prints; this project's profile.
use Rattle.std.specs.Prelude.{◌≡◌, ◌≢◌, ◌⊎◌, ⊤, ℕ, ◌-◌, ◌^◌, ◌==◌, ◌&&◌, Bool, true, false, bytes_eq, if◌then◌else◌, codes, decimal, List, ◌++◌, nat_lt, length, Option, Some, None, Result, Ok, Err}
use Rattle.std.specs.Option.{option_map}
use Rattle.catalogue.specs.declared.content.App.{App}
use Rattle.catalogue.specs.declared.edit.Edit.{Edit}
use Rattle.catalogue.specs.Histories.{History}
use Rattle.editions.specs.Editions.{Continues, content_of}
use Rattle.editions.specs.declared.fault.NextError.{NextError}
use Rattle.editions.specs.declared.fault.NextError.TheVariants as next
use Rattle.service_desks.specs.declared.services.service.Service.{Service}
use Rattle.review_reports.specs.ChangeLines.{change_string, newly_stuck_total}
use Rattle.review_reports.specs.ChangeObjects.{change_objects}
use Rattle.review_reports.specs.Changes.{changes_of}
use Rattle.review_reports.specs.Newcomers.{cut_off_of}
use Rattle.review_reports.specs.Objects.{review_objects}
use Rattle.review_reports.specs.ReviewLines.{review_string, stuck_total}
use Rattle.reviews.specs.Reviews.{AreReviews}
use Rattle.review_reports.specs.declared.change.Change.{Change}
use Rattle.review_reports.specs.declared.change.Clients.{Clients}
use Rattle.reviews.specs.declared.review.TrackReview.{TrackReview}
use Rattle.omaha_arguments.specs.declared.command.Review.{Review}
use Rattle.omaha_arguments.specs.declared.command.Source.{Source}
use Rattle.omaha_arguments.specs.declared.command.Source.TheVariants.{Profile, Server}
use Rattle.update_client.specs.declared.posting.Reply.{Reply}
use Rattle.omaha_commands.specs.Forms.{meaning_by_decline}
use Rattle.omaha_commands.specs.Operating.{IsUnexpected, Listeners, PrintsBody}
use Rattle.omaha_commands.specs.declared.forms.Meaning.{Meaning}
use Rattle.omaha_commands.specs.declared.forms.Meaning.TheVariants as meaning
use Rattle.profiles.specs.Profiles.{Files, IsMade, IsServed, service_of_bytes}
use Rattle.omaha_commands.specs.ScriptFiles.{IsScriptRead, Script}
use Rattle.profiles.specs.Streams.{Streams}
use Rattle.failures.specs.declared.failure.Failure.{Failure}
use Rattle.failures.specs.declared.failure.Failure.TheVariants as failure
use Rattle.omaha_commands.specs.declared.reviewing.Findings.{Findings}
use Rattle.omaha_commands.specs.declared.reviewing.Verdict.{Verdict}
use Rattle.omaha_commands.specs.declared.reviewing.Verdict.TheVariants.{StuckReleases, Declined}

-- how many stuck releases of a track are printed: 40, or all
abbrev pub limit_of : Review → ℕ
limit_of asked = if asked.all then 2 ^ 64 - 1 else 40

-- what is printed of the reviews of a content: lines, or JSON objects
abbrev pub review_bytes : Review → List App → List TrackReview → List ℕ
review_bytes asked apps reviews =
    if asked.json then review_objects apps reviews else review_string apps (limit_of asked) reviews

-- what is printed of changes, and of new clients who are cut off
abbrev pub change_bytes : Review → List App → List TrackReview → List Change → List Clients → List ℕ
change_bytes asked apps reviews changes cut_off =
    if asked.json then change_objects apps reviews changes cut_off else change_string apps reviews changes cut_off

-- the review of an edition is found, and how many releases are stuck
pub record IsReviewed (asked : Review) (history : History) (findings : Findings) : Type 0 where
  pub reviews : List TrackReview
  pub are : AreReviews (content_of history) reviews
  pub text : findings.text.items ≡ review_bytes asked (content_of history) reviews
  pub verdict : findings.verdict ≡ StuckReleases (stuck_total reviews)

-- the reviews of two contents are compared: what has changed is found, and how many releases are newly stuck, with the
-- new clients who are cut off
pub record IsCompared (asked : Review) (old new : List App) (before after : List TrackReview) (findings : Findings) : Type 0 where
  pub changes : List Change
  pub are_changes : changes ≡ changes_of old new before after
  pub cut_off : List Clients
  pub are_cut_off : cut_off ≡ cut_off_of old before after
  pub text : findings.text.items ≡ change_bytes asked new after changes cut_off
  pub verdict : findings.verdict ≡ StuckReleases (newly_stuck_total changes cut_off)

-- the review of a change from one edition to another is found
pub record IsReviewedChange (asked : Review) (old new : History) (findings : Findings) : Type 0 where
  pub before : List TrackReview
  pub are_before : AreReviews (content_of old) before
  pub after : List TrackReview
  pub are_after : AreReviews (content_of new) after
  pub compared : IsCompared asked (content_of old) (content_of new) before after findings

-- why an edition has no next one, as a failure
abbrev pub failure_of_next : NextError → Failure
failure_of_next (next.Refused refused) = failure.Edit refused
failure_of_next next.HistoryFull = failure.HistoryFull
failure_of_next next.Memory = failure.Memory

-- what is found of a change, unless memory runs out
abbrev pub FindsNext : Review → History → History → Result Findings Failure → Type 0
FindsNext asked before after (Ok findings) = IsReviewedChange asked before after findings
FindsNext asked before after (Err refusal) = refusal ≡ failure.Memory

-- what is found of a script for an edition: another edition is there; the review of the change to the next edition; or
-- why there is none
abbrev pub FindsInBatch : Review → History → ℕ → List Edit → Result Findings Failure → Type 0
FindsInBatch asked history base batch (Ok findings) =
    (base ≡ length history)
    × ((after : History) × Continues history batch (Ok after) × IsReviewedChange asked history after findings)
FindsInBatch asked history base batch (Err (failure.Stale number)) = (base ≢ length history) × (number ≡ length history)
FindsInBatch asked history base batch (Err failure.Memory) = ⊤
FindsInBatch asked history base batch (Err refusal) =
    (base ≡ length history)
    × ((error : NextError) × (refusal ≡ failure_of_next error) × Continues history batch (Err error))

-- what is found of an edition, unless memory runs out
abbrev pub FindsWhole : Review → History → Result Findings Failure → Type 0
FindsWhole asked history (Ok findings) = IsReviewed asked history findings
FindsWhole asked history (Err refusal) = refusal ≡ failure.Memory

-- what is found of an edition, without a script or with one
abbrev pub FindsBy : Review → History → Option Script → Result Findings Failure → Type 0
FindsBy asked history None found = FindsWhole asked history found
FindsBy asked history (Some script) found = FindsInBatch asked history script.0 script.1 found

-- what follows from what was made of a profile
abbrev pub FollowsBy : Review → Option Script → Result Service Failure → Result Findings Failure → Type 0
FollowsBy asked script (Ok service) found = FindsBy asked service.edition script found
FollowsBy asked script (Err refusal) found = found ≡ Err refusal

-- a profile's file is read and reviewed, or what the script changes of it
pub record FindsInProfile (files : Files) (path : List ℕ) (asked : Review) (script : Option Script) (found : Result Findings Failure) : Type 0 where
  pub made : Result Service Failure
  pub served : IsServed files (Some path) made
  pub follows : FollowsBy asked script made found

-- an operator's listener sends no whole reply, or memory ran out
abbrev pub IsUnanswered : List ℕ → Result Findings Failure → Type 0
IsUnanswered to found = (found ≡ Err (failure.Net to)) ⊎ (found ≡ Err failure.Memory)

-- what follows from what another reply is than the one that is asked for: one that says why there is none is found
abbrev pub FindsDeclined : Meaning → List ℕ → Reply → Result Findings Failure → Type 0
FindsDeclined meaning.Declined to reply found = found ≡ Ok (record { text = reply.body; verdict = Declined reply.status })
FindsDeclined other to reply found = (refusal : Failure) × IsUnexpected to reply.status refusal × (found ≡ Err refusal)

-- another reply than the one that is asked for is printed, if an operator's listener replies so, and the review fails
abbrev pub IsDeclined : List ℕ → Reply → Result Findings Failure → Type 0
IsDeclined to reply found = FindsDeclined (meaning_by_decline reply.body.items) to reply found

-- a script as if it were written for an edition
abbrev pub based_on : History → Option Script → Option Script
based_on history script = option_map (λ (it : Script). (length history, it.1)) script

-- what follows from what was made of a dump, whose number isn't the server's
abbrev pub FollowsDump : Review → Option Script → Result Service Failure → Result Findings Failure → Type 0
FollowsDump asked script (Ok service) found = FindsBy asked service.edition (based_on service.edition script) found
FollowsDump asked script (Err refusal) found = found ≡ Err refusal

-- a dump is reviewed, or what a script's edits change of it
pub record FindsInDump (dump : List ℕ) (asked : Review) (script : Option Script) (found : Result Findings Failure) : Type 0 where
  pub made : Result Service Failure
  pub is : IsMade (service_of_bytes dump) made
  pub follows : FollowsDump asked script made found

-- what is found of the reply to a dump, which may be another one
abbrev pub FindsInReply : Bool → List ℕ → Reply → Review → Option Script → Result Findings Failure → Type 0
FindsInReply true to reply asked script found = FindsInDump reply.body.items asked script found
FindsInReply false to reply asked script found = IsDeclined to reply found

-- what is found of what a server has published: its dump is asked for
abbrev pub FindsPublished : Listeners → List ℕ → Review → Option Script → Result Findings Failure → Type 0
FindsPublished listeners to asked script found =
    IsUnanswered to found
    ⊎ ((reply : Reply) × listeners to (codes "dump") reply × FindsInReply (reply.status == 200) to reply asked script found)

-- a script that no server publishes, since no edition has the number 0; the reply names the server's edition
abbrev pub probe_script : List ℕ
probe_script = codes "schema = 1\nbase = 0\n"

-- a reply to it names the edition of a number
abbrev pub names_edition : List ℕ → ℕ → Bool
names_edition body number = bytes_eq body (codes "stale " ++ (decimal number ++ codes "\n"))

-- what is found by whether the server has the edition that a script is written for
abbrev pub FindsIfNamed : Bool → Reply → Listeners → List ℕ → Review → Script → Result Findings Failure → Type 0
FindsIfNamed true reply listeners to asked script found = FindsPublished listeners to asked (Some script) found
FindsIfNamed false reply listeners to asked script found = IsDeclined to reply found

-- the same of a reply, unless memory runs out
abbrev pub FindsSaid : Reply → Listeners → List ℕ → Review → Script → Result Findings Failure → Type 0
FindsSaid reply listeners to asked script found =
    (found ≡ Err failure.Memory)
    ⊎ FindsIfNamed (names_edition reply.body.items script.0) reply listeners to asked script found

-- what is found of a script: the server is asked for its edition first
abbrev pub FindsScriptOn : Listeners → List ℕ → Review → Script → Result Findings Failure → Type 0
FindsScriptOn listeners to asked script found =
    IsUnanswered to found
    ⊎ ((reply : Reply) × listeners to probe_script reply × FindsSaid reply listeners to asked script found)

-- rule: Review of a server
-- what is found of a server: without a script of what it has published; with one only if its edition is the one that the
-- script is written for
abbrev pub FindsOnServer : Listeners → List ℕ → Review → Option Script → Result Findings Failure → Type 0
FindsOnServer listeners to asked None found = FindsPublished listeners to asked None found
FindsOnServer listeners to asked (Some script) found = FindsScriptOn listeners to asked script found

-- what is found of where the catalogue is
abbrev pub FindsIn : Files → Listeners → Review → Source → Option Script → Result Findings Failure → Type 0
FindsIn files listeners asked (Profile path) script found = FindsInProfile files path asked script found
FindsIn files listeners asked (Server to) script found = FindsOnServer listeners to asked script found

-- what follows from the script that was read
abbrev pub FindsWith : Files → Listeners → Review → Result (Option Script) Failure → Result Findings Failure → Type 0
FindsWith files listeners asked (Ok script) found = FindsIn files listeners asked asked.source script found
FindsWith files listeners asked (Err refusal) found = found ≡ Err refusal

-- the script is read first; then the catalogue is reviewed, or what the script changes of it
pub record FindsReview (files : Files) (listeners : Listeners) (asked : Review) (found : Result Findings Failure) : Type 0 where
  pub read : Result (Option Script) Failure
  pub script : IsScriptRead files asked.script read
  pub follows : FindsWith files listeners asked read found

-- how the command ends that printed what it found, by its verdict
abbrev pub end_by : Review → Findings → Verdict → Result (Unit {0}) Failure
end_by asked found (StuckReleases stuck) = if asked.strict && nat_lt 0 stuck then Err (failure.Stuck stuck) else Ok tt
end_by asked found (Declined status) = Err (failure.Declined (record { status = status; body = found.text }))

-- rule: Strict review
-- how the command ends that printed what it found
abbrev pub end_of : Review → Findings → Result (Unit {0}) Failure
end_of asked found = end_by asked found found.verdict

-- a terminal gets what was found as it is, and a server's reply without control characters
abbrev pub is_masked : Bool → Verdict → Bool
is_masked shown (StuckReleases stuck) = false
is_masked shown (Declined status) = shown

-- what was found is printed, and the command ends by it; or it isn't printed whole; or nothing was found, and nothing is
-- printed
abbrev pub PrintsReview : Bool → Review → Result Findings Failure → Streams → Streams → Result (Unit {0}) Failure → Type 0
PrintsReview shown asked (Ok findings) old new result =
    (((result ≡ end_of asked findings)
    × PrintsBody (is_masked shown findings.verdict) findings.text.items old.output new.output (Ok tt))
    ⊎ ((refusal : Failure) × (result ≡ Err refusal)
    × PrintsBody (is_masked shown findings.verdict) findings.text.items old.output new.output (Err refusal)))
    × (new.input ≡ old.input)
PrintsReview shown asked (Err refusal) old new result = (result ≡ Err refusal) × (new ≡ old)

-- rule: Report of a review
-- a review is found, and printed; a terminal gets it without a server's control characters, if it is shown on one
pub record Reviews (files : Files) (listeners : Listeners) (shown : Bool) (asked : Review) (old new : Streams)
    (result : Result (Unit {0}) Failure) : Type 0 where
  pub found : Result Findings Failure
  pub is : FindsReview files listeners asked found
  pub printed : PrintsReview shown asked found old new result
