-- Wrong machines that break the laws of requests and of entries, each in a run of the small service.
use Rattle.std.proofs.Common.{◌≡◌, ℕ, suc, Bool, true, false, List, [], ◌∷◌, length, take, drop, Option, Some, refl, sym, ap}
use Rattle.std.specs.Option.{option_map_or}
use Rattle.std.proofs.lemmas.Bool.{false≢true}
use Rattle.hex.proofs.OnLiterals.{hex_on_literals}
use Rattle.cohorts.specs.CohortTexts.{parsed}
use Rattle.omaha_json.specs.declared.request.Request.{Request}
use Rattle.catalogue.specs.Forms.{hash_of}
use Rattle.catalogue.specs.Versions as version
use Rattle.theorems.specs.Choices.{Tables}
use Rattle.theorems.specs.Entries.{JobsGoByWhatIsPublished, Jobs, jobs_at}
use Rattle.theorems.specs.Events.{Enter, Event, Grant, Machine, Plan, Publish, Render, service_after}
use Rattle.theorems.specs.Jobs.{Job}
use Rattle.theorems.specs.Requests.{RepliesAreToGivenRequests}
use Rattle.theorems.specs.Runs.{begins, small_batch, small_mirrors, small_request, small_rows, withdrawal}
use Rattle.theorems.specs.Wrong.{enters_what_was_seen, plans_again, plans_for_another, plans_the_previous_request, renders_at_the_previous_time, renders_for_another_time}
use Rattle.theorems.proofs.EventPlaceLemmas.{EachPlace, at-place, entry-place, plan-place, rendering-place}
use Rattle.theorems.proofs.WrongLemmas.{apart, small-accepted}

-- the same request of another session
abbrev other_request : Request
other_request = record small_request { session = [] }

-- a worker replies to one request and then to the other; the mirror has room for the first
abbrev twice : List Event
twice =
    Enter 0
    ∷ Plan 0 small_request small_rows
    ∷ Grant 0 0 3
    ∷ Render 0 1
    ∷ Enter 0
    ∷ Plan 0 other_request small_rows
    ∷ Grant 0 0 3
    ∷ Render 0 2
    ∷ []

-- how many jobs a worker ended
abbrev ended_count : Option Jobs → ℕ
ended_count jobs = option_map_or (λ (j : Jobs). length j.0) jobs 0

-- how many it had ended before a place of the run
abbrev ended_before : Machine → ℕ → ℕ
ended_before machine place =
    ended_count (jobs_at (service_after machine small_mirrors (small_batch ∷ []) 1 (take place twice)) 0)

pub another : ¬ (RepliesAreToGivenRequests plans_for_another)
unfolding hex_on_literals version.version_of version.components_of version.lenient_version_of hash_of parsed
another law =
    let events = Enter 1 ∷ Plan 0 small_request small_rows ∷ Grant 1 0 3 ∷ Render 1 86400 ∷ [] in
    let is = law small_mirrors (small_batch ∷ []) 2 events small-accepted 1 _ refl 0 _ refl in
    let at = plan-place _ _ _ _ _ _ is in
    at-place (λ place event. event ≡ Plan 1 is.request is.tables → ⊥) events at.place (Plan 1 is.request is.tables)
    (λ this. cc, (λ this. cc, (λ this. cc, (λ this. cc, tt)))) at.there refl

-- a job's request, if a plan of another one is of it too
same-request :
    (one other request : Request) (tables : Tables) → Some one ≡ Some request →
    Plan 0 other small_rows ≡ Plan 0 request tables → one ≡ other
same-request one other request tables kept planned = cc

not-both : small_request ≡ other_request → ⊥
not-both same = apart 1 0 refl (ap (λ (request : Request). length request.session) same)

-- what an event at a place of the run must not be: this one, once the worker had ended a job
abbrev IsNot : Machine → Event → ℕ → Event → Type 0
IsNot machine wrong place event = event ≡ wrong → ended_before machine place ≡ 1 → ⊥

-- the second reply would be to the first request, which was given before the first reply alone
pub previous : ¬ (RepliesAreToGivenRequests plans_the_previous_request)
unfolding hex_on_literals version.version_of version.components_of version.lenient_version_of hash_of parsed
previous law =
    let is = law small_mirrors (small_batch ∷ []) 1 twice small-accepted 0 _ refl 1 _ refl in
    let at = plan-place _ _ _ _ _ _ is in
    let plan = Plan 0 is.request is.tables in
    let other = IsNot plans_the_previous_request plan in
    let same = same-request small_request other_request is.request is.tables is.kept in
    let second : EachPlace (λ place. other (suc (suc (suc (suc place))))) (drop 4 twice) =
    (λ this had. cc, (λ this had. not-both (same this), (λ this had. cc, (λ this had. cc, tt)))) in
    at-place other twice at.place plan
    (λ this had. cc, (λ this had. apart 0 1 refl had, (λ this had. cc, (λ this had. cc, second)))) at.there refl
    (ap ended_count at.from)

-- a worker plans its job for one request and then for the other
abbrev planned_twice : List Event
planned_twice =
    Enter 0
    ∷ Plan 0 small_request small_rows
    ∷ Plan 0 other_request small_rows
    ∷ Grant 0 0 3
    ∷ Render 0 1
    ∷ []

-- whether a worker's job is planned
abbrev is_planned : Option Jobs → Bool
is_planned jobs =
    option_map_or
    (λ (j : Jobs). option_map_or (λ (job : Job). option_map_or (λ pending. true) job.pending false) j.1 false) jobs false

-- what an event at a place of that run must not be: this one, while the job isn't planned
abbrev IsNotFirst : Event → ℕ → Event → Type 0
IsNotFirst wrong place event =
    event ≡ wrong →
    is_planned (jobs_at (service_after plans_again small_mirrors (small_batch ∷ []) 1 (take place planned_twice)) 0) ≡ false → ⊥

-- the reply would be to the second request, for which the job was planned already
pub again : ¬ (RepliesAreToGivenRequests plans_again)
unfolding hex_on_literals version.version_of version.components_of version.lenient_version_of hash_of parsed
again law =
    let is = law small_mirrors (small_batch ∷ []) 1 planned_twice small-accepted 0 _ refl 0 _ refl in
    let at = plan-place _ _ _ _ _ _ is in
    let plan = Plan 0 is.request is.tables in
    let other = IsNotFirst plan in
    let same = same-request other_request small_request is.request is.tables is.kept in
    let second : EachPlace (λ place. other (suc (suc place))) (drop 2 planned_twice) =
    (λ this none. false≢true (sym none), (λ this none. cc, (λ this none. cc, tt))) in
    at-place other planned_twice at.place plan
    (λ this none. cc, (λ this none. not-both (sym (same this)), second)) at.there refl
    (ap is_planned at.from)

-- the time at which an event has a worker render
abbrev time_of : Event → ℕ
time_of (Render worker moment) = moment
time_of event = 0

pub another_time : ¬ (RepliesAreToGivenRequests renders_for_another_time)
unfolding hex_on_literals version.version_of version.components_of version.lenient_version_of hash_of parsed
another_time law =
    let events = begins 0 (Grant 0 0 3 ∷ Render 0 86400 ∷ []) in
    let is = law small_mirrors (small_batch ∷ []) 1 events small-accepted 0 _ refl 0 _ refl in
    let at = rendering-place _ _ _ _ _ _ is in
    at-place (λ place event. event ≡ Render 0 172800 → ⊥) events at.place (Render 0 172800)
    (λ this. cc, (λ this. cc, (λ this. cc, (λ this. apart 86400 172800 refl (ap time_of this), tt)))) at.there refl

-- the second reply would be for the time of the first one
pub previous_time : ¬ (RepliesAreToGivenRequests renders_at_the_previous_time)
unfolding hex_on_literals version.version_of version.components_of version.lenient_version_of hash_of parsed
previous_time law =
    let is = law small_mirrors (small_batch ∷ []) 1 twice small-accepted 0 _ refl 1 _ refl in
    let at = rendering-place _ _ _ _ _ _ is in
    let other = IsNot renders_at_the_previous_time (Render 0 1) in
    let second : EachPlace (λ place. other (suc (suc (suc (suc place))))) (drop 4 twice) =
    (λ this had. cc, (λ this had. cc, (λ this had. cc, (λ this had. cc, tt)))) in
    at-place other twice at.place (Render 0 1)
    (λ this had. cc, (λ this had. cc, (λ this had. cc, (λ this had. apart 0 1 refl had, second)))) at.there refl
    (ap ended_count at.from)

-- no worker hears of anything, so it has seen edition 1 alone
pub old : ¬ (JobsGoByWhatIsPublished enters_what_was_seen)
unfolding hex_on_literals version.version_of version.components_of version.lenient_version_of hash_of parsed
old law =
    let events = Publish 1 (withdrawal ∷ []) ∷ Enter 0 ∷ [] in
    let entered = (law small_mirrors (small_batch ∷ []) 1 events small-accepted 0 _ refl).1 in
    let at = entry-place _ _ _ _ _ entered in
    at-place
    (λ place event. event ≡ Enter 0 →
    1 ≡ length (service_after enters_what_was_seen small_mirrors (small_batch ∷ []) 1 (take place events)).history → ⊥)
    events at.place (Enter 0)
    (λ this number. cc, (λ this number. apart 1 2 refl number, tt)) at.there refl at.number_is
