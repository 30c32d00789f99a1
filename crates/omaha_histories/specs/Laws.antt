-- What a restart finds of what was published; this project's profile.
use Rattle.std.specs.Prelude.{◌≡◌, ◌⊎◌, List, [], ◌∷◌, ◌++◌}
use Rattle.std.specs.Option.{ForSome}
use Rattle.http_desks.specs.Calls.{Call, Leads}
use Rattle.kept_records.specs.declared.record.Record.{Record}
use Rattle.service_desks.specs.Operators.{IsCall}
use Rattle.publisher.specs.Beginnings.{StartsWith}
use Rattle.service_desks.specs.States.{Publication, State, publication_of, settled}
use Rattle.omaha_histories.specs.Restarting.{Found, LeadTo}

-- records lead to one thing at most
abbrev pub RecordsLeadToOne : Type 0
RecordsLeadToOne = (records : List Record) (one other : Found) → LeadTo records one → LeadTo records other → other ≡ one

-- what is published, or due, and the mirrors with their budgets
abbrev pub found_in : State → Found
found_in state = record { history = (settled (publication_of state)).history; mirrors = state.mirrors }

-- if the records lead to what is published, or due, and to the present budgets, they do so after each call of the operator's
-- desk; so a restart from them has just these
abbrev pub RestartsFindWhatWasPublished : Type 0
RestartsFindWhatWasPublished =
    (before after : State) (calls : List Call) →
    LeadTo before.store.records (found_in before) → Leads IsCall before calls after →
    LeadTo after.store.records (found_in after)

-- rule: Servers of one history
-- of two servers of one history, one knows the first ones of the records that the other one knows. So what these lead to at
-- the other begins with the batches that they lead to at the first
abbrev pub ServersAgree : Type 0
ServersAgree =
    (known more : List Record) (one other : Found) → LeadTo known one → LeadTo (known ++ more) other →
    StartsWith other.history one.history

-- what is due, if anything is, goes on from what is published
abbrev pub GoesAhead : Publication → Type 0
GoesAhead published = ForSome published.store.due (λ next. StartsWith next published.history)

-- there is at most one record more
abbrev pub AddsOne : List Record → List Record → Type 0
AddsOne old new = (new ≡ old) ⊎ ((more : Record) × (new ≡ old ++ more ∷ []))

-- what is published stays: after any calls what is published, or due, begins with what was published before them
abbrev pub PublishedEditionsStay : Type 0
PublishedEditionsStay =
    (before after : State) (calls : List Call) → GoesAhead (publication_of before) → Leads IsCall before calls after →
    GoesAhead (publication_of after) × StartsWith (found_in after).history before.history

-- rule: Restart after a crash
-- what a crash within a call leaves: at most one record more than before the call, and these lead to what was published, or
-- due, and to the budgets, before the call or after it; what was published before it is there
pub record IsLeft (before after : State) (left : List Record) : Type 0 where
  pub found : Found
  pub led : LeadTo left found
  pub which : (found ≡ found_in before) ⊎ (found ≡ found_in after)
  pub stays : StartsWith found.history before.history
  pub more : AddsOne before.store.records left

-- if a crash within a call leaves the records from before the call or those after it, nothing is lost of what earlier calls
-- published or raised, and no call but that one is there besides
abbrev pub CrashesLoseNothing : Type 0
CrashesLoseNothing =
    (start before after : State) (calls : List Call) (cut : Call) (left : List Record) →
    LeadTo start.store.records (found_in start) → GoesAhead (publication_of start) →
    Leads IsCall start calls before → IsCall before cut after →
    (left ≡ before.store.records) ⊎ (left ≡ after.store.records) → IsLeft before after left
