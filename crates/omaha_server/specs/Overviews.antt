-- What an operator's address shows: what is published, what its calls came to, and whether the server is to end; this
-- project's profile.
use Rattle.std.specs.Prelude.{◌≡◌, ◌+◌, ◌-◌, ℕ, Bool, false, true, if◌then◌else◌, List, [], length, nat_lt, slice_index_or, Option, None, Some}
use Rattle.catalogue.specs.Histories.{History}
use Rattle.http_desks.specs.Calls.{Call, Asks, Looks, Shows}
use Rattle.operator_pages.specs.Counts.{heard, no_counts}
use Rattle.operator_pages.specs.Publishes.{with_publish}
use Rattle.operator_pages.specs.declared.counts.Counts.{Counts}
use Rattle.operator_pages.specs.declared.counts.Outcome.{Outcome}
use Rattle.operator_pages.specs.declared.counts.Outcome.TheVariants as outcome
use Rattle.operator_pages.specs.declared.counts.Reach.{Reach}
use Rattle.operator_pages.specs.declared.publishes.Publish.{Publish}
use Rattle.service_desks.specs.States.{State, earlier_in}
use Rattle.omaha_server.specs.Outcomes.{counted_by, outcome_in, reach_in}

-- the mirrors, the history and what is kept; the counts; the last publishes; and that the server was asked to end
pub record Overview : Type 0 where
  pub state : State
  pub counts : Counts
  pub publishes : List Publish
  pub ending : Bool

abbrev pub overview : State → Counts → List Publish → Bool → Overview
overview state counts publishes ending =
    record { state = state; counts = counts; publishes = publishes; ending = ending }

-- so it begins
abbrev pub overview_at : ℕ → State → Overview
overview_at started state = overview state (no_counts started) [] false

-- nothing is published, raised or kept, and nobody asks the server to end
pub record IsUnmoved (before after : Overview) : Type 0 where
  pub state : after.state ≡ before.state
  pub ending : after.ending ≡ before.ending

-- how many editions are published once what is due is shown
abbrev pub settled_count : History → Option History → ℕ
settled_count history None = length history
settled_count history (Some due) = length history + 1

-- whether more editions than so many are published
abbrev pub has_more : ℕ → History → Bool
has_more count history = nat_lt count (length history)

-- whether a call that led from one state to another published an edition, but for one that was due
abbrev pub has_published : State → State → Bool
has_published before after = has_more (settled_count before.history before.store.due) after.history

-- the counts after a call that came to this, and at a time found this of the history
abbrev pub counted_at : ℕ → Option Outcome → Reach → Counts → Counts
counted_at moment found reach counts = heard reach moment (counted_by found counts)

-- the counts after a call, by whether it published an edition
abbrev pub counts_after : Call → Bool → Counts → Counts
counts_after (Asks body moment answer) published counts =
    counted_at moment (outcome_in body answer) (reach_in published body answer) counts
counts_after (Looks name found) published counts = counts
counts_after (Shows at page) published counts = counts

-- how many edits the last batch of a history has
abbrev pub last_edits : History → ℕ
last_edits history = length (slice_index_or history (length history - 1) [])

-- the publish of the edition that is published, at a time, as one of this server
abbrev pub publish_of : State → ℕ → Publish
publish_of state moment = record {
  edition = earlier_in state.store + length state.history;
  time = moment;
  edits = last_edits state.history;
  adopted = false;
}

-- the last publishes after a call of which another server's edition was published, or none
abbrev pub with_adopted : Bool → Publish → List Publish → List Publish
with_adopted published publish publishes =
    if published then with_publish (record publish { adopted = true }) publishes else publishes

-- rule: Publish of another server
-- the last publishes after a call that came to this, by whether it published an edition: that is the call's own script, or
-- one of another server, which was adopted
abbrev pub published_by : Option Outcome → Bool → Publish → List Publish → List Publish
published_by (Some outcome.Published) published publish publishes = with_publish publish publishes
published_by other published publish publishes = with_adopted published publish publishes

-- the last publishes after a call that led to a state, by whether it published an edition
abbrev pub publishes_after : Call → Bool → State → List Publish → List Publish
publishes_after (Asks body moment answer) published state publishes =
    published_by (outcome_in body answer) published (publish_of state moment) publishes
publishes_after (Looks name found) published state publishes = publishes
publishes_after (Shows at page) published state publishes = publishes
