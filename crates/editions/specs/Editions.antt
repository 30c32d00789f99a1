-- Editions: histories of accepted batches, and what one more batch makes of one; this project's
-- profile.
use Rattle.std.specs.Prelude.{◌≡◌, ℕ, ◌<◌, ◌≤◌, List, [], ◌∷◌, ◌++◌, length, IfSome, IsOk, Result, Ok, Err}
use Rattle.catalogue.specs.Batches.{outcome, run, then_run}
use Rattle.catalogue.specs.Histories.{History, LeadsTo}
use Rattle.catalogue.specs.declared.content.App.{App}
use Rattle.catalogue.specs.declared.edit.Edit.{Edit}
use Rattle.catalogue.specs.declared.fault.Refused.{Refused}
use Rattle.cohorts.specs.declared.pin.Pin.TheVariants as pin
use Rattle.payload_graph.specs.declared.payload.TrackKey.{TrackKey}
use Rattle.payload_graph.specs.Net.{net_among}
use Rattle.price_cert.specs.Tables.{Certificate}
use Rattle.par_tables.specs.Tables.{AreTables}
use Rattle.editions.specs.declared.fault.NextError.{NextError}
use Rattle.editions.specs.declared.fault.NextError.TheVariants as error

-- rule: Room for 4096 batches
-- an edition's maximal number of batches
abbrev pub max_batches : ℕ
max_batches = 4096

-- rule: Edition of a whole history
-- a history that isn't too long leads to a content
pub record IsLed (history : History) (apps : List App) : Type 0 where
  pub few : length history ≤ max_batches
  pub led : LeadsTo history apps

-- rule: Tables of an edition
-- an edition: its batches are not too many and lead to its catalogue's content, and its tables are those
-- of that content
pub record IsSound (history : History) (apps : List App) (tables : List Certificate) : Type 0 where
  pub few : length history ≤ max_batches
  pub led : LeadsTo history apps
  pub priced : AreTables apps tables

-- the content that a batch leads to after a history, or its first rejected edit
abbrev pub outcome_after : History → List Edit → Result (List App) Refused
outcome_after history batch = then_run (outcome batch) (run history [])

-- the batch is accepted after the history
abbrev pub IsAccepted : History → List Edit → Type 0
IsAccepted history batch = IsOk (outcome_after history batch)

-- rule: The next edition
-- rule: A rejected batch before a full history
-- what a batch makes of a history: the history with the batch at its end, if the batch is accepted
-- and there is room; the batch's rejected edit; that there is no room, if it would have been accepted; or
-- out of memory
abbrev pub Continues : History → List Edit → Result History NextError → Type 0
Continues history batch (Ok next) =
    IsAccepted history batch × (length history < max_batches) × (next ≡ history ++ batch ∷ [])
Continues history batch (Err (error.Refused refused)) = outcome_after history batch ≡ Err refused
Continues history batch (Err error.HistoryFull) =
    IsAccepted history batch × (length history ≡ max_batches)
Continues history batch (Err error.Memory) = Unit {0}

-- the content, if there is one
abbrev pub content_or_none : Result (List App) Refused → List App
content_or_none (Ok apps) = apps
content_or_none (Err refused) = []

-- the content that a history led to
abbrev pub content_of : History → List App
content_of history = content_or_none (run history [])

-- a key whose table an edition has: its clients have no pin, and it allows a downgrade only if its cohort does, if
-- its track has a target
pub record IsTrackKey (apps : List App) (key : TrackKey) : Type 0 where
  pub pin : key.pin ≡ pin.Any
  pub rollback : IfSome (net_among apps key) (λ net. net.rollback ≡ key.rollback)
