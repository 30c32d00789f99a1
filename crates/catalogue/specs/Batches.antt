-- What a batch of edits makes of a content: each edit is accepted after those before it, or the
-- whole batch counts for nothing; this project's profile.
use Rattle.std.specs.Prelude.{ℕ, ◌+◌, List, [], ◌∷◌, Option, Some, None, Result, Ok, Err}
use Rattle.catalogue.specs.Edits.{after, fault_of}
use Rattle.catalogue.specs.declared.content.App.{App}
use Rattle.catalogue.specs.declared.edit.Edit.{Edit}
use Rattle.catalogue.specs.declared.fault.Fault.{Fault}
use Rattle.catalogue.specs.declared.fault.Refused.{Refused}

-- an edit without a fault leaves the outcome to the edits after it; one with a fault is the outcome
abbrev pub unless_refused : ℕ → Option Fault → Result (List App) Refused → Result (List App) Refused
unless_refused index None others = others
unless_refused index (Some fault) others = Err (record { index = index; fault = fault })

-- the content after the edits, or the first rejected one, the first edit having that index
abbrev pub outcome_from : ℕ → List Edit → List App → Result (List App) Refused
outcome_from index [] apps = Ok apps
outcome_from index (e ∷ edits) apps =
    unless_refused index (fault_of apps e) (outcome_from (index + 1) edits (after apps e))

-- rule: Batch
-- the content after a batch, or its first rejected edit
abbrev pub outcome : List Edit → List App → Result (List App) Refused
outcome batch apps = outcome_from 0 batch apps

-- the content after a history, the list of its batches, if each was accepted; else the first
-- rejection
abbrev pub then_run : (List App → Result (List App) Refused) → Result (List App) Refused → Result (List App) Refused
then_run run_on (Ok apps) = run_on apps
then_run run_on (Err refused) = Err refused

abbrev pub run : List (List Edit) → List App → Result (List App) Refused
run [] apps = Ok apps
run (batch ∷ batches) apps = then_run (run batches) (outcome batch apps)
