-- What a worker of the service keeps: the job that it has, the jobs that it ended, and its shares.
use Rattle.std.specs.Prelude.{ℕ, ◌==◌, Bool, List, [], ◌∷◌, ◌++◌, filter_map, length, map, option_map, option_to_list, Option, None, Some}
use Rattle.std.specs.Option.{option_map_or}
use Rattle.mirror_ledger.specs.Asks.{granted_at}
use Rattle.omaha_json.specs.declared.reply.Reply.{Reply}
use Rattle.omaha_json.specs.declared.request.Request.{Request}
use Rattle.replies.specs.declared.choices.Choice.{Choice}
use Rattle.replies.specs.Asking.{asks_of}

-- a reply in the making: the request, the choice for each of its apps, the outcomes of the first choices that have
-- one, in order, and how many mirrors had no room for the next choice
pub record Pending : Type 0 where
  pub request : Request
  pub choices : List (Option Choice)
  pub outcomes : List (Option ℕ)
  pub tried : ℕ

-- a job: the number of batches that it goes by, and its reply in the making once it is planned
pub record Job : Type 0 where
  pub number : ℕ
  pub pending : Option Pending

-- a reply, and the time of which it says what day it is
pub record Rendered : Type 0 where
  pub moment : ℕ
  pub reply : Reply

-- a job that ended, with a reply or without one
pub record EndedJob : Type 0 where
  pub job : Job
  pub rendered : Option Rendered

-- rule: Worker
-- a worker: the highest number of batches that it has seen or heard of, its job, the jobs that it ended in their
-- order, and what each mirror granted to it
pub record Worker : Type 0 where
  pub seen : ℕ
  pub job : Option Job
  pub ended : List EndedJob
  pub share : ℕ → ℕ

-- a worker when the service opens: it has seen what is published then
abbrev pub new_worker : ℕ → Worker
new_worker seen = record { seen = seen; job = None; ended = []; share = λ mirror. 0 }

-- the bytes that mirrors are asked to grant for choices
abbrev pub bytes_asked : List (Option Choice) → List ℕ
bytes_asked choices = filter_map (λ choice. option_map (λ chosen. chosen.bytes) choice) choices

-- an outcome for each app, of those of the choices: none if nothing was chosen, or if there is no outcome yet
abbrev pub outcomes_by_app : List (Option Choice) → List (Option ℕ) → List (Option ℕ)
outcomes_by_app [] outcomes = []
outcomes_by_app (None ∷ choices) outcomes = None ∷ outcomes_by_app choices outcomes
outcomes_by_app (Some choice ∷ choices) [] = None ∷ outcomes_by_app choices []
outcomes_by_app (Some choice ∷ choices) (outcome ∷ outcomes) = outcome ∷ outcomes_by_app choices outcomes

-- the outcome for each app of a reply in the making
abbrev pub outcomes_of : Pending → List (Option ℕ)
outcomes_of pending = outcomes_by_app pending.choices pending.outcomes

-- each choice has its outcome
abbrev pub is_decided : Pending → Bool
is_decided pending = length pending.outcomes == length (bytes_asked pending.choices)

-- what the mirror at an index granted for a reply in the making
abbrev pub granted_to : ℕ → Pending → ℕ
granted_to mirror pending = granted_at mirror (asks_of pending.choices (outcomes_of pending))

-- what it granted for a job
abbrev pub granted_for : ℕ → Job → ℕ
granted_for mirror job = option_map_or (granted_to mirror) job.pending 0

-- all jobs of a worker: those that it ended, and the one that it has
abbrev pub jobs_of : Worker → List Job
jobs_of worker = map (λ (ended : EndedJob). ended.job) worker.ended ++ option_to_list worker.job
