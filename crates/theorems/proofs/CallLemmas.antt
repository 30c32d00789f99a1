-- What the events of each work lead to, from a service in which the worker has no job.
use Rattle.std.proofs.Common.{◌≡◌, ℕ, ◌+◌, ◌<◌, ◌≤◌, ◌&&◌, true, List, [], ◌∷◌, ◌++◌, length, map, Option, None, Some, refl, sym, ap, ◌∙◌, subst}
use Rattle.std.specs.List.{AllByRecursion, slice_get}
use Rattle.std.specs.Option.{is_none}
use Rattle.std.proofs.lemmas.Bool.{and_from, cond-true, false≢true}
use Rattle.catalogue.specs.Histories.{History}
use Rattle.mirror_ledger.specs.Asks.{Ask, granted_at}
use Rattle.mirror_books.specs.Budgets.{Account}
use Rattle.omaha_json.specs.declared.request.Request.{Request}
use Rattle.catalogue.specs.declared.content.App.{App}
use Rattle.catalogue.specs.declared.mirror.Mirror.{Mirror}
use Rattle.replies.specs.Replies.{AreOutcomes, IsOutcome}
use Rattle.replies.specs.declared.choices.Choice.{Choice}
use Rattle.replies.specs.Asking.{asks_of}
use Rattle.theorems.specs.Calls.{AreForRoom, Break, Look, Reply, asks_events, events_of}
use Rattle.theorems.specs.Choices.{Tables, are_certified, choices_of}
use Rattle.theorems.specs.Events.{Drop, Enter, Event, Plan, Render, happens, run}
use Rattle.theorems.specs.Jobs.{EndedJob, Job, Pending, Worker, bytes_asked, is_decided, outcomes_by_app}
use Rattle.theorems.specs.Moves.{after_drop, after_entry, after_plan, after_rendering, begun, rendered_at, without_job}
use Rattle.theorems.specs.Services.{Service, content_at}
use Rattle.theorems.proofs.KeptLemmas.{IsNamed}
use Rattle.theorems.proofs.RunLemmas.{run-append}
use Rattle.theorems.proofs.StateLemmas.{HaveNoRoom, asked, asked-for-room, books_after, for-room-append, moves, share_after, state}

-- the asks of a plan: their bytes, their outcomes by app, and whom they name
pub record AreAsks (mirrors : List Mirror) (plan : List (Option Choice)) (outcomes : List (Option ℕ)) : Type 0 where
  pub sizes : map (λ (ask : Ask). ask.0) (asks_of plan outcomes) ≡ bytes_asked plan
  pub by_app : outcomes_by_app plan (map (λ (ask : Ask). ask.1) (asks_of plan outcomes)) ≡ outcomes
  pub named : AllByRecursion (λ (ask : Ask). IsNamed mirrors ask.1) (asks_of plan outcomes)

named-one : (mirrors : List Mirror) (choice : Choice) (outcome : Option ℕ) → IsOutcome mirrors (Some choice) outcome →
    IsNamed mirrors outcome
named-one mirrors choice None is = tt
named-one mirrors choice (Some mirror) is = is.1

pub AreAsks-plan : (mirrors : List Mirror) (plan : List (Option Choice)) (outcomes : List (Option ℕ)) →
    AreOutcomes mirrors plan outcomes → AreAsks mirrors plan outcomes
AreAsks-plan mirrors [] [] decided = record { sizes = refl; by_app = refl; named = tt }
AreAsks-plan mirrors [] (outcome ∷ outcomes) decided = absurd decided
AreAsks-plan mirrors (choice ∷ plan) [] decided = absurd decided
AreAsks-plan mirrors (None ∷ plan) (None ∷ outcomes) decided =
    let rest = AreAsks-plan mirrors plan outcomes decided.1 in
    record { sizes = rest.sizes; by_app = ap (λ (os : List (Option ℕ)). None ∷ os) rest.by_app; named = rest.named }
AreAsks-plan mirrors (None ∷ plan) (Some mirror ∷ outcomes) decided = absurd (false≢true decided.0.0)
AreAsks-plan mirrors (Some choice ∷ plan) (outcome ∷ outcomes) decided =
    let rest = AreAsks-plan mirrors plan outcomes decided.1 in
    record {
      sizes = ap (λ (sizes : List ℕ). choice.bytes ∷ sizes) rest.sizes;
      by_app = ap (λ (os : List (Option ℕ)). outcome ∷ os) rest.by_app;
      named = (named-one mirrors choice outcome decided.0, rest.named);
    }

module _ (mirrors : List Mirror) (history : History) (workers : List Worker) (index : ℕ) (old : Worker)
    (there : slice_get workers index ≡ Some old) (seen : ℕ) (ended : List EndedJob) (share : ℕ → ℕ)
    (books : ℕ → Account)
  where
    abbrev count : ℕ
    count = length history

    abbrev at : Worker → (ℕ → Account) → Service
    at worker after = state mirrors history workers index old there worker after

    -- a worker without a job, and one that entered
    abbrev pub idle : ℕ → List EndedJob → (ℕ → ℕ) → Worker
    idle number jobs shares = record { seen = number; job = None; ended = jobs; share = shares }

    abbrev pub entered_job : Job
    entered_job = record { number = count; pending = None }

    abbrev entered : Worker
    entered = record { seen = count; job = Some entered_job; ended = ended; share = share }

    enters : happens mirrors (at (idle seen ended share) books) (Enter index) ≡ at entered books
    enters = moves mirrors history workers index old there (after_entry count) (idle seen ended share) books

    -- the ended jobs with one more
    abbrev pub with_job : Job → List EndedJob
    with_job job = ended ++ record { job = job; rendered = None } ∷ []

    pub looks : run happens mirrors (at (idle seen ended share) books) (events_of mirrors index Look)
        ≡ at (idle count (with_job entered_job) share) books
    looks =
        ap (λ (s : Service). happens mirrors s (Drop index)) enters
        ∙ moves mirrors history workers index old there after_drop entered books

    module _ (request : Request) (tables : Tables) (plan : List (Option Choice))
        (certified : are_certified (content_at history count) request tables ≡ true)
        (chosen : choices_of (content_at history count) request tables ≡ plan) where
      abbrev apps : List App
      apps = content_at history count

      abbrev pub pending : List Ask → Pending
      pending asks = record { request = request; choices = plan; outcomes = map (λ (ask : Ask). ask.1) asks; tried = 0 }

      abbrev pub planned_job : List Ask → Job
      planned_job asks = record { number = count; pending = Some (pending asks) }

      -- a worker with its asks so far
      abbrev asking : List Ask → Worker
      asking asks = record {
        seen = count;
        job = Some (planned_job asks);
        ended = ended;
        share = share_after share asks;
      }

      plans : after_plan history request tables entered ≡ asking []
      plans =
          let new : Job = record { number = count; pending = Some (begun apps request tables) } in
          ap (λ (job : Job). record { seen = count; job = Some job; ended = ended; share = share })
          (cond-true (is_none entered_job.pending && are_certified apps request tables) new entered_job
          (and_from (is_none entered_job.pending) (are_certified apps request tables) refl certified)
          ∙ ap
          (λ (choices : List (Option Choice)). record {
            number = count;
            pending = Some (record { request = request; choices = choices; outcomes = []; tried = 0 });
          })
          chosen)

      begins : (events : List Event) →
          run happens mirrors (at (idle seen ended share) books) (Enter index ∷ Plan index request tables ∷ events)
          ≡ run happens mirrors (at (asking []) books) events
      begins events =
          ap (λ (s : Service). run happens mirrors (happens mirrors s (Plan index request tables)) events) enters
          ∙ ap (λ (s : Service). run happens mirrors s events)
          (moves mirrors history workers index old there (after_plan history request tables) entered books
          ∙ ap (λ (w : Worker). at w books) plans)

      module _ (some : 1 ≤ length mirrors) (asks : List Ask) (rest : List ℕ)
          (parts : bytes_asked plan ≡ map (λ (ask : Ask). ask.0) asks ++ rest)
          (named : AllByRecursion (λ (ask : Ask). IsNamed mirrors ask.1) asks)
          (room : (mirror : ℕ) → mirror < length mirrors →
          (books mirror).total + granted_at mirror asks ≤ (books mirror).budget) where
        asks-all : (last : Event) →
            run happens mirrors (at (asking []) books) (asks_events mirrors index asks ++ last ∷ [])
            ≡ happens mirrors (at (asking asks) (books_after books asks)) last
        asks-all last =
            run-append happens mirrors (asks_events mirrors index asks) (last ∷ []) (at (asking []) books)
            ∙ ap (λ (s : Service). happens mirrors s last)
            (asked mirrors history workers index old there request plan count count ended some asks [] rest [] share
            books
            parts refl named room)

        -- the mirrors that reject have no room, up to some last event
        for-room : (last : Event) → HaveNoRoom mirrors books asks →
            ((service : Service) → AreForRoom mirrors service (last ∷ [])) →
            AreForRoom mirrors (at (idle seen ended share) books)
            (Enter index ∷ Plan index request tables ∷ (asks_events mirrors index asks ++ last ∷ []))
        for-room last full ends =
            let asked_for =
            for-room-append mirrors (asks_events mirrors index asks) (last ∷ []) (at (asking []) books)
            (asked-for-room mirrors history workers index old there request plan count count ended some asks [] rest
            [] share books parts refl named room full)
            (ends (run happens mirrors (at (asking []) books) (asks_events mirrors index asks))) in (
              tt,
              (
                tt,
                subst (λ (s : Service). AreForRoom mirrors s (asks_events mirrors index asks ++ last ∷ []))
                    (sym (begins [])) asked_for,
              ),
            )

        pub breaks-for-room : HaveNoRoom mirrors books asks →
            AreForRoom mirrors (at (idle seen ended share) books) (events_of mirrors index (Break request tables asks))
        breaks-for-room full = for-room (Drop index) full (λ service. (tt, tt))

        pub replies-for-room : (moment : ℕ) → HaveNoRoom mirrors books asks →
            AreForRoom mirrors (at (idle seen ended share) books)
            (events_of mirrors index (Reply request tables asks moment))
        replies-for-room moment full = for-room (Render index moment) full (λ service. (tt, tt))

        pub breaks :
            run happens mirrors (at (idle seen ended share) books) (events_of mirrors index (Break request tables asks))
            ≡ at (idle count (with_job (planned_job asks)) (share_after share asks)) (books_after books asks)
        breaks =
            begins (asks_events mirrors index asks ++ Drop index ∷ [])
            ∙ asks-all (Drop index)
            ∙ moves mirrors history workers index old there after_drop (asking asks) (books_after books asks)

        -- the ended jobs with the reply
        abbrev pub with_reply : ℕ → List EndedJob
        with_reply moment =
            ended
            ++ record {
              job = planned_job asks;
              rendered = Some (rendered_at mirrors apps moment (pending asks));
            } ∷ []

        pub replies : (moment : ℕ) → is_decided (pending asks) ≡ true →
            run happens mirrors (at (idle seen ended share) books)
            (events_of mirrors index (Reply request tables asks moment))
            ≡ at (idle count (with_reply moment) (share_after share asks)) (books_after books asks)
        replies moment decided =
            begins (asks_events mirrors index asks ++ Render index moment ∷ [])
            ∙ asks-all (Render index moment)
            ∙ moves mirrors history workers index old there (after_rendering mirrors history moment) (asking asks)
            (books_after books asks)
            ∙ ap (λ (w : Worker). at w (books_after books asks))
            (cond-true (is_decided (pending asks))
            (without_job (Some (rendered_at mirrors apps moment (pending asks))) (planned_job asks) (asking asks))
            (asking asks) decided)
