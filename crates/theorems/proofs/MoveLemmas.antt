-- Each move of a worker keeps what holds of it.
use Rattle.std.proofs.Common.{◌≡◌, ℕ, ◌+◌, ◌≤◌, ◌&&◌, inl, inr, max, true, false, leb, List, [], ◌∷◌, ◌++◌, length, map, take, Option, None, Some, refl, sym, ap, ◌∙◌, subst, arith}
use Rattle.std.specs.List.{sum_by}
use Rattle.std.specs.Option.{IfSome, is_none, option_map, option_map_or, option_to_list}
use Rattle.std.proofs.lemmas.Bool.{and_parts, cond_both, leb-true}
use Rattle.std.proofs.lemmas.List.{append-nil, map-append}
use Rattle.std.proofs.lemmas.List.Sums.{sum_by_push}
use Rattle.catalogue.specs.Histories.{HistoriesAreValid, History, LeadsTo}
use Rattle.mirror_ledger.specs.Asks.{booked}
use Rattle.omaha_json.specs.declared.request.Request.{Request}
use Rattle.quotes.specs.ByRows.{CertifiedRowsQuote}
use Rattle.catalogue.specs.declared.mirror.Mirror.{Mirror}
use Rattle.theorems.specs.Laws.{TrackGraphsAreGraphs}
use Rattle.theorems.specs.Choices.{Tables, are_certified}
use Rattle.theorems.specs.Jobs.{EndedJob, Job, Pending, Rendered, Worker, granted_for, granted_to, is_decided}
use Rattle.theorems.specs.InterleavingLaws.{EndsWell}
use Rattle.theorems.specs.Moves.{after_drop, after_entry, after_grant, after_news, after_plan, after_rejection, after_rendering, asks_next, begun, is_asking, planned_by, rendered_at, sent, with_outcome, with_pending, without_job}
use Rattle.theorems.specs.Services.{content_at}
use Rattle.theorems.proofs.EventChoiceLemmas.{IsPlan-choices_of}
use Rattle.theorems.proofs.KeptLemmas.{GoesOn, GoesOn-same, IsAfter, IsValid-content, KeepsJob, KeepsPending, KeepsWorker}
use Rattle.theorems.proofs.ListLemmas.{Passes-option_map_or, all-append, none-is}
use Rattle.theorems.proofs.PendingLemmas.{AreOutcomes-by_app, AsksNext-passed, KeepsPending-outcome, KeepsPending-rejection, granted-begun, granted-outcome, granted-rejection}

-- a move of a worker, by which it was granted more of each mirror
pub record IsMove (mirrors : List Mirror) (history : History) (more : ℕ → ℕ) (old new : Worker) : Type 0 where
  pub kept : KeepsWorker mirrors history new
  pub goes : GoesOn old new
  pub shares : (mirror : ℕ) → new.share mirror ≡ old.share mirror + more mirror

-- the jobs that a worker ended
abbrev ended_jobs : Worker → List Job
ended_jobs worker = map (λ (e : EndedJob). e.job) worker.ended

module _ (mirrors : List Mirror) (history : History) (worker : Worker) (keeps : KeepsWorker mirrors history worker)
  where
    abbrev Moves : (ℕ → ℕ) → Worker → Type 0
    Moves more new = IsMove mirrors history more worker new

    -- nothing happens
    still : Moves (λ mirror. 0) worker
    still = record { kept = keeps; goes = GoesOn-same worker; shares = λ mirror. omega arith }

    -- the job of the worker
    kept-job : (job : Job) → worker.job ≡ Some job → KeepsJob mirrors history job
    kept-job job is = subst (λ (o : Option Job). IfSome o (KeepsJob mirrors history)) is keeps.job

    shares-by :
        (job : Option Job) (mirror : ℕ) → worker.job ≡ job →
        worker.share mirror ≡ sum_by (granted_for mirror) (ended_jobs worker ++ option_to_list job)
    shares-by job mirror is =
        keeps.shares mirror ∙ ap
        (λ (o : Option Job). sum_by (granted_for mirror) (ended_jobs worker ++ option_to_list o)) is

    -- the number of the job is one that the worker goes on by
    own-number : (job : Job) → worker.job ≡ Some job → IsAfter worker job.number
    own-number job is = inl (ap (λ (o : Option Job). option_map (λ (j : Job). j.number) o) is)

    pub entry : 1 ≤ length history → Moves (λ mirror. 0) (after_entry (length history) worker)
    entry some =
        let job : Job = record { number = length history; pending = None } in
        let seen = keeps.seen in
        cond_both (is_none worker.job) (record worker { seen = length history; job = Some job }) worker
        (Moves (λ mirror. 0))
        (λ idle. record {
          kept = record {
            seen = omega arith;
            job = record { some = some; published = omega arith; pending = tt };
            ended = keeps.ended;
            shares = λ mirror.
                let old = shares-by None mirror (none-is worker.job idle)
                ∙ ap (sum_by (granted_for mirror)) (append-nil (ended_jobs worker)) in
                let new = sum_by_push (granted_for mirror) (ended_jobs worker) job in
                omega arith;
          };
          goes = record { seen = seen; job = inr seen; later = []; ended = sym (append-nil worker.ended); follow = tt };
          shares = λ mirror. omega arith;
        })
        (λ busy. still)

    pub news : (number : ℕ) → Moves (λ mirror. 0) (after_news (length history) number worker)
    news number =
        let seen = keeps.seen in
        let same = GoesOn-same worker in
        cond_both (is_none worker.job && leb number (length history)) (record worker { seen = max worker.seen number })
        worker (Moves (λ mirror. 0))
        (λ test.
        let low = leb-true number (length history)
        (and_parts (is_none worker.job) (leb number (length history)) test).1 in
        record {
          kept = record { seen = omega arith; job = keeps.job; ended = keeps.ended; shares = keeps.shares };
          goes = record {
            seen = omega arith;
            job = same.job;
            later = [];
            ended = sym (append-nil worker.ended);
            follow = tt;
          };
          shares = λ mirror. omega arith;
        })
        (λ test. still)

    -- the job becomes another one of the same number, for which more was granted
    other_job :
        (job new : Job) (share more : ℕ → ℕ) → worker.job ≡ Some job → new.number ≡ job.number →
        KeepsJob mirrors history new →
        ((mirror : ℕ) → granted_for mirror new ≡ granted_for mirror job + more mirror) →
        ((mirror : ℕ) → share mirror ≡ worker.share mirror + more mirror) →
        Moves more (record worker { job = Some new; share = share })
    other_job job new share more is same keeps_new granted shared =
        record {
          kept = record {
            seen = keeps.seen;
            job = keeps_new;
            ended = keeps.ended;
            shares = λ mirror.
                let old = shares-by (Some job) mirror is in
                let before = sum_by_push (granted_for mirror) (ended_jobs worker) job in
                let after = sum_by_push (granted_for mirror) (ended_jobs worker) new in
                let part = granted mirror in
                let whole = shared mirror in
                omega arith;
          };
          goes = record {
            seen = omega arith;
            job = subst (IsAfter worker) (sym same) (own-number job is);
            later = [];
            ended = sym (append-nil worker.ended);
            follow = tt;
          };
          shares = shared;
        }

    -- the job ends
    ends :
        (rendered : Option Rendered) (job : Job) → worker.job ≡ Some job →
        EndsWell mirrors history (record { job = job; rendered = rendered }) →
        Moves (λ mirror. 0) (without_job rendered job worker)
    ends rendered job is well =
        let e : EndedJob = record { job = job; rendered = rendered } in
        let jobs = map-append (λ (e : EndedJob). e.job) worker.ended (e ∷ []) in
        record {
          kept = record {
            seen = keeps.seen;
            job = tt;
            ended = all-append (EndsWell mirrors history) worker.ended (e ∷ []) keeps.ended (well, tt);
            shares = λ mirror.
                shares-by (Some job) mirror is
                ∙ ap (sum_by (granted_for mirror))
                (sym jobs ∙ sym (append-nil (map (λ (e : EndedJob). e.job) (worker.ended ++ e ∷ []))));
          };
          goes = record {
            seen = omega arith;
            job = tt;
            later = e ∷ [];
            ended = refl;
            follow = (own-number job is, tt);
          };
          shares = λ mirror. omega arith;
        }

    pub drop : Moves (λ mirror. 0) (after_drop worker)
    drop = by_job worker.job refl
      where
        by_job : (job : Option Job) → worker.job ≡ job →
            Moves (λ mirror. 0) (option_map_or (λ (j : Job). without_job None j worker) job worker)
        by_job None is = still
        by_job (Some job) is = ends None job is tt

    -- the reply in the making of the job
    kept-pending : (job : Job) (pending : Pending) → worker.job ≡ Some job → job.pending ≡ Some pending →
        KeepsPending mirrors (content_at history job.number) pending
    kept-pending job pending is pending_is =
        subst (λ (o : Option Pending). IfSome o (KeepsPending mirrors (content_at history job.number))) pending_is
        (kept-job job is).pending

    pub rendering :
        ((number : ℕ) → LeadsTo (take number history) (content_at history number)) →
        (moment : ℕ) → Moves (λ mirror. 0) (after_rendering mirrors history moment worker)
    rendering led moment = by_job worker.job refl
      where
        by_pending : (job : Job) (pending : Option Pending) → worker.job ≡ Some job → job.pending ≡ pending →
            Moves (λ mirror. 0) (option_map_or (sent mirrors history moment worker job) pending worker)
        by_pending job None is pending_is = still
        by_pending job (Some pending) is pending_is =
            let reply = rendered_at mirrors (content_at history job.number) moment pending in
            let own = kept-job job is in
            let kept = kept-pending job pending is pending_is in
            cond_both (is_decided pending) (without_job (Some reply) job worker) worker (Moves (λ mirror. 0))
            (λ decided.
            ends (Some reply) job is
            (record {
              some = own.some;
              published = own.published;
              led = led job.number;
              pending = pending;
              planned = pending_is;
              decided = decided;
              reply_is = record {
                planned = kept.planned;
                decided = AreOutcomes-by_app mirrors pending.choices pending.outcomes kept.named;
                is = refl;
              };
            }))
            (λ undecided. still)

        by_job : (job : Option Job) → worker.job ≡ job →
            Moves (λ mirror. 0)
            (option_map_or (λ (j : Job). option_map_or (sent mirrors history moment worker j) j.pending worker) job
            worker)
        by_job None is = still
        by_job (Some job) is = by_pending job job.pending is refl

    -- the reply in the making becomes another one, for which more was granted
    other_pending :
        (change : Pending → Pending) (share more : ℕ → ℕ) (job : Job) (pending : Pending) →
        worker.job ≡ Some job → job.pending ≡ Some pending →
        KeepsPending mirrors (content_at history job.number) (change pending) →
        ((mirror : ℕ) → granted_to mirror (change pending) ≡ granted_to mirror pending + more mirror) →
        ((mirror : ℕ) → share mirror ≡ worker.share mirror + more mirror) →
        Moves more (record (with_pending change worker) { share = share })
    other_pending change share more job pending is pending_is keeps_pending granted shared =
        let own = kept-job job is in
        let apps = content_at history job.number in
        let new : Job = record job { pending = option_map change job.pending } in
        let old_part = λ (mirror : ℕ). ap (λ (o : Option Pending). option_map_or (granted_to mirror) o 0) pending_is in
        let new_part = λ (mirror : ℕ). ap
        (λ (o : Option Pending). option_map_or (granted_to mirror) (option_map change o) 0) pending_is in
        subst
        (λ (o : Option Job). Moves more
        (record worker {
          job = option_map (λ (j : Job). record j { pending = option_map change j.pending }) o;
          share =
              share;
        }))
        (sym is)
        (other_job job new share more is refl
        (record {
          some = own.some;
          published = own.published;
          pending = subst (λ (o : Option Pending). IfSome (option_map change o) (KeepsPending mirrors apps))
              (sym pending_is) keeps_pending;
        })
        (λ mirror. new_part mirror ∙ granted mirror ∙ ap (λ n. n + more mirror) (sym (old_part mirror)))
        shared)

    module _ (mirror bytes : ℕ) (asking : is_asking mirrors mirror bytes worker ≡ true) where
      -- what the asking job is
      record Asking : Type 0 where
        job : Job
        pending : Pending
        is : worker.job ≡ Some job
        pending_is : job.pending ≡ Some pending
        asks : asks_next mirrors mirror bytes pending ≡ true

      own-asking : Asking
      own-asking =
          let has = Passes-option_map_or
          (λ (job : Job). option_map_or (asks_next mirrors mirror bytes) job.pending false) worker.job asking in
          let next = Passes-option_map_or (asks_next mirrors mirror bytes) has.item.pending has.passed in
          record { job = has.item; pending = next.item; is = has.is; pending_is = next.is; asks = next.passed }

      pub grant : Moves (λ m. booked m bytes (Some mirror)) (after_grant mirror bytes worker)
      grant =
          let own = own-asking in
          let next = AsksNext-passed mirrors mirror bytes own.pending own.asks in
          other_pending (with_outcome (Some mirror)) (λ m. worker.share m + booked m bytes (Some mirror))
          (λ m. booked m bytes (Some mirror))
          own.job own.pending own.is own.pending_is
          (KeepsPending-outcome mirrors (content_at history own.job.number) (Some mirror) own.pending next.within
          (kept-pending own.job own.pending own.is own.pending_is))
          (λ m. granted-outcome m bytes (Some mirror) own.pending next.next) (λ m. refl)

      pub rejection : Moves (λ m. 0) (with_pending (after_rejection mirrors mirror) worker)
      rejection =
          let own = own-asking in
          let next = AsksNext-passed mirrors mirror bytes own.pending own.asks in
          other_pending (after_rejection mirrors mirror) worker.share (λ m. 0) own.job own.pending own.is own.pending_is
          (KeepsPending-rejection mirrors (content_at history own.job.number) mirror own.pending
          (kept-pending own.job own.pending own.is own.pending_is))
          (λ m. granted-rejection mirrors m mirror bytes own.pending next.next) (λ m. omega arith)

    module _ (quotes : CertifiedRowsQuote) (graphs : TrackGraphsAreGraphs) (are_valid : HistoriesAreValid)
        (request : Request) (tables : Tables) where
      pub plan : Moves (λ mirror. 0) (after_plan history request tables worker)
      plan = by_job worker.job refl
        where
          planned-job : (job : Job) → worker.job ≡ Some job →
              Moves (λ mirror. 0) (record worker
              { job = Some (planned_by (content_at history job.number) request tables job) })
          planned-job job is =
              let apps = content_at history job.number in
              let own = kept-job job is in
              let new : Job = record job { pending = Some (begun apps request tables) } in
              cond_both (is_none job.pending && are_certified apps request tables) new job
              (λ (j : Job). Moves (λ mirror. 0) (record worker { job = Some j }))
              (λ test.
              let parts = and_parts (is_none job.pending) (are_certified apps request tables) test in
              let none = none-is job.pending parts.0 in
              other_job job new worker.share (λ mirror. 0) is refl
              (record {
                some = own.some;
                published = own.published;
                pending = record {
                  planned = IsPlan-choices_of quotes graphs apps (IsValid-content are_valid (take job.number history))
                      request tables parts.1;
                  named = tt;
                };
              })
              (λ mirror.
              let nothing = granted-begun mirror apps request tables in
              let before = ap (λ (o : Option Pending). option_map_or (granted_to mirror) o 0) none in
              omega arith)
              (λ mirror. omega arith))
              (λ test. subst (λ (o : Option Job). Moves (λ mirror. 0) (record worker { job = o })) is still)

          by_job : (job : Option Job) → worker.job ≡ job →
              Moves (λ mirror. 0)
              (record worker {
                job = option_map (λ (j : Job). planned_by (content_at history j.number) request tables j)
                    job;
              })
          by_job None is = subst (λ (o : Option Job). Moves (λ mirror. 0) (record worker { job = o })) is still
          by_job (Some job) is = planned-job job is
