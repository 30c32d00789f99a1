use Rattle.std.proofs.Common.{[], ◌∷◌, length, append-nil, sym, subst, ap, ◌∙◌, arith}
use Rattle.std.specs.List.{AllZip}
use Rattle.worker_threads.specs.Jobs.{EndsAs}
use Rattle.worker_threads.specs.Started.{IsStarted}
use Rattle.worker_threads.proofs.JobLemmas.{one_less, zip-front}
use Rattle.worker_threads.proofs.together.start_jobs.Goals as goal

pub loop-job-init : goal.loop-job-init
loop-job-init g c =
    let none = ap length c.requires.empty in (
      ([], sym (append-nil c.args.jobs.items), subst (AllZip (IsStarted (EndsAs g.J.Job.comes_to) (λ promise. promise.0.value)) []) (sym c.requires.empty) tt),
      omega (arith, none, c.args.handles.ok.0),
      omega (arith, none, c.args.handles.ok.0, c.requires.room),
    )

pub loop-job-preserved : goal.loop-job-preserved
loop-job-preserved g c =
    let was = c.loop-job.invariant in (
      (
        c.in-Some.job ∷ was.0.0,
        was.0.1 ∙ one_less c.loop-job.jobs.items c.pop.new.self.items c.in-Some.job was.0.0 c.in-Some.ensures.items,
        rw c.push_reserved.ensures.items
            (zip-front (IsStarted (EndsAs g.J.Job.comes_to) (λ promise. promise.0.value)) c.in-Some.job was.0.0 c.start_job.result c.loop-job.handles.items was.0.2 c.start_job.ensures),
      ),
      omega (arith, was.1, c.in-Some.ensures.cases, c.push_reserved.ensures.len),
      omega (arith, was.2, c.in-Some.ensures.cases, c.push_reserved.ensures.len, c.push_reserved.ensures.capacity),
    )
