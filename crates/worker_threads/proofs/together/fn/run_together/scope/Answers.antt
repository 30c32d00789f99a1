use Rattle.worker_threads.specs.Jobs.{EndsAs}
use Rattle.worker_threads.proofs.JobLemmas.{ends_of}
use Rattle.worker_threads.proofs.together.fn.run_together.scope.Goals as goal

pub returns : goal.returns
returns g c =
    let each = ends_of (EndsAs g.J.Job.comes_to) (λ promise. promise.0.value) c.captures.jobs.items c.start_jobs-handles.result.items c.join_all.result.items
    c.start_jobs-handles.ensures.started c.join_all.ensures in
    record { each = each; own = c.work_beside-own.ensures; err = tt }
