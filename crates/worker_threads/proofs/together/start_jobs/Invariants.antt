-- The jobs that are left and those that have their threads are those that were handed in.
use Rattle.std.proofs.Common.{◌≡◌, ◌+◌, ◌≤◌, List, ◌++◌, reverse}
use Rattle.std.specs.Prelude.{vec_capacity, vec_len}
use Rattle.std.specs.List.{AllZip}
use Rattle.worker_threads.specs.Jobs.{EndsAs}
use Rattle.worker_threads.specs.Started.{IsStarted}
use Rattle.worker_threads.proofs.together.start_jobs.Given as goal

abbrev pub decreases-loop-job : goal.decreases-loop-job
decreases-loop-job g l = vec_len l.jobs

abbrev pub invariant-loop-job : goal.invariant-loop-job
invariant-loop-job g l =
    ((given : List _) × (l.fn.jobs.items ≡ l.jobs.items ++ given) × AllZip (IsStarted (EndsAs g.J.Job.comes_to) (λ promise. promise.0.value)) (reverse given) l.handles.items)
    × (vec_len l.jobs + vec_len l.handles ≡ vec_len l.fn.jobs)
    × (vec_len l.jobs + vec_len l.handles ≤ vec_capacity l.handles)
