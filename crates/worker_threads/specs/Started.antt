-- Threads that were started; this project's profile.
use Rattle.std.specs.Prelude.{◌≡◌}
use Rattle.worker_threads.specs.declared.started.Started.{Started}
use Rattle.worker_threads.specs.declared.started.Started.TheVariants.{Thread, Here}

-- the thread's promise is about a job; or this came of the job
abbrev pub IsStarted : {J T P : Type 0} → (J → T → Type 0) → (P → J) → J → Started T P → Type 0
IsStarted comes_to job_of job (Thread handle) = job_of handle.promise ≡ job
IsStarted comes_to job_of job (Here result) = comes_to job result

-- the result keeps the thread's promise; or it is what there was
abbrev pub Comes : {T P : Type 0} → (P → T → Type 0) → Started T P → T → Type 0
Comes kept_by (Thread handle) result = kept_by handle.promise result
Comes kept_by (Here was) result = result ≡ was
