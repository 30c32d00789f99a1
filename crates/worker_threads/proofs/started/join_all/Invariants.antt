-- The threads that are left and those that were joined are those that were handed in.
use Rattle.std.proofs.Common.{◌≡◌, ◌+◌, ◌≤◌, List, ◌++◌, reverse}
use Rattle.std.specs.Prelude.{vec_capacity, vec_len}
use Rattle.std.specs.List.{AllZip}
use Rattle.worker_threads.specs.Started.{Comes}
use Rattle.worker_threads.proofs.started.join_all.Given as goal

abbrev pub decreases-loop-started : goal.decreases-loop-started
decreases-loop-started g l = vec_len l.handles

abbrev pub invariant-loop-started : goal.invariant-loop-started
invariant-loop-started g l =
    ((given : List _) × (l.fn.handles.items ≡ l.handles.items ++ given) × AllZip (Comes g.P.Promise.kept_by) (reverse given) l.results.items)
    × (vec_len l.handles + vec_len l.results ≡ vec_len l.fn.handles)
    × (vec_len l.handles + vec_len l.results ≤ vec_capacity l.results)
