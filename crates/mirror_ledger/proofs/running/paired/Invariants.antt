-- The pairs so far are of the jobs so far, with tills that are no longer left.
use Rattle.std.proofs.Common.{◌≡◌, ◌++◌, All, Bool, List, length, map}
use Rattle.std.specs.Vec.Iter.{into_iter_items, into_iter_len}
use Rattle.catalogue.specs.declared.mirror.Mirror.{Mirror}
use Rattle.mirror_ledger.specs.Tills.{IsFresh}
use Rattle.mirror_ledger.proofs.running.paired.Given as goal

abbrev pub invariant-loop-job : goal.invariant-loop-job
invariant-loop-job g l = record {
  rest : l.yielded ++ into_iter_items l.job-iterator ≡ into_iter_items l.initial.job-iterator;
  count : into_iter_len l.job-iterator ≡ length (into_iter_items l.job-iterator);
  left : length l.tills.items ≡ length (into_iter_items l.job-iterator);
  jobs : map (λ pair. pair.job) l.pairs.items ≡ l.yielded;
  fresh : (single : Bool) (mirrors : List Mirror) → All (IsFresh g.T.Till.mirrors g.T.Till.asks g.T.Till.alone single mirrors) l.fn.tills.items
      → All (IsFresh g.T.Till.mirrors g.T.Till.asks g.T.Till.alone single mirrors) l.tills.items
      × All (λ pair. IsFresh g.T.Till.mirrors g.T.Till.asks g.T.Till.alone single mirrors pair.till) l.pairs.items;
}
