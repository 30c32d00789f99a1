use Rattle.std.proofs.Common.{[], ◌∷◌, length, append-nil, sym, subst, ap, ◌∙◌, arith}
use Rattle.std.specs.List.{AllZip}
use Rattle.worker_threads.specs.Started.{Comes}
use Rattle.worker_threads.proofs.JobLemmas.{one_less, zip-front}
use Rattle.worker_threads.proofs.started.join_all.Goals as goal

pub loop-started-init : goal.loop-started-init
loop-started-init g c =
    let none = ap length c.requires.empty in (
      ([], sym (append-nil c.args.handles.items), subst (AllZip (Comes g.P.Promise.kept_by) []) (sym c.requires.empty) tt),
      omega (arith, none, c.args.results.ok.0),
      omega (arith, none, c.args.results.ok.0, c.requires.room),
    )

pub loop-started-preserved : goal.loop-started-preserved
loop-started-preserved g c =
    let was = c.loop-started.invariant in (
      (
        c.in-Some.started ∷ was.0.0,
        was.0.1 ∙ one_less c.loop-started.handles.items c.pop.new.self.items c.in-Some.started was.0.0 c.in-Some.ensures.items,
        rw c.push_reserved.ensures.items
            (zip-front (Comes g.P.Promise.kept_by) c.in-Some.started was.0.0 c.join.result c.loop-started.results.items was.0.2 c.join.ensures),
      ),
      omega (arith, was.1, c.in-Some.ensures.cases, c.push_reserved.ensures.len),
      omega (arith, was.2, c.in-Some.ensures.cases, c.push_reserved.ensures.len, c.push_reserved.ensures.capacity),
    )
