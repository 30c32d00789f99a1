use Rattle.std.proofs.Common.{◌+◌, ◌≡◌, [], ◌∷◌, ap, arith, length, length-append, subst, sym, take}
use Rattle.std.specs.Prelude.{IfSome}
use Rattle.kept_records.specs.declared.record.Record.{Record}
use Rattle.history.proofs.RowLemmas.{entries_from-take}
use Rattle.history.specs.Tables.{entries_from, entry_of}
use Rattle.history.proofs.reading.read_rows.Goals as goal

pub loop-at-preserved : goal.loop-at-preserved
loop-at-preserved c =
    let at = c.loop-at.at in
    let kept = c.loop-at.kept.items in
    let pushed = c.in_ok-push.ensures.items in
    let is = subst (λ found. IfSome found (λ (next : Record). c.index-rows-at.result ≡ entry_of (c.args.first + at) next)) c.in-Some.is c.in_ok-next.ensures in (
      subst (λ all. take (at + 1) c.args.rows.now ≡ entries_from c.args.first all) (sym pushed)
          (entries_from-take c.args.first at c.args.rows.now kept c.index-rows-at.result c.in-Some.next c.loop-at.invariant.0 c.loop-at.invariant.1 c.loop-at-test.true c.index-rows-at.is is),
      omega (arith, ap length pushed, length-append kept (c.in-Some.next ∷ []), c.loop-at.invariant.1),
    )
