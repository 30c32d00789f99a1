use Rattle.std.proofs.Common.{◌+◌, ◌-◌, ◌||◌, sym, ap, ◌∙◌, arith, drop, length}
use Rattle.std.proofs.lemmas.List.{take_all, length-drop}
use Rattle.http_wire.specs.Closing.{is_close, lists_close}
use Rattle.http_wire.proofs.ClosingLemmas.{lists_close-comma, lists_close-whole, no_comma-more}
use Rattle.http_wire.proofs.heads.closing.lists_close.Goals.{then-value-end-eq44+else-is_close, else-value-end-eq44}
use Rattle.http_wire.proofs.heads.closing.lists_close.Goals as goal

pub returns-then-is_close : goal.returns-then-is_close
returns-then-is_close c =
    let value = c.args.value.now in
    let split = lists_close-comma value c.loop-end.start c.loop-end.end c.loop-end.invariant.0 c.loop-end-test.true
    c.if-value-end-eq44.true c.loop-end.invariant.1 in
    let here = sym c.is_close.ensures ∙ c.if-is_close.true in
    sym (sym c.loop-end.invariant.2 ∙ split ∙ ap (λ b. b || lists_close (drop (c.loop-end.end + 1) value)) here)

pub loop-end-preserved : goal.loop-end-preserved
loop-end-preserved c =
    elim c.if-value-end-eq44.branch [
      | then-value-end-eq44+else-is_close w ↦ (
          let value = c.args.value.now in
          let split = lists_close-comma value c.loop-end.start c.loop-end.end c.loop-end.invariant.0 c.loop-end-test.true
          w.if-value-end-eq44.true c.loop-end.invariant.1 in
          let here = sym w.is_close.ensures ∙ w.if-is_close.false in
          let rest = ap (λ b. b || lists_close (drop (c.loop-end.end + 1) value)) here in
          rw w.start-is (
            omega arith,
            λ k from below same. absurd (omega arith),
            sym rest ∙ sym split ∙ c.loop-end.invariant.2,
          )
          )
      | else-value-end-eq44 w ↦ (
          rw w.start-is (
            omega arith,
            no_comma-more c.args.value.now c.loop-end.start c.loop-end.end c.loop-end.invariant.1 w.if-value-end-eq44.false,
            c.loop-end.invariant.2,
          )
          )
    ]

pub returns : goal.returns
returns c =
    let value = c.args.value.now in
    let start = c.loop-end.start in
    let whole = take_all (length value - start) (drop start value) (omega (arith, length-drop start value)) in
    sym (sym c.loop-end.invariant.2
    ∙ lists_close-whole value c.loop-end.start (λ k from below. c.loop-end.invariant.1 k from (omega arith))
    ∙ sym (c.is_close-2.ensures ∙ ap is_close whole))
