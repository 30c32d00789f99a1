use Rattle.std.proofs.Common.{◌≡◌, ◌<◌, map, length, arith, rules, sym, ◌∙◌}
use Rattle.std.proofs.lemmas.List.{length-map}
use Rattle.std.specs.Arc.{arc_value}
use Rattle.publisher.proofs.ListLemmas.{get_or-value, take-more_same, take-rest, value-beginning}
use Rattle.publisher.proofs.histories.starts_with.Goals as goal

pub returns-then-not-is_same : goal.returns-then-not-is_same
returns-then-not-is_same c =
    let later = c.args.later.now in
    let earlier = c.args.earlier.now in
    let index = c.loop-index.index in
    let one = c.index-later-index.result in
    let other = c.index-earlier-index.result in
    let in_later : index < length later = omega (arith, c.loop-index-test.true, c.if-later-earlier.false) in
    let in_earlier = c.loop-index-test.true in
    let of_one = c.index-later-index.is in
    let of_other = c.index-earlier-index.is in
    let differ = c.if-not-is_same.true in (
      (λ is_true. search rules),
      (λ starts.
          let same = value-beginning arc_value later earlier starts.0 index one other starts.1 in_later in_earlier of_one of_other in
          grind (arith, same, c.deref.ensures, c.deref-in-loop-index.ensures, c.is_same.ensures, differ)),
    )

pub loop-index-preserved : goal.loop-index-preserved
loop-index-preserved c =
    let later = c.args.later.now in
    let earlier = c.args.earlier.now in
    let one = c.index-later-index.result in
    let other = c.index-earlier-index.result in
    let index = c.loop-index.index in
    let in_later : index < length later = omega (arith, c.loop-index-test.true, c.if-later-earlier.false) in
    let equal = c.if-not-is_same.false in
    let same : arc_value one ≡ arc_value other =
    grind (arith, c.deref.ensures, c.deref-in-loop-index.ensures, c.is_same.ensures, equal)
    in
    take-more_same (map arc_value later) (map arc_value earlier) index (arc_value one)
    (rw (length-map later arc_value) in_later)
    (rw (length-map earlier arc_value) c.loop-index-test.true)
    c.loop-index.invariant
    (get_or-value arc_value later index one (arc_value one) in_later c.index-later-index.is
    ∙ same
    ∙ sym (get_or-value arc_value earlier index other (arc_value one) c.loop-index-test.true c.index-earlier-index.is))

pub returns : goal.returns
returns c = (
  (λ is_true. take-rest (map arc_value c.args.later.now) (map arc_value c.args.earlier.now) c.loop-index.index
      (rw (length-map c.args.earlier.now arc_value) c.loop-index-test.false)
      c.loop-index.invariant),
  (λ starts. search rules),
)
