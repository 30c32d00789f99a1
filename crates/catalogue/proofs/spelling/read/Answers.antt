use Rattle.std.proofs.Common.{◌≤◌, ◌∙◌, [], ◌∷◌, ◌++◌, ap, arith, length, lit<, sym}
use Rattle.std.proofs.lemmas.Iterator.Consumers.{YieldsList-end, YieldsList-turn}
use Rattle.std.proofs.lemmas.Iterator.Splits.{YieldsList-from_str_split}
use Rattle.std.proofs.lemmas.List.{length-map, map-append}
use Rattle.catalogue.specs.Versions.{max_components, number_in, numbers_of, parts_of}
use Rattle.catalogue.proofs.ReadingLemmas.{HasRead-push}
use Rattle.catalogue.proofs.SpellingLemmas.{components_of_many, components_of_none, components_of_some, numbers_of_none}
use Rattle.catalogue.proofs.spelling.read.Goals as goal

pub returns-then-count-most : goal.returns-then-count-most
returns-then-count-most c =
    let turn = YieldsList-turn (YieldsList-from_str_split 46 c.args.text.now (lit< tt) (cc) (cc) (cc)) c.loop-part.yielded _ c.loop-part.yielded_by _ _ c.in-Some.part c.in-Some.is c.next.ensures.steps in
    let so_far = c.loop-part.invariant.1 in
    sym (components_of_many c.args.form c.args.text.now (omega (arith, turn.0, so_far.passed, length-map c.loop-part.yielded (λ part. part.now))))

pub returns-in_err-components : goal.returns-in_err-components
returns-in_err-components c =
    let turn = YieldsList-turn (YieldsList-from_str_split 46 c.args.text.now (lit< tt) (cc) (cc) (cc)) c.loop-part.yielded _ c.loop-part.yielded_by _ _ c.in-Some.part c.in-Some.is c.next.ensures.steps in
    let fails = ap (number_in c.args.form) (sym turn.1) ∙ sym c.in_err-components.ensures in
    c.from_residual.ensures
    ∙ sym (components_of_none c.args.form c.args.text.now (numbers_of_none c.args.form (parts_of c.args.text.now) (length c.loop-part.yielded) c.in-Some.part.now turn.0 fails))

pub loop-part-preserved : goal.loop-part-preserved
loop-part-preserved c =
    let numbers = c.loop-part.invariant.0 in
    let so_far = c.loop-part.invariant.1 in
    let number = c.in_ok-components.field-0 in
    let more = HasRead-push _ _ _ _ numbers c.in-Some.part.now number so_far (omega arith) (sym c.in_ok-components.ensures) in
    (numbers ++ number ∷ [], rw map-append more)

pub returns : goal.returns
returns c =
    let all = YieldsList-end (YieldsList-from_str_split 46 c.args.text.now (lit< tt) (cc) (cc) (cc)) c.loop-part.yielded _ c.loop-part.yielded_by _ _ c.in-None.is c.next.ensures.steps in
    let so_far = c.loop-part.invariant.1 in
    let spelled = ap (numbers_of c.args.form) (sym all.0) ∙ so_far.spelled in
    let few : length (parts_of c.args.text.now) ≤ max_components c.args.form = omega (arith, all.1, so_far.passed, so_far.within, length-map c.loop-part.yielded (λ part. part.now)) in
    rw (so_far.kept, so_far.counted) (sym (components_of_some c.args.form c.args.text.now c.loop-part.invariant.0 few spelled))
