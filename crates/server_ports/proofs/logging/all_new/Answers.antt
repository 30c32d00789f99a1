use Rattle.std.proofs.Common.{◌≡◌, ◌∙◌, [], ◌∷◌, ◌++◌, append_assoc, ap, arith, length}
use Rattle.std.specs.Vec.Iter.{into_iter_items}
use Rattle.std.proofs.lemmas.List.Elements.{All-rest}
use Rattle.access_logs.specs.Logs.{IsFresh}
use Rattle.server_ports.proofs.logging.all_new.Goals as goal

pub loop-sender-preserved : goal.loop-sender-preserved
loop-sender-preserved c =
    let at = c.loop-sender in
    let one = c.in-Some.sender in
    let steps : into_iter_items at.sender-iterator ≡ one ∷ into_iter_items c.next.new.self = c.in-Some.ensures.steps.0 in
    let short = ap length steps in
    record {
      rest = append_assoc at.yielded (one ∷ []) _ ∙ rw (← steps) at.invariant.rest;
      count =
          let was = at.invariant.count in
          let gone = c.in-Some.ensures.steps.1 in
          omega arith;
      made =
          c.in_ok-push.ensures.items ∙ ap (λ sender. at.made.items ++ sender ∷ []) c.of.ensures
          ∙ ap (λ items. items ++ one ∷ []) at.invariant.made;
      fresh = All-rest IsFresh one (into_iter_items c.next.new.self) (into_iter_items at.sender-iterator) steps at.invariant.fresh;
    }
