use Rattle.std.proofs.Common.{◌≡◌, ◌∙◌, [], ◌∷◌, ◌++◌, append_assoc, ap, arith, length, map, option_to_list, subst, sym}
use Rattle.std.specs.Vec.Iter.{into_iter_items}
use Rattle.std.proofs.lemmas.List.{map-append}
use Rattle.std.proofs.lemmas.List.Elements.{All-push}
use Rattle.publisher.specs.Sights.{Allows}
use Rattle.server_ports.specs.Logging.{those_of}
use Rattle.omaha_server.proofs.SenderLemmas.{those_of-more}
use Rattle.omaha_server.proofs.running.published_ports.Goals as goal

pub loop-visited-preserved : goal.loop-visited-preserved
loop-visited-preserved g c =
    let at = c.loop-visited in
    let one = c.in-Some.visited in
    let steps : into_iter_items at.visited-iterator ≡ one ∷ into_iter_items c.next.new.self = c.in-Some.ensures.steps.0 in
    let short = ap length steps in
    record {
      rest = append_assoc at.yielded (one ∷ []) _ ∙ rw (← steps) at.invariant.rest;
      count =
          let was = at.invariant.count in
          let gone = c.in-Some.ensures.steps.1 in
          omega arith;
      ports =
          c.in-Ok.ensures.port ∙ ap (λ served. at.kept.ports.items ++ served.port ∷ []) c.into_parts-served.ensures.served
          ∙ ap (λ ports. ports ++ one.served.port ∷ []) at.invariant.ports
          ∙ sym (map-append (λ visited. visited.served.port) at.yielded (one ∷ []));
      log =
          c.in-Ok.ensures.log ∙ ap (λ served. at.kept.log.items ++ option_to_list served.log) c.into_parts-served.ensures.served
          ∙ ap (λ log. log ++ option_to_list one.served.log) at.invariant.log
          ∙ sym (those_of-more (map (λ visited. visited.served.log) at.yielded) one.served.log)
          ∙ sym (ap those_of (map-append (λ visited. visited.served.log) at.yielded (one ∷ [])));
      allowed = All-push (λ visited. Allows visited.view c.args.left.now) at.yielded one at.invariant.allowed
          (subst (λ view. Allows view c.args.left.now) c.into_parts-served.ensures.view
          (c.may_enter.ensures c.if-not-may_enter.false));
    }
