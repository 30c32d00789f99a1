use Rattle.std.proofs.Common.{◌≡◌, ◌∙◌, ◌++◌, [], ◌∷◌, ℕ, append_assoc, ap, arith, if◌then◌else◌, is_some, length, map, refl, suc, sym, vec_len, Some}
use Rattle.std.specs.Vec.Iter.{into_iter_items, into_iter_len}
use Rattle.std.proofs.lemmas.List.Elements.{All-nil, All-pop, All-push}
use Rattle.publisher.specs.Sights.{fresh}
use Rattle.server_ports.specs.Logging.{those_of}
use Rattle.omaha_server.proofs.ClientLemmas.{left_so, lines_all, lines_so, next_so, none_left, still_sized}
use Rattle.omaha_server.proofs.clients.all_clients.Goals as goal

pub loop-port-init : goal.loop-port-init
loop-port-init g c =
    let rest = c.into_iter-port-iterator.ensures.into_iter_gives.0 in
    let none = c.new-jobs.ensures.items in
    let sized : vec_len c.args.senders ≡ length c.args.senders.items = omega (arith, c.args.senders.ok.0) in
    record {
      rest = refl;
      count = search c;
      left = c.requires.many ∙ sym (ap length rest);
      new = rw rest c.requires.new;
      ports = search c;
      jobs = λ history all. (all, rw none (All-nil _));
      lines = search c;
      lined = rw none (All-nil _);
      sized = search c;
      others =
          c.into_iter-senders.ensures.len ∙ sized ∙ c.requires.lined
          ∙ ap (λ (n : ℕ). if is_some c.args.setup.now.place.now.log then n else 0) (sym (ap length rest));
    }

pub loop-port-preserved : goal.loop-port-preserved
loop-port-preserved g c =
    let at = c.loop-port in
    let steps : into_iter_items at.port-iterator ≡ c.in-Some.port ∷ into_iter_items c.next.new.self = c.in-Some.ensures.steps.0 in
    let short = ap length steps in
    let others = rw steps at at.invariant.others in
    let next = next_so (is_some c.args.setup.now.place.now.log) c.next-line.result _ (length (into_iter_items c.next.new.self)) c.next-line.ensures.variant others in
    record {
      rest = append_assoc at.yielded (c.in-Some.port ∷ []) _ ∙ rw (← steps) at.invariant.rest;
      count =
          let was = at.invariant.count in
          let gone = c.in-Some.ensures.steps.1 in
          omega arith;
      left = omega (arith, at.invariant.left, short, c.in-Some-pop.ensures.cases, at.views.ok.0, c.pop.new.self.ok.0);
      new = λ k d below. (rw steps at at.invariant.new) (suc k) d (omega (arith, below));
      ports = c.in_ok-add_clients.ensures.ports ∙ ap (λ ports. ports ++ c.in-Some.port ∷ []) at.invariant.ports;
      jobs = λ history all.
          let (views, jobs) = at.invariant.jobs history all in
          let (others, one) = All-pop (λ sight. sight ≡ fresh history) at.views.items c.pop.new.self.items (Some c.in-Some-pop.view) c.in-Some-pop.ensures.items views in
          (others, (rw one at c.in_ok-add_clients.ensures.clients) jobs);
      lines =
          ap (λ lines. those_of lines ++ into_iter_items c.next-line.new.self) c.in_ok-add_clients.ensures.lines
          ∙ lines_so (map (λ job. job.lines) at.jobs.items) c.next-line.result c.next-line.result (into_iter_items at.senders)
          (into_iter_items c.next-line.new.self) _ refl c.next-line.ensures.items at.invariant.lines;
      lined =
          rw c.in_ok-add_clients.ensures.lines
          (All-push (λ line. is_some line ≡ is_some c.args.setup.now.place.now.log) (map (λ job. job.lines) at.jobs.items)
          c.next-line.result at.invariant.lined next);
      sized = still_sized c.next-line.result (into_iter_items at.senders) (into_iter_items c.next-line.new.self) _ _
          c.next-line.ensures.items c.next-line.ensures.len at.invariant.sized;
      others = left_so (is_some c.args.setup.now.place.now.log) c.next-line.result _ _ (length (into_iter_items c.next.new.self)) next
          c.next-line.ensures.len others;
    }

pub returns-clause-jobs : goal.returns-clause-jobs
returns-clause-jobs g c = λ history all. (c.loop-port.invariant.jobs history all).1

pub returns-clause-lines : goal.returns-clause-lines
returns-clause-lines g c =
    let at = c.loop-port in
    let over : into_iter_len at.port-iterator ≡ 0 = (rw c.in-None.is at c.next.ensures.steps).0 in
    lines_all (map (λ job. job.lines) at.jobs.items) (into_iter_items at.senders) _
    (none_left (is_some c.args.setup.now.place.now.log) (length (into_iter_items at.port-iterator)) _ _
    (omega (arith, over, at.invariant.count)) at.invariant.others at.invariant.sized) at.invariant.lines
