use Rattle.std.proofs.Common.{◌∙◌, ◌++◌, ℕ, List, [], ◌∷◌, Option, refl, sym, subst, arith}
use Rattle.http_ports.specs.Traffic.{Changes, timing}
use Rattle.http_ports.specs.Books.{slots_after}
use Rattle.http_ports.specs.declared.books.moves.Change.TheVariants as change
use Rattle.http_ports.specs.declared.books.moves.Move.TheVariants as move
use Rattle.http_ports.proofs.BookLemmas.{accepted_in-push, changes, tied-push, waits-kept}
use Rattle.http_ports.proofs.books.book.Book.note_time.Goals as goal

pub invariant_of-self : goal.invariant_of-self
invariant_of-self g c = record {
  tied = rw c.push.ensures
      (tied-push c.args.self.now.places.items c.args.self.now.places.items c.args.self.now.moves
      (move.Changed c.args.slot (change.Timed c.args.seconds c.trace_waiting.result)) c.args.self.now.tied (λ k other. refl)
      (c.args.self.now.tied c.args.slot ∙ sym (waits-kept (slots_after c.args.self.now.moves c.args.slot) c.args.slot (change.Timed c.args.seconds c.trace_waiting.result) (λ traffic. refl))));
}

pub returns-clause-changes : goal.returns-clause-changes
returns-clause-changes g c =
    let change = change.Timed c.args.seconds c.trace_waiting.result in
    rw c.push.ensures
    (subst
    (λ (waiting : Option (List ℕ)). Changes c.args.slot (timing c.args.seconds waiting) (slots_after c.args.self.now.moves)
    (slots_after (c.args.self.now.moves ++ move.Changed c.args.slot change ∷ [])))
    c.trace_waiting.ensures (changes c.args.self.now.moves c.args.slot change))

pub returns-clause-accepted : goal.returns-clause-accepted
returns-clause-accepted g c =
    rw c.push.ensures (accepted_in-push c.args.self.now.moves (move.Changed c.args.slot (change.Timed c.args.seconds c.trace_waiting.result)) ∙ omega arith)
