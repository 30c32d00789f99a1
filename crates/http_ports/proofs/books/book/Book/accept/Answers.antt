use Rattle.std.proofs.Common.{ap}
use Rattle.http_ports.specs.Books.{kept_waits}
use Rattle.http_ports.specs.declared.books.moves.Move.TheVariants as move
use Rattle.http_ports.proofs.BookLemmas.{accepted_in-push, slots_after-elsewhere, slots_after-here, tied-push}
use Rattle.http_ports.proofs.books.book.Book.accept.Goals as goal

pub invariant_of-self : goal.invariant_of-self
invariant_of-self g c = record {
  tied = rw c.push.ensures
      (tied-push c.args.self.now.places.items c.put.new.places.items c.args.self.now.moves (move.Accepted c.args.slot)
      c.args.self.now.tied c.put.ensures.elsewhere (ap kept_waits c.put.ensures.put));
}

pub returns-clause-accepts : goal.returns-clause-accepts
returns-clause-accepts g c = rw c.push.ensures (slots_after-here c.args.self.now.moves (move.Accepted c.args.slot))

pub returns-clause-elsewhere : goal.returns-clause-elsewhere
returns-clause-elsewhere g c = rw c.push.ensures (slots_after-elsewhere c.args.self.now.moves (move.Accepted c.args.slot))

pub returns-clause-accepted : goal.returns-clause-accepted
returns-clause-accepted g c = rw c.push.ensures (accepted_in-push c.args.self.now.moves (move.Accepted c.args.slot))
