use Rattle.std.proofs.Common.{◌∙◌, ap, arith}
use Rattle.http_ports.specs.Books.{kept_waits, slots_after}
use Rattle.http_ports.specs.declared.books.moves.Move.TheVariants as move
use Rattle.http_ports.proofs.BookLemmas.{accepted_in-push, closes, tied-push}
use Rattle.http_ports.proofs.PlaceLemmas.{open_within}
use Rattle.http_ports.proofs.books.book.Book.close.Goals as goal

pub invariant_of-self : goal.invariant_of-self
invariant_of-self g c = record {
  tied = rw c.push.ensures
      (tied-push c.args.self.now.places.items c.put-closed.new.places.items c.args.self.now.moves (move.Closed c.args.slot)
      c.args.self.now.tied c.put-closed.ensures.elsewhere (ap kept_waits c.put-closed.ensures.put));
}

pub returns-clause-closes : goal.returns-clause-closes
returns-clause-closes g c = rw c.push.ensures (closes c.args.self.now.moves c.args.slot)

pub returns-clause-accepted : goal.returns-clause-accepted
returns-clause-accepted g c =
    rw c.push.ensures (accepted_in-push c.args.self.now.moves (move.Closed c.args.slot) ∙ omega arith)

pub put-closed-requires : goal.put-closed-requires
put-closed-requires g c =
    omega (
      arith,
      c.args.self.now.places.ok,
      open_within c.args.self.now.places.items c.args.slot (slots_after c.args.self.now.moves c.args.slot)
          (c.args.self.now.tied c.args.slot) c.requires.live,
    )
