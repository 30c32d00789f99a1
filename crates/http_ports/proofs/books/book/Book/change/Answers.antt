use Rattle.std.proofs.Common.{◌∙◌, arith}
use Rattle.http_ports.specs.Loops.{kept_at}
use Rattle.http_ports.specs.Books.{slots_after}
use Rattle.http_ports.specs.declared.books.moves.Move.TheVariants as move
use Rattle.http_ports.proofs.BookLemmas.{accepted_in-push, changes, tied-push, waits-changed}
use Rattle.http_ports.proofs.PlaceLemmas.{open_within}
use Rattle.http_ports.proofs.books.book.Book.change.Goals as goal

pub invariant_of-self : goal.invariant_of-self
invariant_of-self g c = record {
  tied = rw c.push.ensures
      (tied-push c.args.self.now.places.items c.set_waits.new.places.items c.args.self.now.moves
      (move.Changed c.args.slot c.args.change) c.args.self.now.tied c.set_waits.ensures.elsewhere
      (c.set_waits.ensures.set
      ∙ waits-changed (slots_after c.args.self.now.moves c.args.slot).current (kept_at c.args.self.now.places.items c.args.slot)
      c.args.change c.args.waits c.requires.waiting (c.args.self.now.tied c.args.slot)));
}

pub returns-clause-changes : goal.returns-clause-changes
returns-clause-changes g c = rw c.push.ensures (changes c.args.self.now.moves c.args.slot c.args.change)

pub returns-clause-accepted : goal.returns-clause-accepted
returns-clause-accepted g c =
    rw c.push.ensures (accepted_in-push c.args.self.now.moves (move.Changed c.args.slot c.args.change) ∙ omega arith)

pub set_waits-requires : goal.set_waits-requires
set_waits-requires g c =
    omega (
      arith,
      c.args.self.now.places.ok,
      open_within c.args.self.now.places.items c.args.slot (slots_after c.args.self.now.moves c.args.slot)
          (c.args.self.now.tied c.args.slot) c.requires.live,
    )
