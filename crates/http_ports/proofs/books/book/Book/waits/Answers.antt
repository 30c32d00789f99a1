use Rattle.std.proofs.Common.{◌≡◌, ◌<◌, ◌∙◌, length, None, Some, sym, ap, arith}
use Rattle.http_ports.specs.Loops.{kept_at}
use Rattle.http_ports.proofs.KeptLemmas.{kept_at-is-get_or}
use Rattle.http_ports.specs.Books.{kept_waits}
use Rattle.http_ports.proofs.books.book.Book.waits.Goals as goal

pub returns-in-Some : goal.returns-in-Some
returns-in-Some g c =
    let items = c.args.self.now.places.items in
    let within : c.args.slot < length items = omega (arith, c.requires.within, c.args.self.now.places.ok) in
    let at : kept_at items c.args.slot ≡ Some c.in-Some.place =
    kept_at-is-get_or items c.args.slot c.index.result.now within ∙ sym c.index.ensures ∙ c.in-Some.is in
    sym (ap kept_waits at) ∙ c.args.self.now.tied c.args.slot

pub returns-in-None : goal.returns-in-None
returns-in-None g c =
    let items = c.args.self.now.places.items in
    let within : c.args.slot < length items = omega (arith, c.requires.within, c.args.self.now.places.ok) in
    let at : kept_at items c.args.slot ≡ None =
    kept_at-is-get_or items c.args.slot c.index.result.now within ∙ sym c.index.ensures ∙ c.in-None.is in
    sym (ap kept_waits at) ∙ c.args.self.now.tied c.args.slot
