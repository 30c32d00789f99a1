use Rattle.std.proofs.Common.{◌≡◌, ◌<◌, ◌∙◌, length, None, Some, sym, ap, arith}
use Rattle.std.specs.Prelude.{option_map}
use Rattle.http_ports.specs.Loops.{kept_at}
use Rattle.http_ports.proofs.KeptLemmas.{kept_at-is-get_or}
use Rattle.http_ports.specs.declared.books.place.Place.{Place}
use Rattle.http_ports.specs.Books.{slots_after}
use Rattle.http_ports.proofs.PlaceLemmas.{open_within}
use Rattle.http_ports.proofs.books.book.Book.stream.Goals as goal

pub returns-in-Some : goal.returns-in-Some
returns-in-Some g c =
    let items = c.args.self.now.places.items in
    let within : c.args.slot < length items =
    open_within items c.args.slot (slots_after c.args.self.now.moves c.args.slot) (c.args.self.now.tied c.args.slot) c.requires.live in
    let at : kept_at items c.args.slot ≡ Some c.in-Some.place =
    kept_at-is-get_or items c.args.slot c.index.result.now within ∙ sym c.index.ensures ∙ c.in-Some.is in
    sym (ap (λ place. option_map (λ (p : Place _). p.stream) place) at)

pub returns-in-None : goal.returns-in-None
returns-in-None g c =
    let items = c.args.self.now.places.items in
    let within : c.args.slot < length items =
    open_within items c.args.slot (slots_after c.args.self.now.moves c.args.slot) (c.args.self.now.tied c.args.slot) c.requires.live in
    let at : kept_at items c.args.slot ≡ None =
    kept_at-is-get_or items c.args.slot c.index.result.now within ∙ sym c.index.ensures ∙ c.in-None.is in
    sym (ap (λ place. option_map (λ (p : Place _). p.stream) place) at)

pub index-requires : goal.index-requires
index-requires g c =
    omega (
      arith,
      c.args.self.now.places.ok,
      open_within c.args.self.now.places.items c.args.slot (slots_after c.args.self.now.moves c.args.slot)
          (c.args.self.now.tied c.args.slot) c.requires.live,
    )
