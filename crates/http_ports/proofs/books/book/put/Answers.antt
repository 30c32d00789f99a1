use Rattle.std.proofs.Common.{◌<◌, ◌∙◌, length, sym, arith}
use Rattle.http_ports.proofs.KeptLemmas.{kept_at-is-get_or, kept_at-set-elsewhere, kept_at-set-here}
use Rattle.http_ports.proofs.books.book.put.Goals as goal

pub returns-clause-took : goal.returns-clause-took
returns-clause-took g c =
    let items = c.args.places.now.items in
    let within : c.args.slot < length items = omega (arith, c.requires, c.args.places.now.ok) in
    c.replace.ensures.value ∙ c.index_mut.ensures.value ∙ sym (kept_at-is-get_or items c.args.slot c.index_mut.result.now within)

pub returns-clause-put : goal.returns-clause-put
returns-clause-put g c =
    let items = c.args.places.now.items in
    let within : c.args.slot < length items = omega (arith, c.requires, c.args.places.now.ok) in
    kept_at-set-here items c.args.slot c.replace.new.dest within ∙ c.replace.ensures.after

pub returns-clause-elsewhere : goal.returns-clause-elsewhere
returns-clause-elsewhere g c = λ k other.
    kept_at-set-elsewhere c.args.places.now.items c.args.slot c.replace.new.dest k other
