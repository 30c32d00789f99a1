use Rattle.std.proofs.Common.{◌≤◌, ◌-◌, take, drop, ap, ◌∙◌, arith, length}
use Rattle.std.proofs.lemmas.List.{length-take-le}
use Rattle.http_wire.proofs.BytesLemmas.{take-moved}
use Rattle.http_wire.proofs.window.Window.discard.Goals as goal

pub returns : goal.returns
returns c =
    let filled = c.self.inside.filled in
    let cells = c.self.inside.cells.items in
    let fits : filled ≤ length cells = omega (arith, c.self.invariant.0, c.self.invariant.1) in
    let long = ap length c.self.view_is in
    let within : c.args.count ≤ filled = omega (arith, c.requires, long, length-take-le filled cells fits) in
    ap (take (filled - c.args.count)) c.copy_within.ensures.items
    ∙ take-moved cells filled c.args.count within fits
    ∙ ap (drop c.args.count) c.self.view_is
