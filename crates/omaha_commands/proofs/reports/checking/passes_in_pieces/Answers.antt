use Rattle.std.proofs.Common.{◌≡◌, ◌+◌, rules, length, arith}
use Rattle.price_cert.specs.Rows.{row_at}
use Rattle.price_cert.specs.Rules.{AreCertified}
use Rattle.price_cert.specs.declared.row.Row.TheVariants.{End}
use Rattle.omaha_commands.proofs.UnbrokenLemmas.{AreUnbroken-around}
use Rattle.omaha_commands.proofs.reports.checking.passes_in_pieces.Goals as goal

pub returns-then-eq : goal.returns-then-eq
returns-then-eq g c = λ passes.
    let net = c.args.graph.now in
    let rows = c.args.rows.now in
    let is : row_at rows net.target ≡ End = search rules in
    let parts = c.are_pieces_unbroken.ensures passes in
    record {
      sized = c.requires.sized;
      right = λ from within. AreUnbroken-around net rows 0 (length rows) is parts.0 parts.1 from (omega arith) (omega arith);
    }
