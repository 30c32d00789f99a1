use Rattle.std.proofs.Common.{◌≡◌, refl, sym, ap, ◌∙◌}
use Rattle.price_cert.proofs.PassLemmas.{AreCertified-passed}
use Rattle.price_cert.specs.Rows.{row_at}
use Rattle.price_cert.specs.declared.row.Row.TheVariants.{End}
use Rattle.price_cert.proofs.passing.passes.Goals as goal

pub returns : goal.returns
returns c = λ passes.
    let ended : row_at c.args.rows.now c.args.graph.now.target ≡ End =
    ap (row_at c.args.rows.now) (sym c.target.ensures.target) ∙ sym c.row_at.ensures ∙ c.if-not-is_same.ensures refl
    in
    AreCertified-passed c.args.graph.now c.args.rows.now c.requires ended (c.if-not-pass_below.ensures refl) (c.pass_above.ensures passes)
