use Rattle.std.proofs.Common.{◌≡◌, ◌∙◌, ◌+◌, ◌-◌, length, refl, arith}
use Rattle.std.specs.List.{All, range_with_len}
use Rattle.rayon.specs.Numbers.{nat_range}
use Rattle.omaha_commands.specs.Pieces.{AreUnbroken, IsPieceUnbroken}
use Rattle.omaha_commands.proofs.UnbrokenLemmas.{AreUnbroken-pieces}
use Rattle.omaha_commands.proofs.reports.checking.are_pieces_unbroken.Goals as goal

pub returns : goal.returns
returns g c = λ holds.
    let done = c.all.ensures in
    let ends = c.into_par_iter.ensures in
    let base = c.with_min_len.ensures.base in
    let net = c.args.graph.now in
    let rows = c.args.rows.now in
    let each = rw holds at done.2 in
    let places : done.0 ≡ range_with_len 0 2 =
    done.1 ∙ (λ i. nat_range (base i).start (base i).end) ∙ (λ i. nat_range (ends.0 i) (ends.1 i))
    in
    let listed : All (IsPieceUnbroken net rows) done.0 = λ k d lt. each k d lt refl in
    let pieces : All (IsPieceUnbroken net rows) (range_with_len 0 2) = rw places at listed in (
      (λ from after before.
          AreUnbroken-pieces net rows 0 net.target
          (λ k d lt index low high. (pieces k d lt).below index (omega arith) (omega arith))
          from after (omega arith)),
      (λ from after before.
          AreUnbroken-pieces net rows (net.target + 1) (length rows - net.target - 1)
          (λ k d lt. (pieces k d lt).above)
          from after (omega arith)),
    )
