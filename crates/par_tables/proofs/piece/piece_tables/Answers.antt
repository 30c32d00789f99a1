use Rattle.std.proofs.Common.{◌≡◌, ◌+◌, ◌-◌, ◌<◌, zero, List, [], drop, length, take, sym, ap, ◌∙◌, subst, IfOk, arith}
use Rattle.std.proofs.lemmas.List.{drop-take}
use Rattle.payload_graph.specs.declared.payload.TrackKey.{TrackKey}
use Rattle.par_tables.proofs.PieceLemmas.{bound_of-rises}
use Rattle.par_tables.specs.Pieces.{bound_of, piece_of}
use Rattle.par_tables.specs.Tables.{Adds}
use Rattle.par_tables.proofs.piece.piece_tables.Goals as goal

pub returns : goal.returns
returns g c =
    let keys = c.args.keys.now in
    let workers = c.args.workers in
    let piece = c.args.piece in
    let low = c.bound_of-low.result in
    let high = c.bound_of-high.result in
    let inside = c.requires.piece in
    let some : zero < workers = omega arith in
    let low_is : low ≡ bound_of (length keys) workers piece = c.bound_of-low.ensures in
    let high_is : high ≡ bound_of (length keys) workers (piece + 1) = c.bound_of-high.ensures in
    let rises = bound_of-rises (length keys) workers piece some in
    let sum : low + (high - low) ≡ high = omega arith in
    let part : take (high - low) (drop low keys) ≡ piece_of keys workers piece =
    sym (drop-take low (high - low) keys)
    ∙ ap (λ n. drop low (take n keys)) (sum ∙ high_is)
    ∙ ap (λ n. drop n (take (bound_of (length keys) workers (piece + 1)) keys)) low_is in
    subst (λ (ks : List TrackKey). IfOk c.tables_of.result (λ tables. Adds c.args.catalogue.now ks [] tables.items)) part c.tables_of.ensures
