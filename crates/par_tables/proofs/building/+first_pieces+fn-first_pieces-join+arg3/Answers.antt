use Rattle.std.proofs.Common.{◌≡◌, ℕ, ◌+◌, ◌-◌, List, [], length, take, sym, subst, arith}
use Rattle.price_cert.specs.Tables.{Certificate}
use Rattle.par_tables.proofs.PieceLemmas.{Adds-piece}
use Rattle.par_tables.specs.Pieces.{bound_of}
use Rattle.par_tables.specs.Tables.{Adds}
use Rattle.par_tables.proofs.building.+first_pieces+fn-first_pieces-join+arg3.Goals as goal

pub returns : goal.returns
returns g t c =
    let apps = c.args.catalogue.now in
    let keys = c.args.listed.now in
    let workers = c.args.workers in
    let last = c.args.pieces - 1 in
    let before = rw c.in_ok-tables.was at c.join-piece.ensures.second in
    let piece = rw c.in_ok-part.was at c.join-piece.ensures.first in
    let some = c.requires.workers in
    let more = c.if-pieces-eq0.false in
    let next : last + 1 ≡ c.args.pieces = omega arith in
    subst (λ (n : ℕ). Adds apps (take (bound_of (length keys) workers n) keys) [] c.append.new.self.items) next
    (subst (λ (tables : List Certificate). Adds apps (take (bound_of (length keys) workers (last + 1)) keys) [] tables) (sym c.in_ok-append.ensures.items)
    (Adds-piece apps keys workers last c.in_ok-tables.tables.items c.in_ok-part.part.items (omega arith) before piece))
