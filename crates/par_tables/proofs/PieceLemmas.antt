-- The tables of the pieces, one after the other, are those of all tracks.
use Rattle.std.proofs.Common.{◌≡◌, ℕ, zero, ◌+◌, ◌*◌, ◌/◌, ◌<◌, ◌≤◌, List, [], ◌++◌, drop, length, map, take, sym, ap, ◌∙◌, subst, arith}
use Rattle.std.proofs.Math.Nat.{div-mul-le_self, le-div_iff_mul-le, mul-div_cancel_left, mul-le-mul_right}
use Rattle.std.proofs.lemmas.List.{map-append, take-append-drop, take-take, take_all}
use Rattle.std.proofs.lemmas.List.Elements.{All-append, filter_map-append}
use Rattle.catalogue.specs.declared.content.App.{App}
use Rattle.payload_graph.specs.declared.payload.TrackKey.{TrackKey}
use Rattle.payload_graph.specs.Net.{Net, net_among}
use Rattle.price_cert.specs.Tables.{Certificate}
use Rattle.par_tables.specs.Pieces.{bound_of, piece_of}
use Rattle.par_tables.specs.Tables.{Adds, IsTable, net_of_table, nets_of}

-- the tables of some tracks, and after them those of others, each made from nothing
Adds-append :
    (apps : List App) (keys others : List TrackKey) (old part : List Certificate) →
    Adds apps keys [] old → Adds apps others [] part → Adds apps (keys ++ others) [] (old ++ part)
Adds-append apps keys others old part first second = record {
  nets =
      map-append net_of_table old part
      ∙ ap (λ (nets : List Net). nets ++ map net_of_table part) first.nets
      ∙ ap (λ (nets : List Net). nets_of apps keys ++ nets) second.nets
      ∙ sym (filter_map-append (net_among apps) keys others);
  certified = λ all. All-append IsTable old part (first.certified all) (second.certified all);
}

div-rises : (a b workers : ℕ) → zero < workers → a ≤ b → a / workers ≤ b / workers
div-rises a b workers some below =
    let whole = div-mul-le_self a workers in
    let fits : a / workers * workers ≤ b = omega arith in
    (le-div_iff_mul-le some).1 fits

-- a piece ends where the next one begins, not before its own beginning
pub bound_of-rises :
    (count workers piece : ℕ) → zero < workers → bound_of count workers piece ≤ bound_of count workers (piece + 1)
bound_of-rises count workers piece some =
    let next : piece ≤ piece + 1 = omega arith in
    div-rises (piece * count) ((piece + 1) * count) workers some (mul-le-mul_right count next)

-- the last one ends after the last track
bound_of-last : (count workers : ℕ) → zero < workers → bound_of count workers workers ≡ count
bound_of-last count workers some = mul-div_cancel_left count some

-- the tracks before a piece, and those of the piece
piece-next :
    (keys : List TrackKey) (workers piece : ℕ) → zero < workers →
    take (bound_of (length keys) workers piece) keys ++ piece_of keys workers piece
    ≡ take (bound_of (length keys) workers (piece + 1)) keys
piece-next keys workers piece some =
    let low = bound_of (length keys) workers piece in
    let high = bound_of (length keys) workers (piece + 1) in
    ap (λ (ks : List TrackKey). ks ++ drop low (take high keys)) (sym (take-take low high keys (bound_of-rises (length keys) workers piece some)))
    ∙ take-append-drop low (take high keys)

-- the tables of one piece more
pub Adds-piece :
    (apps : List App) (keys : List TrackKey) (workers piece : ℕ) (old part : List Certificate) → zero < workers →
    Adds apps (take (bound_of (length keys) workers piece) keys) [] old →
    Adds apps (piece_of keys workers piece) [] part →
    Adds apps (take (bound_of (length keys) workers (piece + 1)) keys) [] (old ++ part)
Adds-piece apps keys workers piece old part some first second =
    subst (λ (ks : List TrackKey). Adds apps ks [] (old ++ part)) (piece-next keys workers piece some)
    (Adds-append apps (take (bound_of (length keys) workers piece) keys) (piece_of keys workers piece) old part first second)

-- the tables of all pieces
pub Adds-pieces :
    (apps : List App) (keys : List TrackKey) (workers piece : ℕ) (tables : List Certificate) → zero < workers → piece ≡ workers →
    Adds apps (take (bound_of (length keys) workers piece) keys) [] tables →
    Adds apps keys [] tables
Adds-pieces apps keys workers piece tables some all adds =
    subst (λ (ks : List TrackKey). Adds apps ks [] tables)
    (ap (λ n. take (bound_of (length keys) workers n) keys) all ∙ ap (λ n. take n keys) (bound_of-last (length keys) workers some) ∙ take_all (length keys) keys (omega arith))
    adds
