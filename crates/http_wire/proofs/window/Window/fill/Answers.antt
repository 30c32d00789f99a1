use Rattle.std.proofs.Common.{◌≤◌, ◌<◌, ℕ, ◌+◌, ◌-◌, List, ◌++◌, take, drop, ap, sym, subst, ◌∙◌, arith, length, length-drop}
use Rattle.std.proofs.lemmas.List.{length-take-le, take_all, with_items_is}
use borrow.Rule.Slice.PartMut.{post_of, same_len_mid}
use Rattle.http_wire.proofs.BytesLemmas.{take-filled}
use Rattle.http_wire.proofs.window.Window.fill.Goals as goal

pub returns-clause-fills : goal.returns-clause-fills
returns-clause-fills g c =
    let filled = c.self.inside.filled in
    let cells = c.self.inside.cells.items in
    let same = c.deref_mut.ensures.value in
    let fits : filled ≤ length cells = omega (arith, c.self.invariant.0, c.self.invariant.1) in
    let fits_now : filled ≤ length c.deref_mut.result.now = subst (λ (xs : List ℕ). filled ≤ length xs) (sym same) fits in
    let long = ap length c.self.view_is in
    let rest = length-drop filled c.deref_mut.result.now in
    let all : length (drop filled c.deref_mut.result.now) ≤ length c.deref_mut.result.now - filled = omega (arith, rest) in
    let whole = ap length (take_all (length c.deref_mut.result.now - filled) (drop filled c.deref_mut.result.now) all) in
    let many : 16384 ≤ length c.deref_mut.result.now = omega (arith, ap length same, c.self.invariant.0) in
    let room : 0 < length c.read.new.into =
    omega (arith, c.read.auto.into, whole, rest, many, long, c.requires, length-take-le filled cells fits) in
    let rest_now = post_of filled (length c.deref_mut.result.now - filled) c.deref_mut.result.now in
    let written = take filled c.deref_mut.result.now ++ (c.read.new.into ++ rest_now) in
    let as_long = same_len_mid filled (length c.deref_mut.result.now - filled) c.deref_mut.result.now c.read.new.into c.read.auto.into in
    let kept = with_items_is c.self.inside.cells written (as_long ∙ ap length same ∙ sym c.self.inside.cells.ok.0) in
    record {
      bytes = take c.in_ok-count.count c.read.new.into;
      consumed = c.in_ok-count.ensures.bytes.0;
      behind =
          ap (take (filled + c.in_ok-count.count)) kept
          ∙ take-filled c.deref_mut.result.now c.read.new.into rest_now filled c.in_ok-count.count fits_now c.in_ok-count.ensures.bound
          ∙ ap (λ (xs : List ℕ). take filled xs ++ take c.in_ok-count.count c.read.new.into) same
          ∙ ap (λ (xs : List ℕ). xs ++ take c.in_ok-count.count c.read.new.into) c.self.view_is;
      long = length-take-le c.in_ok-count.count c.read.new.into c.in_ok-count.ensures.bound;
      ended = λ none. c.in_ok-count.ensures.bytes.1 none room;
    }
