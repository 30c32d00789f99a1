use Rattle.std.proofs.Common.{◌≡◌, ◌-◌, ◌++◌, ℕ, List, length, take, drop, sym, ap, ◌∙◌, arith, rules}
use Rattle.std.proofs.lemmas.List.{length-drop, take_all}
use borrow.Rule.Slice.PartMut.{post_of, same_len_mid}
use Rattle.http_wire.proofs.BytesLemmas.{body-more, take-filled}
use Rattle.http_wire.proofs.KnownLemmas.{Consumes-then}
use Rattle.http_wire.proofs.body.read_body.Goals as goal

pub loop-filled-preserved : goal.loop-filled-preserved
loop-filled-preserved g c =
    let body = c.loop-filled.body in
    let filled = c.loop-filled.filled in
    let count = c.in-Ok.count in
    let got = take count c.read.new.into in
    let window = c.take_waiting-filled.new.window in
    let (fits, (bytes, consumed, cut), waiting, same) = c.loop-filled.invariant in
    let none = waiting c.loop-filled-test.true in
    let long = same_len_mid filled (length body - filled) body c.read.new.into c.read.auto.into in
    let whole = length-drop filled body in
    let some = take_all (length body - filled) (drop filled body) (omega (arith, whole)) in
    let room : length c.read.new.into ≡ length body - filled = c.read.auto.into ∙ ap length some ∙ whole in
    let taken = take-filled body c.read.new.into (post_of filled (length body - filled) body) filled count fits c.in-Ok.ensures.bound in (
      omega (arith, long, c.in-Ok.ensures.bound, room),
      (
        bytes ++ got,
        Consumes-then _ _ _ bytes got consumed c.in-Ok.ensures.bytes.0,
        body-more c.args.window.now bytes got (take filled body) window cut none ∙ sym (ap (λ (front : List ℕ). front ++ window) taken),
      ),
      λ short. none,
      omega (arith, c.in-Ok.ensures.failed, same),
    )

pub returns-in-Ok-eq0-clause-found : goal.returns-in-Ok-eq0-clause-found
returns-in-Ok-eq0-clause-found g c = search rules
