use Rattle.std.proofs.Common.{◌≡◌, ◌∙◌, ◌+◌, ◌++◌, ℕ, List, take, drop, length, length-append, refl, sym, ap, arith}
use Rattle.std.proofs.Math.Seq.{take-add}
use Rattle.std.proofs.lemmas.Grind.{common_steps}
use Rattle.std.proofs.lemmas.List.{take_at}
use Rattle.http_ports.specs.declared.last.Last.TheVariants.{Passed}
use Rattle.http_memory.proofs.scripts.peer.Peer.read.Goals as goal

pub returns-clause-gives : goal.returns-clause-gives
returns-clause-gives c =
    let peer = c.args.self.now in
    let items = peer.input.items in
    let count = c.min-count.result in
    let rest = drop count c.args.into.now in
    let copied : c.copy_from_slice.new.self ≡ take count (drop peer.read items) =
    grind (arith, common_steps, c.copy_from_slice.ensures.after, c.deref.ensures.value) in
    let long : length c.copy_from_slice.new.self ≡ count =
    grind (arith, common_steps, c.copy_from_slice.ensures.len, c.min-count.ensures, c.min.ensures) in
    let came : take (peer.read + count) items ≡ take peer.read items ++ take count (c.copy_from_slice.new.self ++ rest) =
    take-add peer.read count items
    ∙ ap (λ (bytes : List ℕ). take peer.read items ++ bytes) (sym (take_at c.copy_from_slice.new.self rest count long ∙ copied)) in
    record {
      fits = (
        grind (arith, common_steps, c.min-count.ensures, c.min.ensures, c.max.ensures, c.if-self-len.false, c.len.ensures, peer.within, peer.input.ok),
        omega (arith, length-append c.copy_from_slice.new.self rest, long),
      );
      traffic = ap
          (λ (bytes : List ℕ). record {
            received = bytes;
            sent = peer.got.items;
            timestamps = peer.timestamps;
            last = Passed;
            expired = peer.expired;
          }) came;
      input = refl;
    }
