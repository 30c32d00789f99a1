use Rattle.std.proofs.Common.{◌∙◌, ◌<◌, length, ap, arith}
use Rattle.http_memory.proofs.CountLemmas.{accepted_in-none, peers_in-set}
use Rattle.http_memory.proofs.SlotLemmas.{all_unused, peers_of-set, rewound}
use Rattle.http_memory.proofs.scripts.script.Script.with_terms.Goals as goal

pub loop-slot-preserved : goal.loop-slot-preserved
loop-slot-preserved c =
    let (len, peers, fresh, none, many) = c.loop-slot.invariant in
    let seats = c.loop-slot.seats.items in
    let at = c.loop-slot.slot in
    let within : at < length seats = omega (arith, c.loop-slot-test.true, len, c.loop-slot.seats.ok, c.len-slot-end.ensures) in
    let kept = ap length c.rewind.ensures.peers in (
      len,
      peers_of-set seats at c.index_mut.result.now c.rewind.new.self c.index_mut.ensures.value c.rewind.ensures.peers ∙ peers,
      rewound seats at c.rewind.new.self within c.rewind.ensures.unused fresh,
      accepted_in-none seats at c.rewind.new.self within c.rewind.ensures.none none,
      peers_in-set seats at c.index_mut.result.now c.rewind.new.self within c.index_mut.ensures.value
          (omega (arith, kept, c.rewind.new.self.peers.ok, c.index_mut.result.now.peers.ok)) ∙ many,
    )

pub returns-clause-fresh : goal.returns-clause-fresh
returns-clause-fresh c =
    let (len, peers, fresh, none, many) = c.loop-slot.invariant in
    all_unused c.loop-slot.seats.items
    (λ k below. fresh k (omega (arith, below, len, c.loop-slot-test.false, c.loop-slot.seats.ok, c.len-slot-end.ensures)))
