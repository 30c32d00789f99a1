-- The payloads of a graph have valid sizes, and its windows its own doors.
use Rattle.std.proofs.Common.{◌≡◌, ℕ, ◌+◌, get_or, ap, arith, Bool, true, false, cond, List, [], ◌∷◌, ltb, take, drop}
use Rattle.std.specs.List.{All, filter}
use Rattle.std.proofs.lemmas.List.Elements.{All-append, All-cons, All-drop, All-filter, All-from_get_or, All-head, All-map, All-nil, All-tail, All-take}
use Rattle.catalogue.specs.Forms.{is_size}
use Rattle.payload_graph.specs.Laws.{EdgesAreSized, IsDoorOf, WindowsHoldDoors}
use Rattle.payload_graph.specs.Soundness.{no_door}
use Rattle.payload_graph.specs.Net.{Net, full, fulls, leaves, opens, to_stone, window}
use Rattle.payload_graph.specs.declared.door.Door.{Door}
use Rattle.payload_graph.specs.declared.edge.Edge.{Edge}

-- what holds of all doors holds of those up to the first stone
All-to_stone : (P : Door → Type 0) (doors : List Door) → All P doors → All P (to_stone doors)
All-to_stone P [] all = all
All-to_stone P (door ∷ doors) all =
    All-cons P door (cond door.stone [] (to_stone doors)) (All-head P door doors all)
    (rest door.stone (All-to_stone P doors (All-tail P door doors all)))
  where
    rest : (b : Bool) → All P (to_stone doors) → All P (cond b [] (to_stone doors))
    rest true others = All-nil P
    rest false others = others

-- and of those of each window
All-window-doors : (P : Door → Type 0) (net : Net) (from : ℕ) → All P net.doors → All P (window net from)
All-window-doors P net from all = at (ltb net.target from) net.rollback
  where
    above : (b : Bool) → All P (cond b (take from net.doors) [])
    above true = All-take P from net.doors all
    above false = All-nil P

    at : (b rolls : Bool) →
        All P (cond b (cond rolls (take from net.doors) []) (to_stone (drop (from + 1) (take (net.target + 1) net.doors))))
    at true rolls = above rolls
    at false rolls =
        All-to_stone P (drop (from + 1) (take (net.target + 1) net.doors))
        (All-drop P (from + 1) (take (net.target + 1) net.doors) (All-take P (net.target + 1) net.doors all))

pub edges_are_sized : EdgesAreSized
edges_are_sized net from bounded =
    All-append (λ (edge : Edge). is_size edge.bytes ≡ true) (fulls from (window net from)) (filter (leaves from) net.differs)
    (All-map (λ (edge : Edge). is_size edge.bytes ≡ true) (full from) (filter (opens from) (window net from))
    (All-filter (opens from) (λ (door : Door). is_size door.bytes ≡ true) (window net from)
    (All-window-doors (λ (door : Door). is_size door.bytes ≡ true) net from bounded.doors_sized)))
    (All-filter (leaves from) (λ (edge : Edge). is_size edge.bytes ≡ true) net.differs bounded.differs_sized)

pub windows_hold_doors : WindowsHoldDoors
windows_hold_doors net from numbered =
    All-window-doors (IsDoorOf net) net from
    (All-from_get_or (IsDoorOf net) net.doors no_door (λ k within. record {
      there = let own = numbered k within in omega arith;
      own = ap (λ n. get_or net.doors n no_door) (numbered k within);
    }))
