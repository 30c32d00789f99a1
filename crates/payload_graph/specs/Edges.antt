-- What is left of the iterators over payloads.
use Rattle.std.specs.Prelude.{List, ◌++◌, map}
use Rattle.std.specs.List.{filter}
use Rattle.payload_graph.specs.Net.{enters, full, fulls, opens}
use Rattle.payload_graph.specs.declared.door.Door.{Door}
use Rattle.payload_graph.specs.declared.edge.Edge.{Edge}
use Rattle.payload_graph.specs.declared.edges.Edges.{Edges}
use Rattle.payload_graph.specs.declared.edges.Fulls.{Fulls}
use Rattle.payload_graph.specs.declared.incoming.DiffersInto.{DiffersInto}
use Rattle.payload_graph.specs.declared.incoming.EdgesInto.{EdgesInto}
use Rattle.payload_graph.specs.declared.incoming.FullsInto.{FullsInto}

-- the full packages that are left
abbrev pub fulls_left : Fulls → List Edge
fulls_left it = fulls it.from it.doors.now

-- the payloads that are left: the full packages, then the differentials
abbrev pub edges_left : Edges → List Edge
edges_left it = fulls_left it.fulls ++ it.differs.now

-- the full packages of a release that are left, by their origins
abbrev pub fulls_into_left : FullsInto → List Edge
fulls_into_left it =
    map (λ (origin : Door). full origin.to it.door)
    (filter (λ (origin : Door). opens origin.to it.door) it.origins.now)

-- the differentials to a release that are left
abbrev pub differs_into_left : DiffersInto → List Edge
differs_into_left it = filter (enters it.to) it.differs.now

-- the payloads to a release that are left: the full packages from lower releases, those from higher ones,
-- the differentials
abbrev pub edges_into_left : EdgesInto → List Edge
edges_into_left it = fulls_into_left it.below ++ fulls_into_left it.above ++ differs_into_left it.differs
