-- What the loop over the releases keeps: the windows' ends from a release up to the target.
use Rattle.std.proofs.Common.{◌≡◌, ℕ, ◌+◌, ◌≤◌, List, length, get_or}
use Rattle.payload_graph.specs.Soundness.{reach_of}
use Rattle.payload_graph.specs.declared.door.Door.{Door}

pub record HasReaches (target : ℕ) (doors : List Door) (first : ℕ) (reaches : List ℕ) : Type 0 where
  pub sized : length reaches ≡ target + 1
  pub right : (from : ℕ) → first ≤ from → from ≤ target → get_or reaches from 0 ≡ reach_of target doors from
