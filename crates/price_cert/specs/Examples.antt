-- Tables of a small app, worked by hand: releases 1.0, the stone 2.0, 3.0 and 4.0.
use Rattle.std.specs.Prelude.{◌≡◌, Bool, true, false, List, [], ◌∷◌, map, Option, None, Some}
use Rattle.std.specs.List.{range_with_len}
use Rattle.cohorts.specs.declared.track.Lane.TheVariants as lane
use Rattle.payload_graph.specs.Examples.{beta, demo, floored, key_of, stable}
use Rattle.payload_graph.specs.Net.{Net, net_of}
use Rattle.payload_graph.specs.declared.edge.Kind.TheVariants.{Full, Differ}
use Rattle.price_cert.specs.Rules.{broken_at}
use Rattle.price_cert.specs.declared.row.Row.{Row}
use Rattle.price_cert.specs.declared.row.Row.TheVariants.{Nothing, End, Price}
use Rattle.price_cert.specs.declared.rules.Rule.{Rule}
use Rattle.price_cert.specs.declared.rules.Rule.TheVariants.{C1, C2, C3}

-- the graph of the default cohort, to 4.0; of its held clients, to 3.0; of the cohort that rolls back
abbrev pub upward : Net
upward = net_of demo (key_of 0 lane.Target false) stable 3

abbrev pub held : Net
held = net_of demo (key_of 0 lane.Held false) stable 2

abbrev pub rollback : Net
rollback = net_of demo (key_of 1 lane.Target true) beta 2

-- the first with the floor 3.0 at 4.0, and 3.0 withdrawn or not
abbrev pub from_floor : Bool → Net
from_floor withdrawn = net_of (floored 0 3 withdrawn) (key_of 0 lane.Target false) stable 3

-- the rule that each row breaks, by ascending version
abbrev pub broken : Net → List Row → List (Option Rule)
broken net rows = map (broken_at net rows) (range_with_len 0 4)

-- no row breaks one
abbrev pub none : List (Option Rule)
none = None ∷ None ∷ None ∷ None ∷ []

-- five certified tables, two of them with a floor, and wrong ones: a price too low, one too high, none, a
-- longer way, a package from below its floor, a target that is not the end
pub record ExampleIsWorked : Type 0 where
  pub upward_passes :
      broken upward (Price 750 Differ 1 ∷ Price 450 Differ 2 ∷ Price 250 Differ 3 ∷ End ∷ []) ≡ none
  pub held_passes : broken held (Price 500 Differ 1 ∷ Price 200 Differ 2 ∷ End ∷ Nothing ∷ []) ≡ none
  pub rollback_passes :
      broken rollback (Price 500 Differ 1 ∷ Price 200 Differ 2 ∷ End ∷ Price 1400 Full 1 ∷ []) ≡ none
  pub too_low :
      broken upward (Price 749 Differ 1 ∷ Price 449 Differ 2 ∷ Price 250 Differ 3 ∷ End ∷ [])
      ≡ None ∷ Some C3 ∷ None ∷ None ∷ []
  pub too_high :
      broken upward (Price 751 Differ 1 ∷ Price 451 Differ 2 ∷ Price 250 Differ 3 ∷ End ∷ [])
      ≡ None ∷ Some C2 ∷ None ∷ None ∷ []
  pub missing :
      broken upward (Nothing ∷ Nothing ∷ Price 250 Differ 3 ∷ End ∷ []) ≡ None ∷ Some C2 ∷ None ∷ None ∷ []
  pub longer_way :
      broken upward (Price 800 Differ 1 ∷ Price 500 Differ 3 ∷ Price 250 Differ 3 ∷ End ∷ [])
      ≡ None ∷ Some C2 ∷ None ∷ None ∷ []
  pub floor_passes :
      broken (from_floor false) (Price 750 Differ 1 ∷ Price 450 Differ 2 ∷ Price 250 Differ 3 ∷ End ∷ []) ≡ none
  pub below_floor :
      broken (from_floor false) (Price 800 Differ 1 ∷ Price 500 Differ 3 ∷ Price 250 Differ 3 ∷ End ∷ [])
      ≡ None ∷ Some C2 ∷ None ∷ None ∷ []
  pub floor_leaves_stuck :
      broken (from_floor true) (Nothing ∷ Nothing ∷ Price 250 Differ 3 ∷ End ∷ []) ≡ none
  pub floor_is_passed :
      broken (from_floor true) (Price 800 Differ 1 ∷ Price 500 Differ 3 ∷ Price 250 Differ 3 ∷ End ∷ [])
      ≡ None ∷ Some C3 ∷ None ∷ None ∷ []
  pub no_end :
      broken upward (Nothing ∷ Nothing ∷ Nothing ∷ Nothing ∷ []) ≡ None ∷ None ∷ None ∷ Some C1 ∷ []
  pub early_end :
      broken held (Price 500 Differ 1 ∷ End ∷ End ∷ Nothing ∷ [])
      ≡ Some C2 ∷ Some C1 ∷ None ∷ None ∷ []
