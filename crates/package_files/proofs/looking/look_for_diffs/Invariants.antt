-- The packages of the items so far are there.
use Rattle.std.proofs.Common.{flat_map, take}
use Rattle.package_files.specs.Looking.{diff_sizes}
use Rattle.package_files.specs.Lacking.{AreThere}
use Rattle.package_files.proofs.looking.look_for_diffs.Given as goal

abbrev pub invariant-loop-shared : goal.invariant-loop-shared
invariant-loop-shared g l = AreThere (g.P.PackageSizes.sizes l.packages) (flat_map diff_sizes (take l.shared-index l.diffs))
