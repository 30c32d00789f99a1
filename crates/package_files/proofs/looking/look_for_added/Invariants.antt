-- The packages of the items so far are there.
use Rattle.std.proofs.Common.{flat_map, take}
use Rattle.package_files.specs.Lacking.{AreThere}
use Rattle.package_files.specs.Looking.{edit_sizes}
use Rattle.package_files.proofs.looking.look_for_added.Given as goal

abbrev pub invariant-loop-edit : goal.invariant-loop-edit
invariant-loop-edit g l = AreThere (g.P.PackageSizes.sizes l.packages) (flat_map edit_sizes (take l.edit-index l.batch))
