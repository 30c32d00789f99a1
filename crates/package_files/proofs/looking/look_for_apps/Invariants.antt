-- The packages of the items so far are there.
use Rattle.std.proofs.Common.{flat_map, take}
use Rattle.package_files.specs.Looking.{app_sizes}
use Rattle.package_files.specs.Lacking.{AreThere}
use Rattle.package_files.proofs.looking.look_for_apps.Given as goal

abbrev pub invariant-loop-app : goal.invariant-loop-app
invariant-loop-app g l = AreThere (g.P.PackageSizes.sizes l.packages) (flat_map app_sizes (take l.app-index l.apps))
