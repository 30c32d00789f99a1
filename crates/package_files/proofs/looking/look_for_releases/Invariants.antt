-- The packages of the items so far are there.
use Rattle.std.proofs.Common.{flat_map, take}
use Rattle.package_files.specs.Looking.{release_sizes}
use Rattle.package_files.specs.Lacking.{AreThere}
use Rattle.package_files.proofs.looking.look_for_releases.Given as goal

abbrev pub invariant-loop-release : goal.invariant-loop-release
invariant-loop-release g l = AreThere (g.P.PackageSizes.sizes l.packages) (flat_map release_sizes (take l.release-index l.releases))
