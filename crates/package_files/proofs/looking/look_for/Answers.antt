use Rattle.std.proofs.Common.{rules}
use Rattle.package_files.specs.declared.lacking.Lack.TheVariants as lack
use Rattle.package_files.proofs.LookLemmas.{LacksFirst-one}
use Rattle.package_files.proofs.looking.look_for.Goals as goal

pub returns-in-Some-2 : goal.returns-in-Some-2
returns-in-Some-2 g c =
    LacksFirst-one (g.P.PackageSizes.sizes c.args.packages.now) c.args.name.now c.args.declared
    (lack.Size c.args.declared c.in-Some.found) (search rules)

pub returns-in-None : goal.returns-in-None
returns-in-None g c =
    LacksFirst-one (g.P.PackageSizes.sizes c.args.packages.now) c.args.name.now c.args.declared lack.Missing (search rules)
