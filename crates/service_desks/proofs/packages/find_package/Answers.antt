use Rattle.service_desks.proofs.PackageLemmas.{declared_of-no_string}
use Rattle.service_desks.proofs.packages.find_package.Goals as goal

pub returns-in-Err : goal.returns-in-Err
returns-in-Err c =
    declared_of-no_string c.args.catalogue.now c.args.name.now c.validity.ensures c.in-Err.ensures.cases.0
