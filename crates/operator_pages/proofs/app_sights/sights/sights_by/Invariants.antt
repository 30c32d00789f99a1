use Rattle.std.proofs.Common.{◌≡◌, take}
use Rattle.operator_pages.specs.AppSights.{sights_by}
use Rattle.operator_pages.proofs.app_sights.sights.sights_by.Given as goal

abbrev pub invariant-loop-index : goal.invariant-loop-index
invariant-loop-index l = l.sights.items ≡ sights_by l.reviews (take l.index l.catalogue)
