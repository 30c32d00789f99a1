use Rattle.std.proofs.Common.{◌∙◌, sym}
use Rattle.service_desks.proofs.DueLemmas.{StartsWith-goes_on}
use Rattle.service_desks.proofs.scripts.show_due.Goals as goal

pub show_prepared-requires : goal.show_prepared-requires
show_prepared-requires g c =
    StartsWith-goes_on c.in-Some.prepared c.args.press.now
    (c.requires c.in-Some.prepared (sym c.take.ensures.value ∙ c.in-Some.is))
