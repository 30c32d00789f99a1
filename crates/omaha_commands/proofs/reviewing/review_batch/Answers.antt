use Rattle.std.proofs.Common.{◌≡◌, Bool, Global, Vec, rules, length}
use Rattle.omaha_commands.proofs.KeepingLemmas.{AreKept-made}
use Rattle.omaha_commands.proofs.ReviewLemmas.{FindsInBatch-next}
use Rattle.omaha_commands.proofs.reviewing.review_batch.Goals as goal

pub returns-in-Ok : goal.returns-in-Ok
returns-in-Ok c =
    let same : c.args.base ≡ length c.args.edition.now = search rules in
    FindsInBatch-next c.args.asked.now c.args.edition.now c.in-Ok.next c.args.base c.args.batch c.review_next.result same c.in-Ok.ensures
    c.review_next.ensures

pub review_next-requires : goal.review_next-requires
review_next-requires c =
    AreKept-made (λ (kept : Vec Bool Global). kept.items) c.kept_apps-kept.result c.args.edition.now c.in-Ok.next c.args.batch c.catalogue.result.now
    c.growth.ensures c.other_apps.ensures c.in-Ok.ensures c.catalogue.ensures c.kept_apps-kept.ensures
