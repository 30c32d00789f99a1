use Rattle.std.proofs.Common.{◌≡◌, arith, length, subst}
use Rattle.publisher.specs.Sights.{Allows}
use Rattle.publisher.proofs.HeardLemmas.{starts_with-same}
use Rattle.publisher.proofs.meeting.may_enter.Goals as goal

pub returns-in-Ok : goal.returns-in-Ok
returns-in-Ok c same =
    let now = c.in-Ok.entered in
    let receipt = c.args.receipt.now in
    let learnt = c.learn.ensures.learnt now c.in-Ok.ensures.entered in
    let long : length now ≡ length receipt =
    grind (arith, same, c.number.ensures.count, c.edition.ensures, c.edition-in-Ok.ensures.count) in
    subst (Allows c.args.view) (starts_with-same now receipt learnt.1 long) learnt.0
