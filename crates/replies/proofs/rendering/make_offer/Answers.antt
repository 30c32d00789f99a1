use Rattle.std.proofs.Common.{rules}
use Rattle.replies.proofs.rendering.make_offer.Goals as goal

pub returns : goal.returns
returns c = search rules
