use Rattle.std.proofs.Common.{◌++◌, length, sym, ap, ◌∙◌, append-nil, arith}
use Rattle.reviews.specs.Scenes.{chain_of}
use Rattle.reviews.proofs.PictureChainLemmas.{chain_within-end, chain_within-step}
use Rattle.reviews.proofs.pictures.arrows.chain_of.Goals as goal

pub returns-in-None : goal.returns-in-None
returns-in-None c =
    sym (c.loop.invariant
    ∙ ap (λ rest. c.loop.arrows.items ++ rest) (chain_within-end c.args.app.now c.args.review.now _ c.loop.at (sym c.in-None.ensures))
    ∙ append-nil c.loop.arrows.items)

pub loop-preserved : goal.loop-preserved
loop-preserved c =
    let app = c.args.app.now in
    let review = c.args.review.now in
    rw (c.in_ok-push-in-Some.ensures.items)
    (chain_within-step app review (chain_of app review c.args.from) c.loop.arrows.items (length review.outcomes) c.loop.counter c.loop.at c.in-Some.arrow
    (omega arith) c.loop.invariant (sym c.in-Some.ensures))
