use Rattle.std.proofs.Common.{sym, ◌∙◌}
use Rattle.payload_graph.proofs.IndexLemmas.{index_of-end, index_of-here, index_of-past}
use Rattle.payload_graph.proofs.differential.seek.Goals as goal

pub loop-index-preserved : goal.loop-index-preserved
loop-index-preserved c =
    let here = c.index-releases-index.result in
    let differs = sym c.is_equal.ensures.tested ∙ c.if-not-is_equal.true in
    index_of-past c.args.releases.now c.args.version.now c.loop-index.index here c.loop-index.invariant c.loop-index-test.true differs

pub returns-else-not-is_equal : goal.returns-else-not-is_equal
returns-else-not-is_equal c =
    let here = c.index-releases-index.result in
    let agrees = sym c.is_equal.ensures.tested ∙ c.if-not-is_equal.false in
    index_of-here c.args.releases.now c.args.version.now c.loop-index.index here c.loop-index.invariant agrees

pub returns-after-loop-index : goal.returns-after-loop-index
returns-after-loop-index c =
    index_of-end c.args.releases.now c.args.version.now c.loop-index.index c.loop-index.invariant c.loop-index-test.false
