use Rattle.std.proofs.Common.{sym, ◌∙◌}
use Rattle.quotes.proofs.WindowLemmas.{IsWindow-up}
use Rattle.quotes.proofs.outside.find_window.Goals as goal

pub returns : goal.returns
returns c =
    let visitor = c.args.visitor.now in
    IsWindow-up c.args.releases.now visitor.cohort.now visitor.key.now visitor.target visitor.version
    c.count_up_to-start.result c.count_up_to-end.result (sym c.requires.falls ∙ c.if-falls.false)
    c.count_up_to-start.ensures.bound c.count_up_to-end.ensures.bound c.count_up_to-start.ensures.before c.count_up_to-end.ensures.behind
