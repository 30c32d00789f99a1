use Rattle.std.proofs.Common.{List, ◌++◌, sym, ap, ◌∙◌, append-nil}
use Rattle.review_reports.specs.declared.change.Change.{Change}
use Rattle.review_reports.proofs.CopyLemmas.{changes_of_pair-source}
use Rattle.review_reports.proofs.comparing.push_from.Goals as goal

pub returns-then-is_source : goal.returns-then-is_source
returns-then-is_source c =
    let changes = c.args.changes.now.items in
    sym
    (ap (λ (xs : List Change). changes ++ xs)
    (changes_of_pair-source c.order.ensures.irreflexive c.args.before.now.catalogue.now c.args.after.now c.args.before.now.tracks.now
    c.args.old.now c.args.new.now c.args.source c.args.from c.validity.ensures c.requires.there c.requires.source
    (c.is_source.ensures c.if-is_source.true))
    ∙ append-nil changes)
