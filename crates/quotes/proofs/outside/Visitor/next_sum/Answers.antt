use Rattle.std.proofs.Common.{◌∙◌, subst, sym, Option, ◌+◌}
use Rattle.price_cert.specs.Rows.{price_of}
use Rattle.quotes.proofs.QuoteBestLemmas.{IsBest-without_price, IsBestOf-larger}
use Rattle.quotes.specs.Outside.{IsBest, leads_to}
use Rattle.quotes.specs.declared.outside.Best.{Best}
use Rattle.quotes.proofs.outside.Visitor.next_sum.Goals as goal

pub returns-in_err-rest : goal.returns-in_err-rest
returns-in_err-rest c =
    let visitor = c.args.self.now in
    let release = c.args.release.now in
    let permitted = leads_to visitor.cohort.now visitor.key.now visitor.target visitor.version c.args.blocked release in
    λ sums to is best. rw c.from_residual.ensures
    (IsBest-without_price sums to c.args.best permitted release.size (price_of c.args.row.now)
    (sym c.price.ensures ∙ c.in_err-rest.was) is best)

pub returns-then-known-sum : goal.returns-then-known-sum
returns-then-known-sum c =
    let visitor = c.args.self.now in
    let release = c.args.release.now in
    let permitted = leads_to visitor.cohort.now visitor.key.now visitor.target visitor.version c.args.blocked release in
    λ sums to is best. subst (λ (found : Option Best). IsBest sums (to + 1) found) (sym c.in-Some.is)
    (IsBestOf-larger sums to c.args.best c.in-Some.known permitted release.size c.in_ok-rest.rest (price_of c.args.row.now)
    c.in-Some.is (sym c.price.ensures ∙ c.in_ok-rest.was) c.if-known-sum.true is best)
