use Rattle.std.proofs.Common.{Some, sym, ap, ◌∙◌, subst}
use Rattle.std.proofs.lemmas.Option.{slice_get-get_or}
use Rattle.catalogue.specs.declared.content.App.{App}
use Rattle.quotes.specs.Quotes.{IsQuoteAmong}
use Rattle.quotes.specs.declared.quote.Quote.{Quote}
use Rattle.replies.proofs.PlanLemmas.{IsChoice-next}
use Rattle.replies.proofs.planning.choose_by.Goals as goal

pub returns-in-Next : goal.returns-in-Next
returns-in-Next c =
    let apps = c.args.catalogue.now in
    let item = rw c.apps.ensures at c.index-apps-key.is in
    let there = slice_get-get_or apps c.args.key.now.app c.index-apps-key.result c.requires.app ∙ ap (λ (app : App). Some app) (sym item) in
    let quote = subst (λ (quote : Quote). IsQuoteAmong apps c.args.key.now c.args.place.now quote) c.in-Next.is c.quote_from.ensures in
    IsChoice-next apps c.args.key.now c.args.place.now c.in-Next.payload c.in-Next.sum c.bytes_of.result c.index-apps-key.result there quote c.bytes_of.ensures
