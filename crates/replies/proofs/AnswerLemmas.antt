-- What was asked when memory ran out after a plan was made.
use Rattle.std.proofs.Common.{◌≡◌, ℕ, List, Option, inr, Result, Ok, Err, OnErr, subst}
use Rattle.mirror_ledger.specs.Asks.{Ask}
use Rattle.omaha_json.specs.declared.request.Request.{Request}
use Rattle.replies.specs.Plans.{IsPlan}
use Rattle.replies.specs.declared.choices.Choice.{Choice}
use Rattle.replies.specs.Answering.{HasBegun, Stock}
use Rattle.replies.specs.Asking.{AsksFor}
use Rattle.replies.proofs.AskLemmas.{AsksFirst-all}

-- what holds anyway holds at an error
pub OnErr-always : {A E : Type 0} {P : Type 0} (result : Result A E) → P → OnErr result P
OnErr-always (Ok value) holds = tt
OnErr-always (Err error) holds = holds

-- all of a plan, whose list has two names, was asked for
pub HasBegun-all :
    (stock : Stock) (request : Request) (plan named : List (Option Choice)) (outcomes : List (Option ℕ)) (before after : List Ask) →
    named ≡ plan →
    IsPlan stock.content request plan →
    AsksFor stock.mirrors named outcomes before after →
    HasBegun stock request before after
HasBegun-all stock request plan named outcomes before after same planned asks =
    inr (plan, planned, AsksFirst-all stock.mirrors plan outcomes before after (subst (λ choices. AsksFor stock.mirrors choices outcomes before after) same asks))
