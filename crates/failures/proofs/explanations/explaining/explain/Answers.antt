use Rattle.std.proofs.Common.{◌∙◌, ap}
use Rattle.failures.proofs.ExplainingLemmas.{first-shown, said-by, shown}
use Rattle.failures.proofs.explanations.explaining.explain.Goals as goal

pub returns : goal.returns
returns c =
    let code = c.args.code.now in
    let first = said-by code c.find.ensures c.edits.ensures in
    let second = said-by code c.find-2.ensures c.budgets.ensures in
    let third = said-by code c.find-3.ensures c.profiles.ensures in
    let fourth = said-by code c.find-4.ensures c.requests.ensures in
    let fifth = said-by code c.find-5.ensures c.certificate_codes.ensures in
    let sixth = said-by code c.find-6.ensures c.walks.ensures in
    let seventh = said-by code c.find-7.ensures c.words.ensures in
    let eighth = said-by code c.find-8.ensures c.lines.ensures in
    let two = ap shown c.or.ensures ∙ first-shown c.find.result c.find-2.result first second in
    let three = ap shown c.or-2.ensures ∙ first-shown c.or.result c.find-3.result two third in
    let four = ap shown c.or-3.ensures ∙ first-shown c.or-2.result c.find-4.result three fourth in
    let five = ap shown c.or-4.ensures ∙ first-shown c.or-3.result c.find-5.result four fifth in
    let six = ap shown c.or-5.ensures ∙ first-shown c.or-4.result c.find-6.result five sixth in
    let seven = ap shown c.or-6.ensures ∙ first-shown c.or-5.result c.find-7.result six seventh in
    ap shown c.or-7.ensures ∙ first-shown c.or-6.result c.find-8.result seven eighth
