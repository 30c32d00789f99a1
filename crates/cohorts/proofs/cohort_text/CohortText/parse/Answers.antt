use Rattle.std.proofs.Common.{sym, ap, ◌∙◌, lit<, refl}
use Rattle.std.proofs.lemmas.Str.Pattern.{split_once_first}
use Rattle.cohorts.specs.CohortTexts.{named}
use Rattle.cohorts.proofs.CohortTextLemmas.{parsed-no_colon, parsed-split}
use Rattle.cohorts.proofs.cohort_text.CohortText.parse.Goals as goal

pub returns-in_err-name : goal.returns-in_err-name
returns-in_err-name c =
    let none = rw c.in_err-name.was at (split_once_first 58 c.args.text.now c.split_once.result c.split_once.ensures.cases (lit< tt)) in
    rw c.from_residual.ensures (sym (parsed-no_colon c.args.text.now none))

pub returns-in_err-bucket : goal.returns-in_err-bucket
returns-in_err-bucket c =
    let cut = rw c.in_ok-name.was at (split_once_first 58 c.args.text.now c.split_once.result c.split_once.ensures.cases (lit< tt)) in
    let parts = parsed-split c.args.text.now c.in_ok-name.name.now c.in_ok-name.digits.now cut.1 cut.2 in
    rw c.from_residual-in_err-bucket.ensures
    (sym (parts ∙ ap (named c.in_ok-name.name.now) (sym c.in_err-bucket.ensures)))

pub returns-then-not-is_cohort_name : goal.returns-then-not-is_cohort_name
returns-then-not-is_cohort_name c =
    let cut = rw c.in_ok-name.was at (split_once_first 58 c.args.text.now c.split_once.result c.split_once.ensures.cases (lit< tt)) in
    let parts = parsed-split c.args.text.now c.in_ok-name.name.now c.in_ok-name.digits.now cut.1 cut.2 in
    let bad = sym c.is_cohort_name.ensures ∙ c.if-not-is_cohort_name.true in
    sym (parts ∙ ap (named c.in_ok-name.name.now) (sym c.in_ok-bucket.ensures) ∙ rw bad refl)

pub returns : goal.returns
returns c =
    let cut = rw c.in_ok-name.was at (split_once_first 58 c.args.text.now c.split_once.result c.split_once.ensures.cases (lit< tt)) in
    let parts = parsed-split c.args.text.now c.in_ok-name.name.now c.in_ok-name.digits.now cut.1 cut.2 in
    let good = sym c.is_cohort_name.ensures ∙ c.if-not-is_cohort_name.false in
    sym (parts ∙ ap (named c.in_ok-name.name.now) (sym c.in_ok-bucket.ensures) ∙ rw good refl)
