use Rattle.std.proofs.Common.{◌≡◌, ℕ, ◌+◌, ◌<◌, List, get_or, length, sym, ap, ◌∙◌, subst, arith}
use Rattle.std.proofs.lemmas.Grind.{common_steps}
use Rattle.std.proofs.lemmas.List.{length_push}
use Rattle.catalogue.specs.declared.content.Release.{Release}
use Rattle.payload_graph.specs.declared.place.Place.TheVariants.{At}
use Rattle.reviews.specs.Reasons.{IsReason}
use Rattle.reviews.specs.Reviews.{AreOutcomes, IsOutcome}
use Rattle.reviews.specs.declared.outcome.Outcome.{Outcome}
use Rattle.reviews.proofs.ReviewLemmas.{IsQuote-there, IsOutcome-quote, each_more}
use Rattle.reviews.proofs.review.find_outcomes.Goals as goal

pub loop-release-preserved : goal.loop-release-preserved
loop-release-preserved c =
    let app = c.args.subject.now.app.now in
    let key = c.args.subject.now.key.now in
    let release = c.loop-release.release in
    let before = c.loop-release.outcomes.items in
    let next = c.outcome_by.result in
    let size = ap (λ (xs : List Release). length xs) c.as_slice-releases.ensures in
    let within : release < length app.releases = omega arith in
    let quote = IsQuote-there c.args.catalogue.now app key (At release) c.quote_at-quote.result c.requires.there c.quote_at-quote.ensures in
    let outcome =
    subst (IsOutcome app key release) (sym c.outcome_by.ensures)
    (IsOutcome-quote app key release c.reason_at.result c.quote_at-quote.result
    (λ stuck. subst (IsReason app key release) (sym c.reason_at.ensures) (c.requires.reasons release within stuck)) quote) in
    record {
      sized = ap (λ (xs : List Outcome). length xs) c.in_ok-push.ensures.items ∙ length_push before next ∙ ap (λ n. n + 1) c.loop-release.invariant.sized;
      each =
          subst (λ (xs : List Outcome). (r : ℕ) (d : Outcome) → r < release + 1 → IsOutcome app key r (get_or xs r d)) (sym c.in_ok-push.ensures.items)
          (each_more (IsOutcome app key) before next release c.loop-release.invariant.sized c.loop-release.invariant.each outcome);
    }

pub returns : goal.returns
returns c =
    let app = c.args.subject.now.app.now in
    let key = c.args.subject.now.key.now in
    let size = ap (λ (xs : List Release). length xs) c.as_slice-releases.ensures in
    let kept = c.loop-release.invariant in
    let all : c.loop-release.release ≡ length app.releases = omega arith in
    subst (AreOutcomes app key) (sym c.in_ok-shared.ensures)
    (record { sized = kept.sized ∙ all; each = λ release d within. kept.each release d (omega arith) })

pub loop-release-init : goal.loop-release-init
loop-release-init c = grind (arith, common_steps)

pub quote_at-quote-requires-clause-release : goal.quote_at-quote-requires-clause-release
quote_at-quote-requires-clause-release c = grind (arith, common_steps)
