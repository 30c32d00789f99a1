use Rattle.std.proofs.Common.{sym, ◌∙◌}
use Rattle.cohorts.proofs.BucketLemmas.{bucket_of-parse}
use Rattle.cohorts.proofs.cohort_text.parse_bucket.Goals as goal

pub returns : goal.returns
returns c =
    let is = sym c.is_well_formed.ensures ∙ c.if-not-is_well_formed.false in
    c.ok.ensures.value ∙ bucket_of-parse c.args.digits.now c.parse.result c.parse.ensures.value.0 is
