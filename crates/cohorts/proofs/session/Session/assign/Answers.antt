use Rattle.std.proofs.Common.{◌≡◌, ap, ◌∙◌, get_or, rules}
use Rattle.cohorts.specs.Tracks.{bucket_of, cohort_at, session_bucket, track_in}
use Rattle.catalogue.specs.Lookups.{cohorts_at, releases_at}
use Rattle.cohorts.proofs.TrackLemmas.{named_bucket, named_bucket-small, there-cohort_at}
use Rattle.cohorts.proofs.session.Session.assign.Goals as goal

pub choose_bucket-bucket-requires : goal.choose_bucket-bucket-requires
choose_bucket-bucket-requires c =
    named_bucket-small c.parse-named.result c.as_str.result.now c.parse-named.ensures c.cohort_texts.ensures.parsed

pub returns-clause-track : goal.returns-clause-track
returns-clause-track c =
    let ask = c.args.ask.now in
    let cohorts = cohorts_at c.args.catalogue.now c.args.app in
    let there = c.index-cohorts-index.result in
    let named = named_bucket c.parse-named.result c.as_str.result.now (session_bucket c.args.self.now) c.parse-named.ensures in
    let bucket : c.choose_bucket-bucket.result ≡ bucket_of ask c.args.self.now = search (rules, named) in
    let index = c.find_serving-index.result in
    let at_index : there ≡ get_or cohorts index there = rw (← c.cohorts.ensures) c.index-cohorts-index.is in
    let cohort : there ≡ cohort_at cohorts index =
    at_index ∙ there-cohort_at cohorts index there c.find_serving-index.ensures.within in
    let releases = releases_at c.args.catalogue.now c.args.app in
    c.track_in.ensures
    ∙ ap (λ found. track_in found there index c.choose_bucket-bucket.result ask) c.releases.ensures
    ∙ ap (λ found. track_in releases there index found ask) bucket
    ∙ ap (λ found. track_in releases found index (bucket_of ask c.args.self.now) ask) cohort
    ∙ ap (λ found. track_in releases (cohort_at cohorts found) found (bucket_of ask c.args.self.now) ask) c.find_serving-index.ensures.cohort
