-- The metrics of more than one sample; this project's profile.
use Rattle.std.specs.Prelude.{ℕ, if◌then◌else◌, List, ◌++◌, codes, flat_map, length}
use Rattle.catalogue.specs.declared.content.App.{App}
use Rattle.catalogue.specs.declared.content.Cohort.{Cohort}
use Rattle.catalogue.specs.declared.mirror.Mirror.{Mirror}
use Rattle.operator_pages.specs.Counts.{count_of, word_of}
use Rattle.operator_pages.specs.Labels.{cohort_labels}
use Rattle.operator_pages.specs.Samples.{head_string, sample, sample_of}
use Rattle.operator_pages.specs.Spending.{mirror_lines}
use Rattle.operator_pages.specs.declared.counts.Counts.{Counts}
use Rattle.operator_pages.specs.declared.counts.Outcome.{Outcome}
use Rattle.operator_pages.specs.declared.counts.Outcome.TheVariants as outcome
use Rattle.operator_pages.specs.declared.metric.Metric.{Metric}
use Rattle.operator_pages.specs.declared.metric.Metric.TheVariants as metric
use Rattle.operator_pages.specs.declared.spending.Place.TheVariants as place

-- the version of the program, as a label; the number is 1
unfoldable pub build_family : List ℕ → List ℕ
build_family version = head_string metric.Build ++ sample_of metric.Build (codes "version") version 1

-- how many scripts, or records of other servers, came to a result
unfoldable pub result_sample : Counts → Outcome → List ℕ
result_sample counts outcome =
    sample_of metric.Publishes (codes "result") (word_of outcome) (count_of counts outcome)

-- the same of the results by which something was published
unfoldable pub published_samples : Counts → List ℕ
published_samples counts = result_sample counts outcome.Published ++ result_sample counts outcome.Followed

-- the same of those by which nothing was
unfoldable pub unpublished_samples : Counts → List ℕ
unpublished_samples counts =
    result_sample counts outcome.Stale
    ++ (result_sample counts outcome.Rejected
    ++ (result_sample counts outcome.Malformed
    ++ (result_sample counts outcome.Unreachable
    ++ result_sample counts outcome.Failed)))

-- the same of each result
unfoldable pub publishes_family : Counts → List ℕ
publishes_family counts =
    head_string metric.Publishes ++ (published_samples counts ++ unpublished_samples counts)

-- what a metric says of each mirror
unfoldable pub mirror_family : Metric → List Mirror → List ℕ → List ℕ
mirror_family metric mirrors granted = head_string metric ++ mirror_lines (place.Sample metric) mirrors granted

-- how many releases an app has
unfoldable pub releases_sample : App → List ℕ
releases_sample app = sample_of metric.Releases (codes "app") app.id (length app.releases)

-- the same of each app, in their order
abbrev pub release_samples : List App → List ℕ
release_samples apps = flat_map releases_sample apps

unfoldable pub releases_family : List App → List ℕ
releases_family apps = head_string metric.Releases ++ release_samples apps

-- what a metric says of a cohort: 1 if it is open, else 0; or its share
abbrev pub cohort_number : Metric → Cohort → ℕ
cohort_number metric.Open cohort = if cohort.hintable then 1 else 0
cohort_number other cohort = cohort.share

-- the sample of a cohort of an app
abbrev pub cohort_sample : Metric → App → Cohort → List ℕ
cohort_sample metric app cohort = sample metric (cohort_labels app.id cohort.name) (cohort_number metric cohort)

-- the samples of an app's cohorts, in their order
abbrev pub cohorts_of_app : Metric → App → List ℕ
cohorts_of_app metric app = flat_map (cohort_sample metric app) app.cohorts

abbrev pub cohort_samples : Metric → List App → List ℕ
cohort_samples metric apps = flat_map (cohorts_of_app metric) apps

unfoldable pub cohort_family : Metric → List App → List ℕ
cohort_family metric apps = head_string metric ++ cohort_samples metric apps
