-- The metrics of what the workers counted; this project's profile.
use Rattle.std.specs.Prelude.{ℕ, List, ◌++◌, codes, decimal, flat_map}
use Rattle.std.specs.List.{zip}
use Rattle.catalogue.specs.declared.content.App.{App}
use Rattle.catalogue.specs.declared.content.Cohort.{Cohort}
use Rattle.catalogue.specs.declared.mirror.Mirror.{Mirror}
use Rattle.tallies.specs.declared.check.Kind.{Kind}
use Rattle.tallies.specs.declared.check.Kind.TheVariants as kind
use Rattle.tallies.specs.declared.check.Outcome.{Outcome}
use Rattle.tallies.specs.declared.check.Outcome.TheVariants as outcome
use Rattle.tallies.specs.declared.codes.TheConstants.{CODES}
use Rattle.tallies.specs.declared.totals.CheckTotals.{CheckTotals}
use Rattle.tallies.specs.declared.totals.MirrorTotals.{MirrorTotals}
use Rattle.tallies.specs.declared.totals.Totals.{Totals}
use Rattle.operator_pages.specs.Labels.{label_value}
use Rattle.operator_pages.specs.Samples.{head_string, sample, sample_of}
use Rattle.operator_pages.specs.declared.metric.Metric.TheVariants as metric

-- how many replies had a status
unfoldable pub code_sample : ℕ × ℕ → List ℕ
code_sample counted = sample_of metric.Requests (codes "code") (decimal counted.0) counted.1

-- the same of each status
abbrev pub code_samples : List ℕ → List ℕ
code_samples replies = flat_map code_sample (zip CODES replies)

-- rule: Metric of replies
unfoldable pub requests_family : List ℕ → List ℕ
requests_family replies = head_string metric.Requests ++ code_samples replies

-- the word of an outcome
abbrev pub outcome_word : Outcome → List ℕ
outcome_word outcome.Offered = codes "offered"
outcome_word outcome.NoUpdate = codes "noupdate"
outcome_word outcome.Internal = codes "error_internal"

-- how many update checks had an outcome
abbrev pub checks_with : CheckTotals → Outcome → ℕ
checks_with checks outcome.Offered = checks.offered
checks_with checks outcome.NoUpdate = checks.noupdate
checks_with checks outcome.Internal = checks.internal

-- the first labels of a cohort's update checks, and the last
unfoldable pub cohort_part : List ℕ → List ℕ → List ℕ
cohort_part app cohort = codes "{app=\"" ++ (label_value app ++ (codes "\",cohort=\"" ++ label_value cohort))

unfoldable pub outcome_part : Outcome → List ℕ
outcome_part outcome = codes "\",outcome=\"" ++ (outcome_word outcome ++ codes "\"}")

-- the labels of a cohort's update checks with an outcome, between braces
abbrev pub check_labels : List ℕ → List ℕ → Outcome → List ℕ
check_labels app cohort outcome = cohort_part app cohort ++ outcome_part outcome

-- how many update checks of a cohort had an outcome
unfoldable pub check_sample : App → Cohort → CheckTotals → Outcome → List ℕ
check_sample app cohort checks outcome =
    sample metric.Checks (check_labels app.id cohort.name outcome) (checks_with checks outcome)

-- the same of each outcome
unfoldable pub checks_of_cohort : App → Cohort × CheckTotals → List ℕ
checks_of_cohort app counted =
    check_sample app counted.0 counted.1 outcome.Offered
    ++ (check_sample app counted.0 counted.1 outcome.NoUpdate
    ++ check_sample app counted.0 counted.1 outcome.Internal)

-- the samples of an app's cohorts, in their order
abbrev pub checks_of_app : App × List CheckTotals → List ℕ
checks_of_app counted = flat_map (checks_of_cohort counted.0) (zip counted.0.cohorts counted.1)

abbrev pub check_samples : List App → List (List CheckTotals) → List ℕ
check_samples apps checks = flat_map checks_of_app (zip apps checks)

-- rule: Metric of update checks
-- those of unknown apps have neither an app nor a cohort
unfoldable pub checks_family : List App → Totals → List ℕ
checks_family apps totals =
    head_string metric.Checks
    ++ (check_samples apps totals.checks ++ sample_of metric.Checks (codes "outcome") (codes "unknown_app") totals.unknown)

-- the word of a kind of payload
abbrev pub kind_word : Kind → List ℕ
kind_word kind.Full = codes "full"
kind_word kind.Differential = codes "differential"

-- how many bytes were offered of a kind
abbrev pub bytes_with : MirrorTotals → Kind → ℕ
bytes_with bytes kind.Full = bytes.full
bytes_with bytes kind.Differential = bytes.differential

-- the labels of the bytes of a kind from a mirror, between braces
unfoldable pub offered_labels : List ℕ → Kind → List ℕ
offered_labels mirror kind =
    codes "{mirror=\"" ++ (label_value mirror ++ (codes "\",kind=\"" ++ (kind_word kind ++ codes "\"}")))

-- how many bytes of a kind were offered from a mirror
unfoldable pub offered_sample : Mirror → MirrorTotals → Kind → List ℕ
offered_sample mirror bytes kind =
    sample metric.Offered (offered_labels mirror.name kind) (bytes_with bytes kind)

-- the same of each kind
unfoldable pub offered_of_mirror : Mirror × MirrorTotals → List ℕ
offered_of_mirror counted =
    offered_sample counted.0 counted.1 kind.Full ++ offered_sample counted.0 counted.1 kind.Differential

abbrev pub offered_samples : List Mirror → List MirrorTotals → List ℕ
offered_samples mirrors bytes = flat_map offered_of_mirror (zip mirrors bytes)

-- rule: Metric of offered bytes
unfoldable pub offered_family : List Mirror → List MirrorTotals → List ℕ
offered_family mirrors bytes = head_string metric.Offered ++ offered_samples mirrors bytes

-- rule: Metric of connections
unfoldable pub connections_family : Totals → List ℕ
connections_family totals =
    head_string metric.Connections
    ++ (sample_of metric.Connections (codes "state") (codes "active") totals.active
    ++ sample_of metric.Connections (codes "state") (codes "idle") totals.idle)
