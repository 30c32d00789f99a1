-- The metrics: their names, by the conventions of Prometheus, their types and what they are; this project's profile.
use Rattle.std.specs.Prelude.{ℕ, List, codes}
use Rattle.operator_pages.specs.declared.metric.Metric.{Metric}
use Rattle.operator_pages.specs.declared.metric.Metric.TheVariants as metric

-- rule: Metric
abbrev pub name_of : Metric → List ℕ
name_of metric.Build = codes "omaha_build_info"
name_of metric.Started = codes "process_start_time_seconds"
name_of metric.Edition = codes "omaha_edition"
name_of metric.Publishes = codes "omaha_publishes_total"
name_of metric.Raises = codes "omaha_raises_total"
name_of metric.Reachable = codes "omaha_history_reachable"
name_of metric.Budget = codes "omaha_mirror_budget_bytes"
name_of metric.Granted = codes "omaha_mirror_granted_bytes"
name_of metric.Apps = codes "omaha_apps"
name_of metric.Releases = codes "omaha_releases"
name_of metric.Share = codes "omaha_cohort_share"
name_of metric.Open = codes "omaha_cohort_open"
name_of metric.Requests = codes "omaha_http_requests_total"
name_of metric.Checks = codes "omaha_update_checks_total"
name_of metric.Uncounted = codes "omaha_uncounted_update_checks_total"
name_of metric.Offered = codes "omaha_offered_bytes_total"
name_of metric.Connections = codes "omaha_connections"
name_of metric.Failures = codes "omaha_package_failures_total"

abbrev pub gauge : List ℕ
gauge = codes "gauge"

abbrev pub counter : List ℕ
counter = codes "counter"

-- its type: a counter only grows, but for a new start
abbrev pub kind_of : Metric → List ℕ
kind_of metric.Build = gauge
kind_of metric.Started = gauge
kind_of metric.Edition = gauge
kind_of metric.Publishes = counter
kind_of metric.Raises = counter
kind_of metric.Reachable = gauge
kind_of metric.Budget = gauge
kind_of metric.Granted = gauge
kind_of metric.Apps = gauge
kind_of metric.Releases = gauge
kind_of metric.Share = gauge
kind_of metric.Open = gauge
kind_of metric.Requests = counter
kind_of metric.Checks = counter
kind_of metric.Uncounted = counter
kind_of metric.Offered = counter
kind_of metric.Connections = gauge
kind_of metric.Failures = counter

abbrev pub help_of : Metric → List ℕ
help_of metric.Build = codes "Version of the program."
help_of metric.Started = codes "When the server started, in seconds since 1970."
help_of metric.Edition = codes "Number of the published edition."
help_of metric.Publishes = codes "Scripts that operators sent and records of other servers, by result."
help_of metric.Raises = codes "Budgets that operators raised."
help_of metric.Reachable = codes "Whether the history replied when it was last asked."
help_of metric.Budget = codes "Present budget of a mirror."
help_of metric.Granted = codes "Bytes that a mirror granted since the start."
help_of metric.Apps = codes "Apps of the published catalogue."
help_of metric.Releases = codes "Releases of an app."
help_of metric.Share = codes "Clients of a cohort that have its target, of 1000."
help_of metric.Open = codes "Whether a client may ask for the cohort."
help_of metric.Requests = codes "Replies to clients, by status."
help_of metric.Checks = codes "Update checks of clients, by cohort and outcome."
help_of metric.Uncounted = codes "Update checks of cohorts that were added beyond the room for counts."
help_of metric.Offered = codes "Bytes of packages that were offered, by mirror and kind."
help_of metric.Connections = codes "Open connections of clients."
help_of metric.Failures = codes "Downloads that were cut off as the package is missing or another."
