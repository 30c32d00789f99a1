-- The page of the metrics; this project's profile.
use Rattle.std.specs.Prelude.{ℕ, List, ◌++◌, length, Option, None, Some}
use Rattle.operator_pages.specs.Families.{build_family, cohort_family, mirror_family, publishes_family, releases_family}
use Rattle.operator_pages.specs.Samples.{plain_family}
use Rattle.operator_pages.specs.declared.metric.Metric.TheVariants as metric
use Rattle.operator_pages.specs.Traffic.{checks_family, connections_family, offered_family, requests_family}
use Rattle.operator_pages.specs.declared.shown.Shown.{Shown}

-- 1 unless the history is unreachable, by the time since when it is
abbrev pub reachable_number : Option ℕ → ℕ
reachable_number None = 1
reachable_number (Some since) = 0

-- the metrics of the server and of its operator's calls
unfoldable pub server_metrics : Shown → List ℕ
server_metrics shown =
    build_family shown.version.now
    ++ (plain_family metric.Started shown.counts.started
    ++ (plain_family metric.Edition shown.edition
    ++ (publishes_family shown.counts
    ++ (plain_family metric.Raises shown.counts.raised
    ++ plain_family metric.Reachable (reachable_number shown.counts.lost)))))

-- the metrics of the mirrors: their present budgets, and what they granted
unfoldable pub spending_metrics : Shown → List ℕ
spending_metrics shown =
    mirror_family metric.Budget shown.mirrors.now shown.granted.now
    ++ mirror_family metric.Granted shown.mirrors.now shown.granted.now

-- the metrics of the published catalogue
unfoldable pub catalogue_metrics : Shown → List ℕ
catalogue_metrics shown =
    plain_family metric.Apps (length shown.apps.now)
    ++ (releases_family shown.apps.now
    ++ (cohort_family metric.Share shown.apps.now
    ++ cohort_family metric.Open shown.apps.now))

-- the metrics of what the workers counted
unfoldable pub traffic_metrics : Shown → List ℕ
traffic_metrics shown =
    requests_family shown.totals.now.replies
    ++ (checks_family shown.apps.now shown.totals.now
    ++ (plain_family metric.Uncounted shown.totals.now.uncounted
    ++ (offered_family shown.mirrors.now shown.totals.now.bytes
    ++ (connections_family shown.totals.now
    ++ plain_family metric.Failures shown.totals.now.failures))))

-- rule: Metrics of a server
abbrev pub metrics_string : Shown → List ℕ
metrics_string shown =
    server_metrics shown ++ (spending_metrics shown ++ (traffic_metrics shown ++ catalogue_metrics shown))
