-- The lines of a metric: Prometheus, exposition format 0.0.4.
use Rattle.std.specs.Prelude.{ℕ, List, [], ◌++◌, codes, decimal}
use Rattle.operator_pages.specs.Labels.{label}
use Rattle.operator_pages.specs.MetricNames.{help_of, kind_of, name_of}
use Rattle.operator_pages.specs.declared.metric.Metric.{Metric}

-- a line of the head: its word, the metric, and what is said of it
unfoldable pub comment : List ℕ → Metric → List ℕ → List ℕ
comment word metric says = codes "# " ++ word ++ codes " " ++ name_of metric ++ codes " " ++ says ++ codes "\n"

-- rule: Head of a metric
-- what it is, and its type
unfoldable pub head_string : Metric → List ℕ
head_string metric = comment (codes "HELP") metric (help_of metric) ++ comment (codes "TYPE") metric (kind_of metric)

-- rule: Sample of a metric
-- the metric, its labels, a space and a number
unfoldable pub sample : Metric → List ℕ → ℕ → List ℕ
sample metric labels number = name_of metric ++ labels ++ codes " " ++ decimal number ++ codes "\n"

-- a sample with one label
abbrev pub sample_of : Metric → List ℕ → List ℕ → ℕ → List ℕ
sample_of metric name value number = sample metric (label name value) number

-- a metric of one sample without labels
unfoldable pub plain_family : Metric → ℕ → List ℕ
plain_family metric number = head_string metric ++ sample metric [] number
