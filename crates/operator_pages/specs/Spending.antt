-- What mirrors granted of their budgets; this project's profile.
use Rattle.std.specs.Prelude.{ℕ, List, ◌++◌, codes, decimal, flat_map}
use Rattle.std.specs.List.{zip}
use Rattle.catalogue.specs.declared.mirror.Mirror.{Mirror}
use Rattle.operator_pages.specs.Html.{bar, cell, name_cell, number_cell}
use Rattle.operator_pages.specs.Samples.{sample_of}
use Rattle.operator_pages.specs.declared.metric.Metric.{Metric}
use Rattle.operator_pages.specs.declared.metric.Metric.TheVariants as metric
use Rattle.operator_pages.specs.declared.spending.Place.{Place}
use Rattle.operator_pages.specs.declared.spending.Place.TheVariants as place

-- rule: Line of a mirror
-- its name, the bytes that it granted, and its present budget
unfoldable pub status_line : Mirror → ℕ → List ℕ
status_line mirror granted =
    mirror.name ++ codes " " ++ decimal granted ++ codes " of " ++ decimal mirror.budget ++ codes "\n"

-- what a metric says of a mirror: the bytes that it granted, or its present budget
abbrev pub amount_of : Metric → Mirror → ℕ → ℕ
amount_of metric.Granted mirror granted = granted
amount_of other mirror granted = mirror.budget

-- the sample of a mirror
unfoldable pub mirror_sample : Metric → Mirror → ℕ → List ℕ
mirror_sample metric mirror granted = sample_of metric (codes "mirror") mirror.name (amount_of metric mirror granted)

-- the rest of a row: the granted bytes, and the budget
unfoldable pub amounts : ℕ → ℕ → List ℕ
amounts granted budget =
    codes "</td>" ++ (number_cell granted ++ (number_cell budget ++ codes "</tr>\n"))

-- rule: Row of a mirror
-- its name, its codebase, the bytes that it granted, and its present budget
unfoldable pub mirror_row : Mirror → ℕ → List ℕ
mirror_row mirror granted =
    codes "<tr>" ++ (name_cell mirror.name ++ (cell mirror.codebase ++ (bar granted mirror.budget
    ++ amounts granted mirror.budget)))

-- a mirror with the bytes that it granted, by where it is written
unfoldable pub mirror_line : Place → Mirror × ℕ → List ℕ
mirror_line place.Status spent = status_line spent.0 spent.1
mirror_line (place.Sample metric) spent = mirror_sample metric spent.0 spent.1
mirror_line place.Row spent = mirror_row spent.0 spent.1

-- each mirror with the bytes that it granted, in their order
abbrev pub mirror_lines : Place → List Mirror → List ℕ → List ℕ
mirror_lines place mirrors granted = flat_map (mirror_line place) (zip mirrors granted)
