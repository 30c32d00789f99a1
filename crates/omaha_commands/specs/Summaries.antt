-- What is reported of an edition; this project's profile.
use Rattle.std.specs.Prelude.{ℕ, List, ◌++◌, codes, decimal, length, sum_by}
use Rattle.catalogue.specs.declared.content.App.{App}
use Rattle.par_tables.specs.Tables.{nets_of}
use Rattle.par_tables.specs.Tracks.{keys_of}
use Rattle.omaha_commands.specs.declared.reports.counting.Counts.{Counts}
use Rattle.omaha_commands.specs.declared.reports.counting.Totals.{Totals}

-- how many releases, differentials and cohorts all apps have
abbrev pub counts_of : List App → Counts
counts_of apps =
    record {
      releases = sum_by (λ (app : App). length app.releases) apps;
      diffs = sum_by (λ (app : App). length app.diffs) apps;
      cohorts = sum_by (λ (app : App). length app.cohorts) apps;
    }

-- how many tracks have a target, and so a table
abbrev pub count_tables : List App → ℕ
count_tables apps = length (nets_of apps (keys_of apps))

-- the numbers of an edition's items
abbrev pub counts_string : Counts → List ℕ
counts_string counts =
    decimal counts.releases ++ codes " releases, " ++ decimal counts.diffs ++ codes " differentials, "
    ++ decimal counts.cohorts ++ codes " cohorts"

-- the line of a summary
abbrev pub summary_string : Totals → List ℕ
summary_string totals =
    codes "edition " ++ decimal totals.number ++ codes ": " ++ decimal totals.apps ++ codes " apps, "
    ++ counts_string totals.counts ++ codes ", " ++ decimal totals.tables ++ codes " tables\n"

-- rule: Summary of an edition
-- an edition's number of batches, and how many apps, releases, differentials, cohorts and tables it has
abbrev pub summary_of : ℕ → List App → List ℕ
summary_of number apps =
    summary_string
    (record { number = number; apps = length apps; counts = counts_of apps; tables = count_tables apps })
