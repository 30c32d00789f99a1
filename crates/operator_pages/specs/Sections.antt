-- The sections of the page; this project's profile.
use Rattle.std.specs.Prelude.{ℕ, ◌==◌, if◌then◌else◌, List, [], ◌++◌, codes, decimal, flat_map, length, Option, None, Some}
use Rattle.std.specs.List.{zip}
use Rattle.reviews.specs.Escaping.{escaped_string}
use Rattle.catalogue.specs.declared.content.App.{App}
use Rattle.catalogue.specs.declared.content.Cohort.{Cohort}
use Rattle.catalogue.specs.declared.content.Release.{Release}
use Rattle.catalogue.specs.declared.mirror.Mirror.{Mirror}
use Rattle.operator_pages.specs.Counts.{count_of, word_of}
use Rattle.operator_pages.specs.Html.{name_cell, number_cell}
use Rattle.operator_pages.specs.Sights.{sight_part}
use Rattle.operator_pages.specs.Spending.{mirror_lines}
use Rattle.operator_pages.specs.Tables.{cohort_rows, release_rows}
use Rattle.operator_pages.specs.declared.counts.Counts.{Counts}
use Rattle.operator_pages.specs.declared.counts.Outcome.{Outcome}
use Rattle.operator_pages.specs.declared.counts.Outcome.TheVariants as outcome
use Rattle.operator_pages.specs.declared.headings.TheConstants.{CALLS, COHORTS, LOST, LOST_END, MIRRORS, NO_RELEASES, RELEASES, TABLE_END}
use Rattle.operator_pages.specs.declared.sights.AppSight.{AppSight}
use Rattle.operator_pages.specs.declared.spending.Place.TheVariants as place

-- since when the history is unreachable
unfoldable pub lost_note : ℕ → List ℕ
lost_note since = LOST.now ++ (decimal since ++ LOST_END.now)

-- the same, if it is
abbrev pub reach_note : Option ℕ → List ℕ
reach_note None = []
reach_note (Some since) = lost_note since

-- the mirrors, with the bytes that they granted, in their order
unfoldable pub mirror_section : List Mirror → List ℕ → List ℕ
mirror_section mirrors granted =
    MIRRORS.now ++ (mirror_lines place.Row mirrors granted ++ (TABLE_END.now ++ codes "</section>\n"))

-- the cohorts of an app, in their order
unfoldable pub cohort_table : List Cohort → List ℕ
cohort_table cohorts = COHORTS.now ++ (cohort_rows cohorts ++ TABLE_END.now)

-- how many releases an app has
unfoldable pub release_summary : ℕ → List ℕ
release_summary count = codes "<details open>\n<summary>Releases: " ++ decimal count ++ codes "</summary>\n"

-- the releases of an app, by ascending version
unfoldable pub release_table : List Release → List ℕ
release_table releases =
    release_summary (length releases) ++ (RELEASES.now ++ (release_rows releases
    ++ (TABLE_END.now ++ codes "</details>\n")))

-- what is seen of the releases of an app, and these; or that there are none
unfoldable pub seen_releases : AppSight → List Release → List ℕ
seen_releases sight releases =
    if length releases == 0 then NO_RELEASES.now else sight_part sight ++ release_table releases

unfoldable pub app_heading : List ℕ → List ℕ
app_heading id = codes "<section>\n<h2>" ++ (escaped_string id ++ codes "</h2>\n")

unfoldable pub app_tables : App → AppSight → List ℕ
app_tables app sight = cohort_table app.cohorts ++ seen_releases sight app.releases

-- rule: Section of an app
-- its identifier, its cohorts, what is seen of its releases, and these
unfoldable pub app_section : App × AppSight → List ℕ
app_section seen = app_heading seen.0.id ++ (app_tables seen.0 seen.1 ++ codes "</section>\n")

-- the apps with what is seen of them, in their order
abbrev pub app_sections : List App → List AppSight → List ℕ
app_sections apps sights = flat_map app_section (zip apps sights)

-- how many calls came to something
unfoldable pub call_row : Counts → Outcome → List ℕ
call_row counts outcome =
    codes "<tr>" ++ (name_cell (word_of outcome) ++ (number_cell (count_of counts outcome) ++ codes "</tr>\n"))

-- the same of what calls published
unfoldable pub published_rows : Counts → List ℕ
published_rows counts = call_row counts outcome.Published ++ call_row counts outcome.Followed

-- the same of all else that calls came to
unfoldable pub other_rows : Counts → List ℕ
other_rows counts =
    call_row counts outcome.Stale
    ++ (call_row counts outcome.Rejected
    ++ (call_row counts outcome.Malformed
    ++ (call_row counts outcome.Unreachable
    ++ (call_row counts outcome.Failed
    ++ call_row counts outcome.Raised))))

unfoldable pub call_rows : Counts → List ℕ
call_rows counts = published_rows counts ++ other_rows counts

-- the operator's calls, by what they came to
unfoldable pub calls_section : Counts → List ℕ
calls_section counts = CALLS.now ++ (call_rows counts ++ (TABLE_END.now ++ codes "</section>\n"))
