-- The tables of cohorts and releases; this project's profile.
use Rattle.std.specs.Prelude.{ℕ, List, [], ◌++◌, codes, flat_map, Option, None, Some}
use Rattle.catalogue.specs.declared.content.Cohort.{Cohort}
use Rattle.catalogue.specs.declared.content.Release.{Release}
use Rattle.operator_pages.specs.Html.{cell, name_cell, number_cell, share_cell, tag_if, named_tag, version_or}
use Rattle.operator_pages.specs.declared.headings.TheConstants.{ROW_END}
use Rattle.operator_pages.specs.declared.html.Tag.TheVariants as tag

-- the version that a cohort's clients are meant to have, how many of them, and that of the others
unfoldable pub target_cells : Cohort → List ℕ
target_cells cohort =
    cell (version_or cohort.target) ++ (share_cell cohort.share ++ cell (version_or cohort.held))

-- whether a client's hint may name it, and whether its clients may be downgraded
unfoldable pub rights : Cohort → List ℕ
rights cohort = tag_if cohort.hintable tag.Open ++ tag_if cohort.rollback tag.Rollback

unfoldable pub cohort_tags : Cohort → List ℕ
cohort_tags cohort = codes "<td>" ++ (rights cohort ++ ROW_END.now)

-- rule: Row of a cohort
unfoldable pub cohort_row : Cohort → List ℕ
cohort_row cohort = codes "<tr>" ++ (name_cell cohort.name ++ (target_cells cohort ++ cohort_tags cohort))

abbrev pub cohort_rows : List Cohort → List ℕ
cohort_rows cohorts = flat_map cohort_row cohorts

-- the name of a cohort that a release is open to
unfoldable pub name_tag : List ℕ → List ℕ
name_tag name = named_tag (codes "for ") name

abbrev pub name_tags : List (List ℕ) → List ℕ
name_tags names = flat_map name_tag names

-- the names of the cohorts that a release is open to, none if it is open to all
abbrev pub audience_tags : Option (List (List ℕ)) → List ℕ
audience_tags (Some names) = name_tags names
audience_tags None = []

-- whether a release is withdrawn, whether it is a stone, and its audience
unfoldable pub marks : Release → List ℕ
marks release =
    tag_if release.withdrawn tag.Withdrawn ++ (tag_if release.stone tag.Stone ++ audience_tags release.audience)

unfoldable pub release_tags : Release → List ℕ
release_tags release = codes "<td>" ++ (marks release ++ ROW_END.now)

-- rule: Row of a release
-- its version, its package and the bytes of that
unfoldable pub release_row : Release → List ℕ
release_row release =
    codes "<tr>" ++ (name_cell release.spelled ++ (cell release.name
    ++ (number_cell release.size ++ release_tags release)))

abbrev pub release_rows : List Release → List ℕ
release_rows releases = flat_map release_row releases
