-- The page of the published edition, for people; this project's profile.
use Rattle.std.specs.Prelude.{ℕ, List, ◌++◌, codes, decimal}
use Rattle.reviews.specs.Escaping.{escaped_string}
use Rattle.operator_pages.specs.Publishes.{publishes_section}
use Rattle.operator_pages.specs.Sections.{app_sections, calls_section, mirror_section, reach_note}
use Rattle.operator_pages.specs.declared.headings.TheConstants.{END, HEAD}
use Rattle.operator_pages.specs.declared.shown.Shown.{Shown}
use Rattle.operator_pages.specs.declared.style.TheConstants.{STYLE}

unfoldable pub title : ℕ → List ℕ
title edition = codes "<title>omaha: edition " ++ decimal edition ++ codes "</title>\n"

-- the head of the document, which has no script and names no other file, and the beginning of its body
unfoldable pub document_head : ℕ → List ℕ
document_head edition = HEAD.now ++ (title edition ++ STYLE.now)

unfoldable pub heading : ℕ → List ℕ
heading edition = codes "<header>\n<h1>Edition " ++ decimal edition ++ codes "</h1>\n<p>omaha "

-- the edition, and the version of the program
unfoldable pub header : ℕ → List ℕ → List ℕ
header edition version = heading edition ++ (escaped_string version ++ codes "</p>\n</header>\n")

-- that the history is unreachable, if it is; the apps, the mirrors, the last publishes and the operator's calls
unfoldable pub sections_of : Shown → List ℕ
sections_of shown =
    reach_note shown.counts.lost
    ++ (app_sections shown.apps.now shown.sights.now
    ++ (mirror_section shown.mirrors.now shown.granted.now
    ++ (publishes_section shown.publishes.now ++ calls_section shown.counts)))

unfoldable pub main_of : Shown → List ℕ
main_of shown = codes "<main>\n" ++ (sections_of shown ++ END.now)

-- rule: Page of an edition
abbrev pub page_string : Shown → List ℕ
page_string shown = document_head shown.edition ++ (header shown.edition shown.version.now ++ main_of shown)
