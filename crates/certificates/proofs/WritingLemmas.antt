-- Writing, line by line.
use Rattle.std.proofs.Common.{◌≡◌, ℕ, ◌+◌, ◌<◌, ◌≤◌, List, ◌∷◌, ◌++◌, length, get_or, drop, refl, sym, ap, ◌∙◌, add-one, append_assoc, append-nil, drop-cons}
use Rattle.std.proofs.lemmas.List.{drop_all}
use Rattle.catalogue.specs.declared.content.App.{App}
use Rattle.catalogue.specs.declared.content.Cohort.{Cohort}
use Rattle.catalogue.specs.declared.content.Release.{Release}
use Rattle.payload_graph.specs.declared.payload.TrackKey.{TrackKey}
use Rattle.price_cert.specs.declared.row.Row.{Row}
use Rattle.certificates.specs.Headings.{heading_line}
use Rattle.certificates.specs.Strings.{ended, headings_string, row_line, rows_from}
use Rattle.certificates.specs.declared.heading.Heading.{Heading}

-- what is left of a list is its next item and what is left after that
drop-next : {A : Type 0} (items : List A) (index : ℕ) (item : A) → index < length items →
    drop index items ≡ get_or items index item ∷ drop (index + 1) items
drop-next items index item within =
    drop-cons items index item within ∙ ap (λ next. get_or items index item ∷ drop next items) (sym (add-one index))

-- the line of a heading joins those before it
pub headings_string-next :
    (text : List ℕ) (app : App) (cohort : Cohort) (key : TrackKey) (target : Release) (headings : List Heading)
    (index : ℕ) (heading : Heading) →
    index < length headings →
    (text ++ ended (heading_line app cohort key target (get_or headings index heading))) ++ headings_string app cohort key
    target (drop (index + 1) headings)
    ≡ text ++ headings_string app cohort key target (drop index headings)
unfolding headings_string
headings_string-next text app cohort key target headings index heading within =
    append_assoc text _ _ ∙ rw (drop-next headings index heading within) refl

-- no heading is left after the last
pub headings_string-end :
    (text : List ℕ) (app : App) (cohort : Cohort) (key : TrackKey) (target : Release) (headings : List Heading)
    (index : ℕ) →
    length headings ≤ index →
    text ++ headings_string app cohort key target (drop index headings) ≡ text
unfolding headings_string
headings_string-end text app cohort key target headings index past =
    rw (drop_all index headings past) (append-nil text)

-- the same of the lines of rows
pub rows_from-next :
    (text : List ℕ) (releases : List Release) (rows : List Row) (index : ℕ) (row : Row) →
    index < length rows →
    (text ++ ended (row_line releases index (get_or rows index row))) ++ rows_from releases (index + 1)
    (drop (index + 1) rows)
    ≡ text ++ rows_from releases index (drop index rows)
unfolding rows_from
rows_from-next text releases rows index row within =
    append_assoc text _ _ ∙ rw (drop-next rows index row within) refl

pub rows_from-end :
    (text : List ℕ) (releases : List Release) (rows : List Row) (index : ℕ) →
    length rows ≤ index →
    text ++ rows_from releases index (drop index rows) ≡ text
unfolding rows_from
rows_from-end text releases rows index past =
    rw (drop_all index rows past) (append-nil text)
