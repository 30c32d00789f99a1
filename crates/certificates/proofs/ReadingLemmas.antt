-- Reading, line by line.
use Rattle.std.proofs.Common.{◌≡◌, ℕ, ◌+◌, ◌-◌, ◌<◌, ◌≤◌, List, [], ◌∷◌, ◌++◌, length, get_or, drop, Some, None, Result, Ok, Err, refl, sym, ap, ◌∙◌, add-one, arith, drop-cons, append_assoc, length-drop}
use Rattle.std.proofs.lemmas.List.{drop_all}
use Rattle.catalogue.specs.declared.content.App.{App}
use Rattle.catalogue.specs.declared.content.Cohort.{Cohort}
use Rattle.catalogue.specs.declared.content.Release.{Release}
use Rattle.payload_graph.specs.declared.payload.TrackKey.{TrackKey}
use Rattle.price_cert.specs.declared.row.Row.{Row}
use Rattle.certificates.specs.Headings.{heading_line}
use Rattle.certificates.specs.Reading.{fault_at, heading_flaw, line_split, on_line, past_heading, read_headings, read_row, read_rows, with_row, with_rows}
use Rattle.certificates.specs.declared.fault.Fault.{Fault}
use Rattle.certificates.specs.declared.fault.Fault.TheVariants.{BadLine}
use Rattle.certificates.specs.declared.fault.Flaw.{Flaw}
use Rattle.certificates.specs.declared.heading.Heading.{Heading}

-- what is left of a list is its next item and what is left after that
drop-next : {A : Type 0} (items : List A) (index : ℕ) (item : A) → index < length items →
    drop index items ≡ get_or items index item ∷ drop (index + 1) items
drop-next items index item within =
    drop-cons items index item within ∙ ap (λ next. get_or items index item ∷ drop next items) (sym (add-one index))

-- the heading at an index is read, and then those after it
read_headings-at :
    (app : App) (cohort : Cohort) (key : TrackKey) (target : Release) (headings : List Heading) (index : ℕ)
    (heading : Heading) (n : ℕ) (text : List ℕ) →
    index < length headings →
    read_headings app cohort key target (drop index headings) n text
    ≡ on_line n (line_split text) (λ line rest.
    past_heading n
    (heading_flaw (get_or headings index heading) line
    (heading_line app cohort key target (get_or headings index heading)))
    (read_headings app cohort key target (drop (index + 1) headings) (n + 1) rest))
unfolding read_headings
read_headings-at app cohort key target headings index heading n text within =
    rw (drop-next headings index heading within) refl

-- a heading without its line feed is a wrong line
pub read_headings-missing :
    (app : App) (cohort : Cohort) (key : TrackKey) (target : Release) (headings : List Heading) (index : ℕ)
    (heading : Heading) (n : ℕ) (text : List ℕ) →
    index < length headings →
    line_split text ≡ None →
    read_headings app cohort key target (drop index headings) n text ≡ Err (BadLine n)
read_headings-missing app cohort key target headings index heading n text within missing =
    read_headings-at app cohort key target headings index heading n text within ∙ rw missing refl

-- so is one with a flaw
pub read_headings-flawed :
    (app : App) (cohort : Cohort) (key : TrackKey) (target : Release) (headings : List Heading) (index : ℕ)
    (heading : Heading) (n : ℕ) (text line rest : List ℕ) (flaw : Flaw) →
    index < length headings →
    line_split text ≡ Some (line, rest) →
    heading_flaw (get_or headings index heading) line
    (heading_line app cohort key target (get_or headings index heading)) ≡ Some flaw →
    read_headings app cohort key target (drop index headings) n text ≡ Err (fault_at n flaw)
read_headings-flawed app cohort key target headings index heading n text line rest flaw within split flawed =
    read_headings-at app cohort key target headings index heading n text within ∙ rw (split, flawed) refl

-- after one without a flaw the others are read
pub read_headings-next :
    (app : App) (cohort : Cohort) (key : TrackKey) (target : Release) (headings : List Heading) (index : ℕ)
    (heading : Heading) (n : ℕ) (text line rest : List ℕ) →
    index < length headings →
    line_split text ≡ Some (line, rest) →
    heading_flaw (get_or headings index heading) line
    (heading_line app cohort key target (get_or headings index heading)) ≡ None →
    read_headings app cohort key target (drop index headings) n text
    ≡ read_headings app cohort key target (drop (index + 1) headings) (n + 1) rest
read_headings-next app cohort key target headings index heading n text line rest within split fits =
    read_headings-at app cohort key target headings index heading n text within ∙ rw (split, fits) refl

-- the rest is what is left after the last heading
pub read_headings-end :
    (app : App) (cohort : Cohort) (key : TrackKey) (target : Release) (headings : List Heading) (index n : ℕ)
    (text : List ℕ) →
    length headings ≤ index →
    read_headings app cohort key target (drop index headings) n text ≡ Ok text
unfolding read_headings
read_headings-end app cohort key target headings index n text past =
    rw (drop_all index headings past) refl

-- the line of the release at an index is read, and then those after it
read_rows-at :
    (all releases : List Release) (index : ℕ) (release : Release) (n : ℕ) (text : List ℕ) →
    index < length releases →
    read_rows all (drop index releases) n text
    ≡ on_line n (line_split text) (λ line rest.
    with_row n (read_row all (get_or releases index release).spelled line)
    (read_rows all (drop (index + 1) releases) (n + 1) rest))
unfolding read_rows
read_rows-at all releases index release n text within =
    rw (drop-next releases index release within) refl

-- a release without a line is a wrong line
read_rows-none :
    (all left : List Release) (n : ℕ) (text : List ℕ) →
    0 < length left →
    line_split text ≡ None →
    read_rows all left n text ≡ Err (BadLine n)
unfolding read_rows
read_rows-none all [] n text some missing = absurd (omega arith)
read_rows-none all (release ∷ others) n text some missing = rw missing refl

pub read_rows-missing :
    (all releases : List Release) (index n : ℕ) (text : List ℕ) →
    index < length releases →
    line_split text ≡ None →
    read_rows all (drop index releases) n text ≡ Err (BadLine n)
read_rows-missing all releases index n text within missing =
    let left : length (drop index releases) ≡ length releases - index = length-drop index releases in
    read_rows-none all (drop index releases) n text (omega (arith, left, within)) missing

-- so is a line with a flaw
pub read_rows-flawed :
    (all releases : List Release) (index : ℕ) (release : Release) (n : ℕ) (text line rest : List ℕ) (flaw : Flaw) →
    index < length releases →
    line_split text ≡ Some (line, rest) →
    read_row all (get_or releases index release).spelled line ≡ Err flaw →
    read_rows all (drop index releases) n text ≡ Err (fault_at n flaw)
read_rows-flawed all releases index release n text line rest flaw within split flawed =
    read_rows-at all releases index release n text within ∙ rw (split, flawed) refl

-- after the row of a line the others are read
pub read_rows-next :
    (all releases : List Release) (index : ℕ) (release : Release) (n next : ℕ) (text line rest : List ℕ) (row : Row) →
    index < length releases →
    next ≡ n + 1 →
    line_split text ≡ Some (line, rest) →
    read_row all (get_or releases index release).spelled line ≡ Ok row →
    read_rows all (drop index releases) n text ≡ with_row n (Ok row)
    (read_rows all (drop (index + 1) releases) next rest)
read_rows-next all releases index release n next text line rest row within follows split read =
    read_rows-at all releases index release n text within ∙ rw (split, read, follows) refl

-- nothing may be left after the last release
pub read_rows-end :
    (all releases : List Release) (index n : ℕ) (text : List ℕ) →
    length releases ≤ index →
    length text ≡ 0 →
    read_rows all (drop index releases) n text ≡ Ok []
unfolding read_rows
read_rows-end all releases index n [] past none = rw (drop_all index releases past) refl
read_rows-end all releases index n (byte ∷ text) past none = absurd (omega arith)

pub read_rows-left :
    (all releases : List Release) (index n : ℕ) (text : List ℕ) →
    length releases ≤ index →
    0 < length text →
    read_rows all (drop index releases) n text ≡ Err (BadLine n)
unfolding read_rows
read_rows-left all releases index n [] past some = absurd (omega arith)
read_rows-left all releases index n (byte ∷ text) past some = rw (drop_all index releases past) refl

-- a row at the end of the others
pub with_rows-push :
    (n : ℕ) (rows : List Row) (row : Row) (reading : Result (List Row) Fault) →
    with_rows (rows ++ row ∷ []) reading ≡ with_rows rows (with_row n (Ok row) reading)
with_rows-push n rows row (Ok others) = ap Ok (append_assoc rows (row ∷ []) others)
with_rows-push n rows row (Err fault) = refl
