-- Bytes that are read are those that are written of what they give.
use Rattle.std.proofs.Common.{◌≡◌, ℕ, ◌+◌, ◌-◌, ◌<◌, Bool, true, false, cond, suc, List, [], ◌∷◌, ◌++◌, length, get_or, drop, take, ◌&&◌, Option, None, Some, unwrap_or, Result, Ok, Err, refl, sym, ap, ◌∙◌, add-one, append_assoc, arith, drop-cons}
use Rattle.std.specs.Prelude.{position}
use Rattle.std.specs.Option.{option_map, option_map_or}
use Rattle.std.specs.Str.{bytes_eq, is_utf8}
use Rattle.std.proofs.Math.Seq.{split_at}
use Rattle.std.proofs.lemmas.Bool.{and_parts, eqb-true}
use Rattle.std.proofs.lemmas.List.{length-drop}
use Rattle.std.proofs.lemmas.List.Quantifiers.{position-Some}
use Rattle.std.proofs.lemmas.Option.{slice_get-get_or}
use Rattle.std.proofs.lemmas.Slice.Eq.{bytes_eq-Decides}
use Rattle.catalogue.specs.declared.content.App.{App}
use Rattle.catalogue.specs.declared.content.Cohort.{Cohort}
use Rattle.catalogue.specs.declared.content.Release.{Release}
use Rattle.payload_graph.specs.declared.payload.TrackKey.{TrackKey}
use Rattle.price_cert.specs.declared.row.Row.{Row}
use Rattle.certificates.specs.Forms.{first_of, is_version, rest_of}
use Rattle.certificates.specs.Headings.{heading_line, headings, is_heading}
use Rattle.certificates.specs.Reading.{entry_of, heading_flaw, is_entry, is_feed, is_row, line_split, on_line, or_other, past_heading, read_headings, read_row, read_rows, read_body, row_of, rows_after, with_row}
use Rattle.certificates.specs.Strings.{ended, headings_string, row_line, rows_from, spelled_at, string_of}
use Rattle.certificates.specs.declared.fault.Fault.{Fault}
use Rattle.certificates.specs.declared.fault.Flaw.{Flaw}
use Rattle.certificates.specs.declared.fault.Flaw.TheVariants.{Form, Other}
use Rattle.certificates.specs.declared.heading.Heading.{Heading}
use Rattle.certificates.proofs.EntryLemmas.{entry-back, entry-some, fields-whole}

-- a first line and what is after it are the whole
split-whole : (text line rest : List ℕ) → line_split text ≡ Some (line, rest) → text ≡ ended line ++ rest
split-whole text line rest split = by_place (position is_feed text) refl split
  where
    by_place :
        (found : Option ℕ) → position is_feed text ≡ found →
        option_map {U = List ℕ × List ℕ} (λ at. (take at text, drop (at + 1) text)) found ≡ Some (line, rest) →
        text ≡ ended line ++ rest
    by_place None found split = cc
    by_place (Some at) found split =
        let there = position-Some is_feed text at 0 found in
        let feed : get_or text at 0 ≡ 10 = eqb-true (get_or text at 0) 10 there.1 in
        let same_line : take at text ≡ line = ap (λ (read : Option (List ℕ × List ℕ)). (unwrap_or read (line, rest)).0)
        split in
        let same_rest : drop (at + 1) text ≡ rest = ap
        (λ (read : Option (List ℕ × List ℕ)). (unwrap_or read (line, rest)).1) split in
        split_at text at 0 there.0
        ∙ ap (λ byte. take at text ++ (byte ∷ drop (suc at) text)) feed
        ∙ ap (λ next. take at text ++ (10 ∷ drop next text)) (sym (add-one at))
        ∙ ap (λ front. front ++ (10 ∷ drop (at + 1) text)) same_line
        ∙ ap (λ behind. line ++ (10 ∷ behind)) same_rest
        ∙ sym (append_assoc line (10 ∷ []) rest)

-- the line of a release is written as it was read
row-back :
    (releases : List Release) (index : ℕ) (spelled line : List ℕ) (row : Row) →
    spelled_at releases index ≡ spelled →
    read_row releases spelled line ≡ Ok row →
    line ≡ row_line releases index row
row-back releases index spelled line row at read = by_form (is_utf8 line) (is_row line) refl read
  where
    by_spelled :
        is_row line ≡ true → (same : Bool) → bytes_eq (first_of line) spelled ≡ same →
        or_other (cond same (entry_of releases (rest_of line)) None) ≡ Ok row →
        line ≡ row_line releases index row
    by_spelled is false other read = cc
    by_spelled is true same read =
        let parts = and_parts (is_version (first_of line)) (is_entry (rest_of line)) is in
        let found : entry_of releases (rest_of line) ≡ Some row = by_entry (entry_of releases (rest_of line)) read in
        fields-whole line (entry-some (rest_of line) parts.1)
        ∙ ap (λ front. front ++ 32 ∷ rest_of line) ((bytes_eq-Decides (first_of line) spelled).0 same ∙ sym at)
        ∙ ap (λ behind. spelled_at releases index ++ 32 ∷ behind) (entry-back releases (rest_of line) row parts.1 found)
      where
        result_or : Result Row Flaw → Row → Row
        result_or (Ok one) other = one
        result_or (Err flaw) other = other

        by_entry : (found : Option Row) → or_other found ≡ Ok row → found ≡ Some row
        by_entry None read = cc
        by_entry (Some own) read = ap (λ (r : Result Row Flaw). Some (result_or r row)) read

    by_form :
        (utf8 formed : Bool) → is_row line ≡ formed →
        cond {A = Result Row Flaw} (utf8 && formed) (or_other (row_of releases spelled line)) (Err Form) ≡ Ok row →
        line ≡ row_line releases index row
    by_form true true is read = by_spelled is (bytes_eq (first_of line) spelled) refl read
    by_form true false is read = cc
    by_form false formed is read = cc

abbrev rows_or : Result (List Row) Fault → List Row → List Row
rows_or (Ok found) other = found
rows_or (Err fault) other = other

-- the lines of the releases that are left
rows-back :
    (all left : List Release) (index n : ℕ) (text : List ℕ) (rows : List Row) →
    left ≡ drop index all →
    read_rows all left n text ≡ Ok rows →
    text ≡ rows_from all index rows
unfolding read_rows rows_from
rows-back all [] index n [] rows at read =
    ap (rows_from all index) (ap (λ (r : Result (List Row) Fault). rows_or r rows) read)
rows-back all [] index n (byte ∷ text) rows at read = cc
rows-back all (release ∷ others) index n text rows at read =
    by_line (line_split text) refl (λ rest found is. rows-back all others (index + 1) (n + 1) rest found next is) read
  where
    count : suc (length others) ≡ length all - index
    count = ap length at ∙ length-drop index all

    within : index < length all
    within = omega (arith, count)

    both : release ∷ others ≡ get_or all index release ∷ drop (suc index) all
    both = at ∙ drop-cons all index release within

    head : release ≡ get_or all index release
    head = ap (λ (items : List Release). get_or items 0 release) both

    next : others ≡ drop (index + 1) all
    next = ap (λ (items : List Release). drop 1 items) both ∙ ap (λ i. drop i all) (sym (add-one index))

    spelled : spelled_at all index ≡ release.spelled
    spelled =
        ap (λ (r : Option Release). option_map_or (λ (own : Release). own.spelled) r [])
        (slice_get-get_or all index release within)
        ∙ ap (λ (own : Release). own.spelled) (sym head)

    Later : Type 0
    Later = (rest : List ℕ) (found : List Row) → read_rows all others (n + 1) rest ≡ Ok found →
        rest ≡ rows_from all (index + 1) found

    by_rest :
        (line rest : List ℕ) (row : Row) (found : Result (List Row) Fault) → Later →
        text ≡ ended line ++ rest → line ≡ row_line all index row →
        read_rows all others (n + 1) rest ≡ found →
        with_row n (Ok row) found ≡ Ok rows → text ≡ rows_from all index rows
    by_rest line rest row (Ok found) later whole own is read =
        whole
        ∙ ap (λ first. ended first ++ rest) own
        ∙ ap (λ behind. ended (row_line all index row) ++ behind) (later rest found is)
        ∙ ap (rows_from all index) (ap (λ (r : Result (List Row) Fault). rows_or r rows) read)
    by_rest line rest row (Err fault) later whole own is read = cc

    by_row :
        (line rest : List ℕ) (found : Result Row Flaw) → Later →
        text ≡ ended line ++ rest → read_row all release.spelled line ≡ found →
        with_row n found (read_rows all others (n + 1) rest) ≡ Ok rows → text ≡ rows_from all index rows
    by_row line rest (Ok row) later whole own read =
        by_rest line rest row (read_rows all others (n + 1) rest) later whole
        (row-back all index release.spelled line row spelled own) refl read
    by_row line rest (Err flaw) later whole own read = cc

    by_line :
        (split : Option (List ℕ × List ℕ)) → line_split text ≡ split → Later →
        on_line n split (λ line rest. with_row n (read_row all release.spelled line)
        (read_rows all others (n + 1) rest)) ≡ Ok rows →
        text ≡ rows_from all index rows
    by_line None is later read = cc
    by_line (Some parts) is later read =
        by_row parts.0 parts.1 (read_row all release.spelled parts.0) later (split-whole text parts.0 parts.1 is) refl
        read

abbrev text_or : Result (List ℕ) Fault → List ℕ → List ℕ
text_or (Ok found) other = found
text_or (Err fault) other = other

-- the headings that are left
headings-back :
    (app : App) (cohort : Cohort) (key : TrackKey) (target : Release) (left : List Heading) (n : ℕ) (text rest : List ℕ)
    →
    read_headings app cohort key target left n text ≡ Ok rest →
    text ≡ headings_string app cohort key target left ++ rest
unfolding read_headings headings_string
headings-back app cohort key target [] n text rest read = ap (λ (r : Result (List ℕ) Fault). text_or r rest) read
headings-back app cohort key target (heading ∷ others) n text rest read =
    by_line (line_split text) refl (λ behind is. headings-back app cohort key target others (n + 1) behind rest is) read
  where
    wanted : List ℕ
    wanted = heading_line app cohort key target heading

    Later : Type 0
    Later = (behind : List ℕ) → read_headings app cohort key target others (n + 1) behind ≡ Ok rest →
        behind ≡ headings_string app cohort key target others ++ rest

    by_same :
        (line behind : List ℕ) → Later → text ≡ ended line ++ behind →
        (same formed : Bool) → bytes_eq line wanted ≡ same →
        past_heading n (cond {A = Option Flaw} same None (cond formed (Some Other) (Some Form)))
        (read_headings app cohort key target others (n + 1) behind) ≡ Ok rest →
        text ≡ headings_string app cohort key target (heading ∷ others) ++ rest
    by_same line behind later whole true formed same read =
        whole
        ∙ ap (λ first. ended first ++ behind) ((bytes_eq-Decides line wanted).0 same)
        ∙ ap (λ after. ended wanted ++ after) (later behind read)
        ∙ sym (append_assoc (ended wanted) (headings_string app cohort key target others) rest)
    by_same line behind later whole false true same read = cc
    by_same line behind later whole false false same read = cc

    by_line :
        (split : Option (List ℕ × List ℕ)) → line_split text ≡ split → Later →
        on_line n split (λ line behind. past_heading n (heading_flaw heading line wanted)
        (read_headings app cohort key target others (n + 1) behind)) ≡ Ok rest →
        text ≡ headings_string app cohort key target (heading ∷ others) ++ rest
    by_line None is later read = cc
    by_line (Some parts) is later read =
        by_same parts.0 parts.1 later (split-whole text parts.0 parts.1 is) (bytes_eq parts.0 wanted)
        (is_heading heading parts.0) refl read

-- all of them
pub read_body-back :
    (app : App) (cohort : Cohort) (key : TrackKey) (target : Release) (text : List ℕ) (rows : List Row) →
    read_body app cohort key target text ≡ Ok rows → string_of app cohort key target rows ≡ text
read_body-back app cohort key target text rows read =
    by_headings (read_headings app cohort key target headings 1 text) refl read
  where
    by_headings :
        (found : Result (List ℕ) Fault) → read_headings app cohort key target headings 1 text ≡ found →
        rows_after app.releases found ≡ Ok rows → string_of app cohort key target rows ≡ text
    by_headings (Err fault) is read = cc
    by_headings (Ok rest) is read =
        ap (λ behind. headings_string app cohort key target headings ++ behind)
        (sym (rows-back app.releases app.releases 0 8 rest rows refl read))
        ∙ sym (headings-back app cohort key target headings 1 text rest is)
