-- Bytes that are written are read as the rows that they were written of.
use Rattle.std.proofs.Common.{◌≡◌, ℕ, suc, ◌+◌, ◌-◌, ◌<◌, ◌≤◌, Bool, true, false, cond, codes, List, [], ◌∷◌, ◌++◌, length, get_or, drop, Option, None, Some, Result, Ok, refl, sym, ap, ◌∙◌, add-one, append_assoc, arith, drop-cons}
use Rattle.std.specs.Fmt.{decimal}
use Rattle.std.specs.List.{AllByRecursion}
use Rattle.std.specs.Option.{option_map_or}
use Rattle.std.proofs.lemmas.List.{length-drop}
use Rattle.std.proofs.lemmas.Option.{slice_get-get_or}
use Rattle.std.proofs.lemmas.Slice.Eq.{bytes_eq-Decides}
use Rattle.hex.specs.Hex.{encode_lower}
use Rattle.catalogue.specs.VersionLaws.{BelowIsIrreflexive}
use Rattle.catalogue.specs.declared.content.App.{App}
use Rattle.catalogue.specs.declared.content.Cohort.{Cohort}
use Rattle.catalogue.specs.declared.content.Release.{Release}
use Rattle.cohorts.specs.declared.track.Lane.{Lane}
use Rattle.cohorts.specs.declared.track.Lane.TheVariants as lane
use Rattle.payload_graph.specs.declared.payload.TrackKey.{TrackKey}
use Rattle.price_cert.specs.declared.row.Row.{Row}
use Rattle.certificates.specs.Headings.{heading_line, headings, is_heading, lane_word, rollback_word}
use Rattle.certificates.specs.Laws.{IsStatable}
use Rattle.certificates.specs.Reading.{heading_flaw, line_split, on_line, past_heading, read_headings, read_row, read_rows, read_body, rows_after, with_row}
use Rattle.certificates.specs.Strings.{ended, headings_string, row_line, rows_from, spelled_at, string_of}
use Rattle.certificates.specs.declared.fault.Fault.{Fault}
use Rattle.certificates.specs.declared.fault.Flaw.{Flaw}
use Rattle.certificates.specs.declared.fault.Flaw.TheVariants.{Form, Other}
use Rattle.certificates.specs.declared.heading.Heading.{Heading}
use Rattle.certificates.specs.declared.heading.Heading.TheVariants as heading
use Rattle.certificates.proofs.CutLemmas.{line_split-ended}
use Rattle.certificates.proofs.SpelledLemmas.{AreSpelled}
use Rattle.certificates.proofs.StatedLemmas.{IsLine-row, read_row-line}
use Rattle.certificates.proofs.VisibleLemmas.{IsLine, IsLine-append, IsLine-space, IsLine-visible, IsVisible-decimal}

-- what a track's headings are written of is visible
pub record IsTitled (app : App) (cohort : Cohort) (target : Release) : Type 0 where
  pub id : IsLine app.id
  pub name : IsLine cohort.name
  pub spelled : IsLine target.spelled
  pub hash : IsLine (encode_lower target.hash)
  pub few : length app.releases ≤ 512

module _ (app : App) (cohort : Cohort) (key : TrackKey) (target : Release) (titled : IsTitled app cohort target) where
  line-lane : (own : Lane) → IsLine (lane_word own)
  line-lane lane.Target = refl
  line-lane lane.Held = refl

  line-rollback : (own : Bool) → IsLine (rollback_word own)
  line-rollback true = refl
  line-rollback false = refl

  -- each heading is a line
  IsLine-heading : (own : Heading) → IsLine (heading_line app cohort key target own)
  IsLine-heading heading.Format = refl
  IsLine-heading heading.App = IsLine-append (codes "app ") app.id refl titled.id
  IsLine-heading heading.Cohort = IsLine-append (codes "cohort ") cohort.name refl titled.name
  IsLine-heading heading.Lane = IsLine-append (codes "lane ") (lane_word key.lane) refl (line-lane key.lane)
  IsLine-heading heading.Rollback = IsLine-append (codes "rollback ") (rollback_word key.rollback) refl
      (line-rollback key.rollback)
  IsLine-heading heading.Target =
      IsLine-append (codes "target ") (target.spelled ++ 32 ∷ encode_lower target.hash) refl
      (IsLine-append target.spelled (32 ∷ encode_lower target.hash) titled.spelled
      (IsLine-space (encode_lower target.hash) titled.hash))
  IsLine-heading heading.Rows =
      let few = titled.few in
      IsLine-append (codes "rows ") (decimal (length app.releases)) refl
      (IsLine-visible (decimal (length app.releases)) (IsVisible-decimal (length app.releases) (omega arith)))

  -- a heading that is the one wanted has no flaw
  flawless : (own : Heading) (line : List ℕ) → heading_flaw own line line ≡ None
  flawless own line =
      ap (λ (b : Bool). cond {A = Option Flaw} b None (cond (is_heading own line) (Some Other) (Some Form)))
      ((bytes_eq-Decides line line).1 refl)

  -- the headings that are left are read
  pub read_headings-written :
      (left : List Heading) (n : ℕ) (rest : List ℕ) →
      read_headings app cohort key target left n (headings_string app cohort key target left ++ rest) ≡ Ok rest
  unfolding read_headings headings_string
  read_headings-written [] n rest = refl
  read_headings-written (own ∷ others) n rest =
      let line = heading_line app cohort key target own in
      let after = headings_string app cohort key target others ++ rest in
      let split = line_split-ended line after (IsLine-heading own) in
      let whole = append_assoc (ended line) (headings_string app cohort key target others) rest in
      ap (λ (text : List ℕ). on_line n (line_split text)
      (λ first behind. past_heading n (heading_flaw own first line)
      (read_headings app cohort key target others (n + 1) behind))) whole
      ∙ ap (λ (o : Option (List ℕ × List ℕ)). on_line n o
      (λ first behind. past_heading n (heading_flaw own first line)
      (read_headings app cohort key target others (n + 1) behind))) split
      ∙ ap (λ (o : Option Flaw). past_heading n o (read_headings app cohort key target others (n + 1) after))
      (flawless own line)
      ∙ read_headings-written others (n + 1) rest

module _ (irreflexive : BelowIsIrreflexive) (cohorts : List Cohort) (all : List Release)
    (spelled : AreSpelled cohorts all) where
  -- the rows of the releases that are left are read
  pub read_rows-written :
      (left : List Release) (index n : ℕ) (rows : List Row) → left ≡ drop index all → length rows ≡ length left →
      AllByRecursion (IsStatable (length all)) rows → read_rows all left n (rows_from all index rows) ≡ Ok rows
  unfolding read_rows rows_from
  read_rows-written [] index n [] at sized each = refl
  read_rows-written [] index n (row ∷ rows) at sized each = absurd (omega arith)
  read_rows-written (release ∷ others) index n [] at sized each = absurd (omega arith)
  read_rows-written (release ∷ others) index n (row ∷ rows) at sized each =
      let count : suc (length others) ≡ length all - index = ap length at ∙ length-drop index all in
      let within : index < length all = omega (arith, count) in
      let both : release ∷ others ≡ get_or all index release ∷ drop (suc index) all = at ∙ drop-cons all index release
      within in
      let head : release ≡ get_or all index release = ap (λ (items : List Release). get_or items 0 release) both in
      let next : others ≡ drop (index + 1) all = ap (λ (items : List Release). drop 1 items) both ∙ ap (λ i. drop i all)
      (sym (add-one index)) in
      let own : spelled_at all index ≡ release.spelled =
      ap (λ (r : Option Release). option_map_or (λ (o : Release). o.spelled) r [])
      (slice_get-get_or all index release within)
      ∙ ap (λ (o : Release). o.spelled) (sym head) in
      let line = row_line all index row in
      let after = rows_from all (index + 1) rows in
      let split = line_split-ended line after
      (IsLine-row irreflexive cohorts all spelled index row release within each.0) in
      let read : read_row all release.spelled line ≡ Ok row =
      ap (λ (text : List ℕ). read_row all text line) (sym own) ∙ read_row-line irreflexive cohorts all spelled index
      row release within each.0 in
      let later = read_rows-written others (index + 1) (n + 1) rows next (omega arith) each.1 in
      ap (λ (o : Option (List ℕ × List ℕ)). on_line n o
      (λ first behind. with_row n (read_row all release.spelled first) (read_rows all others (n + 1) behind))) split
      ∙ ap (λ (r : Result Row Flaw). with_row n r (read_rows all others (n + 1) after)) read
      ∙ ap (λ (r : Result (List Row) Fault). with_row n (Ok row) r) later

-- the bytes of a track's rows are read as those rows
pub read_body-written :
    BelowIsIrreflexive →
    (app : App) (cohort : Cohort) (key : TrackKey) (target : Release) (rows : List Row) →
    IsTitled app cohort target → AreSpelled app.cohorts app.releases →
    length rows ≡ length app.releases → AllByRecursion (IsStatable (length app.releases)) rows →
    read_body app cohort key target (string_of app cohort key target rows) ≡ Ok rows
read_body-written irreflexive app cohort key target rows titled spelled sized each =
    ap (λ (r : Result (List ℕ) Fault). rows_after app.releases r)
    (read_headings-written app cohort key target titled headings 1 (rows_from app.releases 0 rows))
    ∙ read_rows-written irreflexive app.cohorts app.releases spelled app.releases 0 8 rows refl sized each
