-- A table without floats is printed as one TOML document.
use Rattle.std.proofs.Common.{◌≡◌, ℕ, Bool, true, false, ◌&&◌, List, [], ◌∷◌, ◌++◌, codes, refl, sym, ap, ◌∙◌, inl, inr}
use Rattle.std.proofs.lemmas.Bool.{and_parts, cases_Bool, false≢true}
use Rattle.toml_parser.specs.Lexical.{line_feed}
use Rattle.toml_parser.specs.Strings.{Key}
use Rattle.toml_writer.specs.Text.{dotted_text, key_text}
use Rattle.toml.specs.Data.{Data, string, integer, float, boolean, datetime, array, table, Items, no_items, item, Members, no_members, member}
use Rattle.toml.specs.Tables.{Definition, key_value, std_table, array_table, Expression}
use Rattle.toml.specs.Text.{IsDocumentText, IsItemsText, IsLineText, IsLinesText, IsMembersText, IsValueText, after_item, are_tables, before_item, before_member, breaks_lines, elements, expressions, is_section, needs_header, pairs, section, sections}

-- there is no float inside
abbrev mutual
  pub is_plain : Data → Bool
  is_plain (string s) = true
  is_plain (integer z) = true
  is_plain (float x) = false
  is_plain (boolean b) = true
  is_plain (datetime dt) = true
  is_plain (array ds) = items_are_plain ds
  is_plain (table ms) = members_are_plain ms

  pub items_are_plain : Items → Bool
  items_are_plain no_items = true
  items_are_plain (item d ds) = is_plain d && items_are_plain ds

  pub members_are_plain : Members → Bool
  members_are_plain no_members = true
  members_are_plain (member k d ms) = is_plain d && members_are_plain ms

-- a value is written as one string
mutual
  value_once : (d : Data) → is_plain d ≡ true → (s t : List ℕ) → IsValueText false d s → IsValueText false d t → s ≡ t
  value_once (string x) plain s t a b = a ∙ sym b
  value_once (integer x) plain s t a b = a.0 ∙ sym b.0
  value_once (float x) plain s t a b = absurd (false≢true plain)
  value_once (boolean x) plain s t a b = a ∙ sym b
  value_once (datetime x) plain s t a b = a ∙ sym b
  value_once (array ds) plain s t a b =
      let rest = items_once (breaks_lines false ds) true ds plain a.0 b.0 a.2 b.2 in
      a.1 ∙ ap (λ (r : List ℕ). codes "[" ++ r) rest ∙ sym b.1
  value_once (table ms) plain s t a b =
      let rest = members_once true ms plain a.0 b.0 a.2 b.2 in
      a.1 ∙ ap (λ (r : List ℕ). codes "{" ++ r) rest ∙ sym b.1

  items_once : (lines is_first : Bool) (ds : Items) → items_are_plain ds ≡ true → (s t : List ℕ)
      → IsItemsText false lines is_first ds s → IsItemsText false lines is_first ds t → s ≡ t
  items_once lines is_first no_items plain s t a b = a ∙ sym b
  items_once lines is_first (item d ds) plain s t a b =
      let parts = and_parts (is_plain d) (items_are_plain ds) plain in
      let this = value_once d parts.0 a.0 b.0 a.3 b.3 in
      let rest = items_once lines false ds parts.1 a.1 b.1 a.4 b.4 in
      a.2 ∙ ap (λ (v : List ℕ). before_item lines is_first ++ (v ++ (after_item lines ++ a.1))) this
      ∙ ap (λ (r : List ℕ). before_item lines is_first ++ (b.0 ++ (after_item lines ++ r))) rest ∙ sym b.2

  members_once : (is_first : Bool) (ms : Members) → members_are_plain ms ≡ true → (s t : List ℕ)
      → IsMembersText false is_first ms s → IsMembersText false is_first ms t → s ≡ t
  members_once is_first no_members plain s t a b = a ∙ sym b
  members_once is_first (member k d ms) plain s t a b =
      let parts = and_parts (is_plain d) (members_are_plain ms) plain in
      let this = value_once d parts.0 a.0 b.0 a.3 b.3 in
      let rest = members_once false ms parts.1 a.1 b.1 a.4 b.4 in
      a.2 ∙ ap (λ (v : List ℕ). before_member is_first ++ (key_text k ++ (codes " = " ++ (v ++ a.1)))) this
      ∙ ap (λ (r : List ℕ). before_member is_first ++ (key_text k ++ (codes " = " ++ (b.0 ++ r)))) rest ∙ sym b.2

-- so are a line and lines
abbrev plain_line : Definition → Bool
plain_line (key_value d) = is_plain d
plain_line std_table = true
plain_line array_table = true

abbrev ArePlain : List Expression → Type 0
ArePlain [] = Unit {0}
ArePlain (e ∷ es) = (plain_line e.1 ≡ true) × ArePlain es

line_once : (started : Bool) (key : Key) (what : Definition) → plain_line what ≡ true → (s t : List ℕ)
    → IsLineText false started key what s → IsLineText false started key what t → s ≡ t
line_once started key (key_value d) plain s t a b =
    let this = value_once d plain a.0 b.0 a.2 b.2 in
    a.1 ∙ ap (λ (v : List ℕ). dotted_text key ++ (codes " = " ++ (v ++ line_feed ∷ []))) this ∙ sym b.1
line_once started key std_table plain s t a b = a ∙ sym b
line_once started key array_table plain s t a b = a ∙ sym b

lines_once : (started : Bool) (es : List Expression) → ArePlain es → (s t : List ℕ)
    → IsLinesText false started es s → IsLinesText false started es t → s ≡ t
lines_once started [] plain s t a b = a ∙ sym b
lines_once started (e ∷ es) plain s t a b =
    let this = line_once started e.0 e.1 plain.0 a.0 b.0 a.3 b.3 in
    let rest = lines_once true es plain.1 a.1 b.1 a.4 b.4 in
    a.2 ∙ ap (λ (v : List ℕ). v ++ a.1) this ∙ ap (λ (r : List ℕ). b.0 ++ r) rest ∙ sym b.2

-- the lines of a plain table are plain
ArePlain-append : (es fs : List Expression) → ArePlain es → ArePlain fs → ArePlain (es ++ fs)
ArePlain-append [] fs a b = b
ArePlain-append (e ∷ es) fs a b = (a.0, ArePlain-append es fs a.1 b)

pairs_plain : (ms : Members) → members_are_plain ms ≡ true → ArePlain (pairs ms)
pairs_plain no_members plain = tt
pairs_plain (member k d ms) plain =
    let parts = and_parts (is_plain d) (members_are_plain ms) plain in
    elim (cases_Bool (is_section d)) [
      | inl in_section ↦ rw in_section (pairs_plain ms parts.1)
      | inr pair ↦ rw pair (parts.0, pairs_plain ms parts.1)
    ]

mutual
  sections_plain : (p : List (List ℕ)) (ms : Members) → members_are_plain ms ≡ true → ArePlain (sections p ms)
  sections_plain p no_members plain = tt
  sections_plain p (member k d ms) plain =
      let parts = and_parts (is_plain d) (members_are_plain ms) plain in
      ArePlain-append _ _ (section_plain (p, k) d parts.0) (sections_plain p ms parts.1)

  section_plain : (key : Key) (d : Data) → is_plain d ≡ true → ArePlain (section key d)
  section_plain key (string x) plain = tt
  section_plain key (integer x) plain = tt
  section_plain key (float x) plain = tt
  section_plain key (boolean x) plain = tt
  section_plain key (datetime x) plain = tt
  section_plain key (array ds) plain =
      elim (cases_Bool (are_tables ds)) [
        | inl all ↦ rw all (elements_plain key ds plain)
        | inr other ↦ rw other tt
      ]
  section_plain key (table ms) plain =
      let below = ArePlain-append _ _ (pairs_plain ms plain) (sections_plain (key.0 ++ key.1 ∷ []) ms plain) in
      elim (cases_Bool (needs_header ms)) [
        | inl needed ↦ rw needed (refl, below)
        | inr none ↦ rw none below
      ]

  elements_plain : (key : Key) (ds : Items) → items_are_plain ds ≡ true → ArePlain (elements key ds)
  elements_plain key no_items plain = tt
  elements_plain key (item (string x) ds) plain = elements_plain key ds plain
  elements_plain key (item (integer x) ds) plain = elements_plain key ds plain
  elements_plain key (item (float x) ds) plain = absurd (false≢true plain)
  elements_plain key (item (boolean x) ds) plain = elements_plain key ds plain
  elements_plain key (item (datetime x) ds) plain = elements_plain key ds plain
  elements_plain key (item (array xs) ds) plain = elements_plain key ds (and_parts (items_are_plain xs) (items_are_plain ds) plain).1
  elements_plain key (item (table ms) ds) plain =
      let parts = and_parts (members_are_plain ms) (items_are_plain ds) plain in
      let inside = ArePlain-append _ _ (pairs_plain ms parts.0) (sections_plain (key.0 ++ key.1 ∷ []) ms parts.0) in
      (refl, ArePlain-append _ _ inside (elements_plain key ds parts.1))

-- a plain table has one document
pub IsDocumentText-once : (ms : Members) → members_are_plain ms ≡ true → (s t : List ℕ)
    → IsDocumentText false ms s → IsDocumentText false ms t → s ≡ t
IsDocumentText-once ms plain s t a b =
    lines_once false (expressions ms) (ArePlain-append _ _ (pairs_plain ms plain) (sections_plain [] ms plain)) s t a b
