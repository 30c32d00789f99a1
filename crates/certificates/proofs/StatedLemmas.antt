-- What is written of a row is read back from its line.
use Rattle.std.proofs.Common.{◌≡◌, ℕ, ◌<◌, Bool, true, false, cond, codes, List, [], ◌∷◌, ◌++◌, length, Option, None, Some, refl, sym, ap, ◌∙◌, arith}
use Rattle.std.specs.Prelude.{Ok, position}
use Rattle.std.specs.Fmt.{decimal}
use Rattle.std.specs.Option.{is_some, option_and_then, option_map}
use Rattle.std.specs.Str.{bytes_eq}
use Rattle.std.proofs.lemmas.Bool.{and_from, false_from_ne_true}
use Rattle.std.proofs.lemmas.Slice.Eq.{bytes_eq-Decides}
use Rattle.catalogue.specs.VersionLaws.{BelowIsIrreflexive}
use Rattle.catalogue.specs.declared.content.Cohort.{Cohort}
use Rattle.catalogue.specs.declared.content.Release.{Release}
use Rattle.payload_graph.specs.declared.edge.Kind.{Kind}
use Rattle.payload_graph.specs.declared.edge.Kind.TheVariants.{Full, Differ}
use Rattle.price_cert.specs.declared.row.Row.{Row}
use Rattle.price_cert.specs.declared.row.Row.TheVariants.{Nothing, End, Price}
use Rattle.certificates.specs.Forms.{first_of, is_either, is_version, number_below, price_bound, rest_of}
use Rattle.certificates.specs.Laws.{IsStatable}
use Rattle.certificates.specs.Reading.{entry_of, is_entry, is_payload, is_row, is_spelled, kind_named, payload_of, read_row, row_of}
use Rattle.certificates.specs.Strings.{entry_string, kind_word, row_line, spelled_at}
use Rattle.certificates.proofs.CutLemmas.{first_of-cut, rest_of-cut}
use Rattle.certificates.proofs.VisibleLemmas.{IsLine, IsLine-append, IsLine-space, IsLine-visible, IsVisible, IsVisible-decimal, utf8-line}
use Rattle.certificates.proofs.SpelledLemmas.{AreSpelled, IsVisible-spelled, is_version-spelled, number_below-decimal, position-spelled}

module _ (irreflexive : BelowIsIrreflexive) (cohorts : List Cohort) (releases : List Release)
    (spelled : AreSpelled cohorts releases) where
  -- a kind's word
  visible-kind : (kind : Kind) → IsVisible (kind_word kind)
  visible-kind Full = refl
  visible-kind Differ = refl

  either-kind : (kind : Kind) → is_either (codes "full") (codes "diff") (kind_word kind) ≡ true
  either-kind Full = refl
  either-kind Differ = refl

  named-kind : (kind : Kind) → kind_named (kind_word kind) ≡ kind
  named-kind Full = refl
  named-kind Differ = refl

  -- what follows a price is not what follows the other entries' first word
  not_end : (kind : Kind) (text : List ℕ) → ¬ (kind_word kind ++ 32 ∷ text ≡ codes "end")
  not_end Full text same = cc
  not_end Differ text same = cc

  not_nil : (kind : Kind) (text : List ℕ) → ¬ (kind_word kind ++ 32 ∷ text ≡ [])
  not_nil Full text same = cc
  not_nil Differ text same = cc

  -- a payload's entry
  module _ (price : ℕ) (kind : Kind) (to : ℕ) (d : Release)
      (statable : IsStatable (length releases) (Price price kind to)) where
    abbrev entry : List ℕ
    entry = entry_string releases (Price price kind to)

    abbrev goal : List ℕ
    goal = spelled_at releases to

    visible-price : IsVisible (decimal price)
    visible-price = let low = statable.0 in IsVisible-decimal price (omega arith)

    first : first_of entry ≡ decimal price
    first = first_of-cut (decimal price) (kind_word kind ++ 32 ∷ goal) visible-price

    rest : rest_of entry ≡ kind_word kind ++ 32 ∷ goal
    rest = rest_of-cut (decimal price) (kind_word kind ++ 32 ∷ goal) visible-price

    word : first_of (rest_of entry) ≡ kind_word kind
    word = ap first_of rest ∙ first_of-cut (kind_word kind) goal (visible-kind kind)

    last : rest_of (rest_of entry) ≡ goal
    last = ap rest_of rest ∙ rest_of-cut (kind_word kind) goal (visible-kind kind)

    number : number_below price_bound (first_of entry) ≡ Some price
    number = ap (number_below price_bound) first ∙ number_below-decimal price_bound price (omega arith) statable.0

    is_payload-entry : is_payload entry ≡ true
    is_payload-entry =
        and_from _ _
        (and_from _ _
        (ap (λ (o : Option ℕ). is_some o) number)
        (ap (is_either (codes "full") (codes "diff")) word ∙ either-kind kind))
        (ap is_version last ∙ is_version-spelled irreflexive cohorts releases spelled to d statable.1)

    apart-none : bytes_eq entry (codes "none") ≡ false
    apart-none =
        false_from_ne_true _ (λ same.
        not_nil kind goal (sym rest ∙ ap rest_of ((bytes_eq-Decides entry (codes "none")).0 same)))

    apart-end : bytes_eq entry (codes "0 end") ≡ false
    apart-end =
        false_from_ne_true _ (λ same.
        not_end kind goal (sym rest ∙ ap rest_of ((bytes_eq-Decides entry (codes "0 end")).0 same)))

    is_entry-payload : is_entry entry ≡ true
    is_entry-payload = rw (apart-none, apart-end) is_payload-entry

    entry_of-payload : entry_of releases entry ≡ Some (Price price kind to)
    entry_of-payload =
        ap (λ (b : Bool). cond b (Some Nothing)
        (cond (bytes_eq entry (codes "0 end")) (Some End) (payload_of releases entry))) apart-none
        ∙ ap (λ (b : Bool). cond b (Some End) (payload_of releases entry)) apart-end
        ∙ ap (λ (o : Option ℕ). option_and_then
        (λ p. option_map (λ t. Price p (kind_named (first_of (rest_of entry))) t)
        (position (is_spelled (rest_of (rest_of entry))) releases)) o) number
        ∙ ap (λ (text : List ℕ). option_map (λ t. Price price (kind_named text) t)
        (position (is_spelled (rest_of (rest_of entry))) releases)) word
        ∙ ap (λ (text : List ℕ). option_map (λ t. Price price (kind_named (kind_word kind)) t)
        (position (is_spelled text) releases)) last
        ∙ ap (λ (k : Kind). option_map (λ t. Price price k t) (position (is_spelled goal) releases)) (named-kind kind)
        ∙ ap (λ (o : Option ℕ). option_map (λ t. Price price kind t) o)
        (position-spelled irreflexive cohorts releases spelled to d statable.1)

    IsLine-payload : IsLine entry
    IsLine-payload =
        IsLine-append (decimal price) (32 ∷ (kind_word kind ++ 32 ∷ goal))
        (IsLine-visible (decimal price) visible-price)
        (IsLine-space (kind_word kind ++ 32 ∷ goal)
        (IsLine-append (kind_word kind) (32 ∷ goal) (IsLine-visible (kind_word kind) (visible-kind kind))
        (IsLine-space goal (IsLine-visible goal
        (IsVisible-spelled irreflexive cohorts releases spelled to d statable.1)))))

  -- each entry
  is_entry-text : (row : Row) (d : Release) → IsStatable (length releases) row →
      is_entry (entry_string releases row) ≡ true
  is_entry-text Nothing d statable = refl
  is_entry-text End d statable = refl
  is_entry-text (Price price kind to) d statable = is_entry-payload price kind to d statable

  entry_of-text : (row : Row) (d : Release) → IsStatable (length releases) row →
      entry_of releases (entry_string releases row) ≡ Some row
  entry_of-text Nothing d statable = refl
  entry_of-text End d statable = refl
  entry_of-text (Price price kind to) d statable = entry_of-payload price kind to d statable

  IsLine-entry : (row : Row) (d : Release) → IsStatable (length releases) row → IsLine (entry_string releases row)
  IsLine-entry Nothing d statable = refl
  IsLine-entry End d statable = refl
  IsLine-entry (Price price kind to) d statable = IsLine-payload price kind to d statable

  module _ (index : ℕ) (row : Row) (d : Release) (within : index < length releases)
      (statable : IsStatable (length releases) row) where
    abbrev line : List ℕ
    line = row_line releases index row

    -- the line of a row
    pub IsLine-row : IsLine line
    IsLine-row =
        IsLine-append (spelled_at releases index) (32 ∷ entry_string releases row)
        (IsLine-visible (spelled_at releases index)
        (IsVisible-spelled irreflexive cohorts releases spelled index d within))
        (IsLine-space (entry_string releases row) (IsLine-entry row d statable))

    name : first_of line ≡ spelled_at releases index
    name = first_of-cut (spelled_at releases index) (entry_string releases row)
        (IsVisible-spelled irreflexive cohorts releases spelled index d within)

    stated : rest_of line ≡ entry_string releases row
    stated = rest_of-cut (spelled_at releases index) (entry_string releases row)
        (IsVisible-spelled irreflexive cohorts releases spelled index d within)

    is_row-line : is_row line ≡ true
    is_row-line =
        and_from _ _ (ap is_version name ∙ is_version-spelled irreflexive cohorts releases spelled index d within)
        (ap is_entry stated ∙ is_entry-text row d statable)

    row_of-line : row_of releases (spelled_at releases index) line ≡ Some row
    row_of-line =
        ap (λ (b : Bool). cond b (entry_of releases (rest_of line)) None)
        ((bytes_eq-Decides (first_of line) (spelled_at releases index)).1 name)
        ∙ ap (entry_of releases) stated
        ∙ entry_of-text row d statable

    pub read_row-line : read_row releases (spelled_at releases index) line ≡ Ok row
    read_row-line =
        let utf8 = utf8-line line IsLine-row in
        let is = is_row-line in
        rw (utf8, is, row_of-line) refl
