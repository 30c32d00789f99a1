-- The payload that a row names: of two releases there is at most one differential.
use Rattle.std.proofs.Common.{◌≡◌, ℕ, zero, suc, ◌<◌, ◌&&◌, inl, inr, Bool, true, cond, List, [], ◌∷◌, length, get_or, ltb, Option, None, Some, sym, ap, ◌∙◌, arith}
use Rattle.std.specs.List.{list_all, position, position_or_len, slice_get}
use Rattle.std.specs.Option.{option_and_then, option_map}
use Rattle.std.specs.Str.{bytes_eq}
use Rattle.std.proofs.lemmas.Bool.{and_from, and_parts, false_from_ne_true, false≢true, lt-ltb, or_cases}
use Rattle.std.proofs.lemmas.List.Sums.{position_or_len_is}
use Rattle.std.proofs.lemmas.Option.{get_or_from_slice_get, slice_get_within}
use Rattle.std.proofs.lemmas.Slice.Eq.{bytes_eq-Decides}
use Rattle.catalogue.specs.VersionLaws.{BelowIsIrreflexive}
use Rattle.catalogue.specs.Versions.{is_below}
use Rattle.values.specs.Ordered.{ascend}
use Rattle.catalogue.specs.Lookups.{is_diff, is_release}
use Rattle.catalogue.specs.Validity.{is_diff_before}
use Rattle.catalogue.specs.declared.content.Diff.{Diff}
use Rattle.catalogue.specs.declared.content.Release.{Release}
use Rattle.payload_graph.specs.Chains.{index_of}
use Rattle.payload_graph.specs.declared.payload.Payload.TheVariants.{Differ}
use Rattle.payload_graph.specs.declared.edge.Kind.TheVariants as kind
use Rattle.quotes.specs.Quotes.{payload_named}

all-get_or :
    {A : Type 0} (p : A → Bool) (xs : List A) (k : ℕ) (d : A) →
    list_all p xs ≡ true → k < length xs → p (get_or xs k d) ≡ true
all-get_or p [] k d all within = absurd (omega arith)
all-get_or p (x ∷ xs) zero d all within = (and_parts (p x) (list_all p xs) all).0
all-get_or p (x ∷ xs) (suc k) d all within =
    all-get_or p xs k d (and_parts (p x) (list_all p xs) all).1 (omega arith)

-- in an ascending list an earlier item comes before a later one
before-get_or :
    {A : Type 0} (before : A → A → Bool) (xs : List A) (i j : ℕ) (d : A) →
    ascend before xs ≡ true → i < j → j < length xs → before (get_or xs i d) (get_or xs j d) ≡ true
before-get_or before [] i j d rises less within = absurd (omega arith)
before-get_or before (x ∷ xs) i zero d rises less within = absurd (omega arith)
before-get_or before (x ∷ xs) zero (suc j) d rises less within =
    all-get_or (before x) xs j d (and_parts (list_all (before x) xs) (ascend before xs) rises).0 (omega arith)
before-get_or before (x ∷ xs) (suc i) (suc j) d rises less within =
    before-get_or before xs i j d (and_parts (list_all (before x) xs) (ascend before xs) rises).1 (omega arith) (omega arith)

-- two differentials of one pair: neither is before the other
not_before :
    (irreflexive : BelowIsIrreflexive) (first second : Diff) →
    first.from ≡ second.from → first.to ≡ second.to → is_diff_before first second ≡ true → ⊥
not_before irreflexive first second from to before =
    elim (or_cases (is_below first.from second.from) (bytes_eq first.from second.from && is_below first.to second.to) before) [
      | inl low ↦
          false≢true (sym (irreflexive first.from) ∙ ap (λ (v : List ℕ). is_below first.from v) from ∙ low)
      | inr high ↦
          let parts = and_parts (bytes_eq first.from second.from) (is_below first.to second.to) high in
          false≢true (sym (irreflexive first.to) ∙ ap (λ (v : List ℕ). is_below first.to v) to ∙ parts.1)
    ]

-- a differential has the pair of its versions
record HasPair (start end : List ℕ) (diff : Diff) : Type 0 where
  from : start ≡ diff.from
  to : end ≡ diff.to

HasPair-is_diff : (start end : List ℕ) (diff : Diff) → is_diff (start, end) diff ≡ true → HasPair start end diff
HasPair-is_diff start end diff is =
    let parts = and_parts (bytes_eq start diff.from) (bytes_eq end diff.to) is in
    record { from = (bytes_eq-Decides start diff.from).0 parts.0; to = (bytes_eq-Decides end diff.to).0 parts.1 }

-- a differential is found by its pair
position-is_diff :
    (irreflexive : BelowIsIrreflexive) (diffs : List Diff) (index : ℕ) (diff : Diff) (start end : List ℕ) →
    ascend is_diff_before diffs ≡ true → slice_get diffs index ≡ Some diff →
    start ≡ diff.from → end ≡ diff.to →
    position (is_diff (start, end)) diffs ≡ Some index
position-is_diff irreflexive diffs index diff start end rises there from to =
    let within = slice_get_within diffs index diff there in
    let at : get_or diffs index diff ≡ diff = get_or_from_slice_get diffs index diff diff there in
    let test = is_diff (start, end) in
    let own : test diff ≡ true = and_from (bytes_eq start diff.from) (bytes_eq end diff.to) ((bytes_eq-Decides start diff.from).1 from) ((bytes_eq-Decides end diff.to).1 to) in
    let here : test (get_or diffs index diff) ≡ true = ap test at ∙ own in
    let first : position_or_len test diffs ≡ index =
    position_or_len_is test diffs index diff (omega arith)
    (λ k less. false_from_ne_true (test (get_or diffs k diff)) (λ is.
    let pair = HasPair-is_diff start end (get_or diffs k diff) is in
    let before = before-get_or is_diff_before diffs k index diff rises less within in
    not_before irreflexive (get_or diffs k diff) diff (sym pair.from ∙ from) (sym pair.to ∙ to)
    (ap (is_diff_before (get_or diffs k diff)) (sym at) ∙ before)))
    (λ less. here) in
    ap (λ n. cond (ltb n (length diffs)) (Some n) None) first
    ∙ ap (λ b. cond b (Some index) None) (lt-ltb index (length diffs) within)

-- the releases that a differential starts at and leads to
pub record HasEnds (releases : List Release) (from : ℕ) (diff : Diff) : Type 0 where
  pub start : Release
  pub start_there : slice_get releases from ≡ Some start
  pub starts : is_release diff.from start ≡ true
  pub end : Release
  pub end_there : slice_get releases (index_of releases diff.to) ≡ Some end
  pub ends : is_release diff.to end ≡ true

pub payload_named-differ :
    (irreflexive : BelowIsIrreflexive) (releases : List Release) (diffs : List Diff) (from index : ℕ) (diff : Diff) →
    ascend is_diff_before diffs ≡ true → slice_get diffs index ≡ Some diff → HasEnds releases from diff →
    payload_named releases diffs from kind.Differ (index_of releases diff.to) ≡ Some (Differ index)
payload_named-differ irreflexive releases diffs from index diff rises there has =
    let start = has.start in
    let end = has.end in
    let from_same : start.version ≡ diff.from = sym ((bytes_eq-Decides diff.from start.version).0 has.starts) in
    let to_same : end.version ≡ diff.to = sym ((bytes_eq-Decides diff.to end.version).0 has.ends) in
    let named = λ (s e : Release). option_map (λ n. Differ n) (position (is_diff (s.version, e.version)) diffs) in
    ap (λ (o : Option Release). option_and_then (λ (s : Release). option_and_then (λ (e : Release). named s e) (slice_get releases (index_of releases diff.to))) o) has.start_there
    ∙ ap (λ (o : Option Release). option_and_then (λ (e : Release). named start e) o) has.end_there
    ∙ ap (λ (o : Option ℕ). option_map (λ n. Differ n) o) (position-is_diff irreflexive diffs index diff start.version end.version rises there from_same to_same)
