-- The better one of two payloads.
use Rattle.std.proofs.Common.{◌≡◌, ℕ, ◌+◌, ◌<◌, ◌≤◌, ◌&&◌, ◌||◌, inl, inr, not, Bool, true, false, cond, eqb, leb, ltb, Option, None, Some, refl, sym, ap, ◌∙◌, arith}
use Rattle.std.proofs.lemmas.Bool.{and_from, and_parts, cases_Bool, eqb-true, eq-eqb, false≢true, le-leb, leb-true, lt-ltb, ltb-false, ltb-true, ne_eqb, or_cases, or_left, or_parts, or_right}
use Rattle.payload_graph.specs.declared.edge.Edge.{Edge}
use Rattle.payload_graph.specs.declared.edge.Kind.{Kind}
use Rattle.payload_graph.specs.declared.edge.Kind.TheVariants.{Full, Differ}
use Rattle.price_cert.specs.Rules.{is_same_kind, yields}
use Rattle.price_cert.specs.declared.row.Row.{Row}
use Rattle.price_cert.specs.declared.row.Row.TheVariants.{Nothing, End, Price}
use Rattle.price_cert.specs.Best.{improved_by, is_no_better_by, is_better, is_kind_better, leads_higher}

-- kinds, where one isn't better than the other
kind_yields : (kind other : Kind) → is_kind_better kind other ≡ false → (is_same_kind kind Differ || is_same_kind other Full) ≡ true
kind_yields Full Full worse = refl
kind_yields Full Differ worse = absurd (false≢true (sym worse))
kind_yields Differ Full worse = refl
kind_yields Differ Differ worse = refl

kind_yields-itself : (kind : Kind) → (is_same_kind kind Differ || is_same_kind kind Full) ≡ true
kind_yields-itself Full = refl
kind_yields-itself Differ = refl

kind_yields-better : (kind other : Kind) → is_kind_better kind other ≡ true → (third : Kind) → (is_same_kind other Differ || is_same_kind third Full) ≡ true
kind_yields-better Full Full better third = absurd (false≢true better)
kind_yields-better Full Differ better third = refl
kind_yields-better Differ other better third = absurd (false≢true better)

-- a payload yields to itself
yields-itself : (edge : Edge) → yields edge edge.kind edge.to ≡ true
yields-itself edge =
    or_right (ltb edge.to edge.to) _
    (and_from (eqb edge.to edge.to) _ (eq-eqb edge.to edge.to refl) (kind_yields-itself edge.kind))

-- one that doesn't lead higher yields
yields-lower : (edge : Edge) (kind : Kind) (to : ℕ) → leads_higher edge kind to ≡ false → yields edge kind to ≡ true
yields-lower edge kind to lower =
    let parts = or_parts (ltb to edge.to) (eqb to edge.to && is_kind_better kind edge.kind) lower in
    let most = ltb-false to edge.to parts.0 in
    elim (cases_Bool (eqb to edge.to)) [
      | inl same ↦
          let level = eqb-true to edge.to same in
          let worse : is_kind_better kind edge.kind ≡ false = sym (ap (λ b. b && is_kind_better kind edge.kind) same) ∙ parts.1 in
          or_right (ltb edge.to to) _
          (and_from (eqb edge.to to) _ (eq-eqb edge.to to (sym level)) (kind_yields kind edge.kind worse))
      | inr other ↦
          or_left (ltb edge.to to) _
          (lt-ltb edge.to to (strictly most (λ same. false≢true (sym other ∙ eq-eqb to edge.to same))))
    ]
  where
    strictly : edge.to ≤ to → (to ≡ edge.to → ⊥) → edge.to < to
    strictly most apart = omega arith

-- what yields to a payload yields to one that leads higher
yields-higher :
    (edge other : Edge) (kind : Kind) (to : ℕ) →
    leads_higher edge kind to ≡ true → yields other kind to ≡ true → yields other edge.kind edge.to ≡ true
yields-higher edge other kind to higher yielding =
    elim (or_cases (ltb to edge.to) (eqb to edge.to && is_kind_better kind edge.kind) higher) [
      | inl above ↦
          or_left (ltb other.to edge.to) _
          (lt-ltb other.to edge.to (let more = ltb-true to edge.to above in let most = below other yielding in omega arith))
      | inr level ↦
          let parts = and_parts (eqb to edge.to) (is_kind_better kind edge.kind) level in
          let same = eqb-true to edge.to parts.0 in
          elim (or_cases (ltb other.to to) (eqb other.to to && (is_same_kind kind Differ || is_same_kind other.kind Full)) yielding) [
            | inl lower ↦
                or_left (ltb other.to edge.to) _ (lt-ltb other.to edge.to (let less = ltb-true other.to to lower in omega arith))
            | inr here ↦
                let there = and_parts (eqb other.to to) (is_same_kind kind Differ || is_same_kind other.kind Full) here in
                or_right (ltb other.to edge.to) _
                (and_from (eqb other.to edge.to) _ (eq-eqb other.to edge.to (eqb-true other.to to there.0 ∙ same)) (kind_yields-better kind edge.kind parts.1 other.kind))
          ]
    ]
  where
    below : (other : Edge) → yields other kind to ≡ true → other.to ≤ to
    below other yielding = elim (or_cases (ltb other.to to) (eqb other.to to && (is_same_kind kind Differ || is_same_kind other.kind Full)) yielding) [
      | inl lower ↦ let less = ltb-true other.to to lower in omega arith
      | inr here ↦
          let same = eqb-true other.to to (and_parts (eqb other.to to) (is_same_kind kind Differ || is_same_kind other.kind Full) here).0 in
          omega arith
    ]

-- a payload isn't better than the row that names it
behind-own : (rest : ℕ) (edge : Edge) → is_no_better_by (Some rest) (Price (edge.bytes + rest) edge.kind edge.to) edge ≡ true
behind-own rest edge =
    and_from (leb (edge.bytes + rest) (edge.bytes + rest)) _
    (le-leb (edge.bytes + rest) (edge.bytes + rest) (omega arith))
    (or_right (not (eqb (edge.bytes + rest) (edge.bytes + rest))) _ (yields-itself edge))

-- nor than a row that it isn't better than
behind-kept :
    (rest price : ℕ) (kind : Kind) (to : ℕ) (edge : Edge) →
    is_better (Price price kind to) (edge.bytes + rest) edge ≡ false →
    is_no_better_by (Some rest) (Price price kind to) edge ≡ true
behind-kept rest price kind to edge worse =
    let parts = or_parts (ltb (edge.bytes + rest) price) (eqb (edge.bytes + rest) price && leads_higher edge kind to) worse in
    and_from (leb price (edge.bytes + rest)) _
    (le-leb price (edge.bytes + rest) (ltb-false (edge.bytes + rest) price parts.0))
    (elim (cases_Bool (eqb price (edge.bytes + rest))) [
      | inl same ↦
          let equal = eq-eqb (edge.bytes + rest) price (sym (eqb-true price (edge.bytes + rest) same)) in
          or_right (not (eqb price (edge.bytes + rest))) _
          (yields-lower edge kind to (sym (ap (λ b. b && leads_higher edge kind to) equal) ∙ parts.1))
      | inr other ↦ or_left (not (eqb price (edge.bytes + rest))) (yields edge kind to) (ap not other)
    ])

-- the payload isn't better than the better one of it and a row's
pub behind-improved : (rest : Option ℕ) (row : Row) (edge : Edge) → is_no_better_by rest (improved_by rest row edge) edge ≡ true
behind-improved None Nothing edge = refl
behind-improved None End edge = refl
behind-improved None (Price price kind to) edge = refl
behind-improved (Some rest) Nothing edge = behind-own rest edge
behind-improved (Some rest) End edge = and_from (leb 0 (edge.bytes + rest)) true (le-leb 0 (edge.bytes + rest) (omega arith)) refl
behind-improved (Some rest) (Price price kind to) edge =
    cases (is_better (Price price kind to) (edge.bytes + rest) edge) refl
  where
    cases :
        (b : Bool) → is_better (Price price kind to) (edge.bytes + rest) edge ≡ b →
        is_no_better_by (Some rest) (cond b (Price (edge.bytes + rest) edge.kind edge.to) (Price price kind to)) edge ≡ true
    cases true better = behind-own rest edge
    cases false worse = behind-kept rest price kind to edge worse

-- what isn't better than a row's payload isn't better than one that is
behind-better :
    (rest : Option ℕ) (price : ℕ) (kind : Kind) (to sum : ℕ) (edge other : Edge) →
    is_better (Price price kind to) sum edge ≡ true →
    is_no_better_by rest (Price price kind to) other ≡ true →
    is_no_better_by rest (Price sum edge.kind edge.to) other ≡ true
behind-better None price kind to sum edge other better behind = refl
behind-better (Some rest) price kind to sum edge other better behind =
    let parts = and_parts (leb price (other.bytes + rest)) (not (eqb price (other.bytes + rest)) || yields other kind to) behind in
    let most = leb-true price (other.bytes + rest) parts.0 in
    elim (or_cases (ltb sum price) (eqb sum price && leads_higher edge kind to) better) [
      | inl smaller ↦
          let less = ltb-true sum price smaller in
          and_from (leb sum (other.bytes + rest)) _
          (le-leb sum (other.bytes + rest) (omega arith))
          (or_left (not (eqb sum (other.bytes + rest))) _ (ap not (ne_eqb sum (other.bytes + rest) (λ same. absurd (omega arith)))))
      | inr tied ↦
          let ties = and_parts (eqb sum price) (leads_higher edge kind to) tied in
          let same = eqb-true sum price ties.0 in
          and_from (leb sum (other.bytes + rest)) _
          (le-leb sum (other.bytes + rest) (omega arith))
          (elim (or_cases (not (eqb price (other.bytes + rest))) (yields other kind to) parts.1) [
            | inl dearer ↦
                or_left (not (eqb sum (other.bytes + rest))) _ (ap (λ n. not (eqb n (other.bytes + rest))) same ∙ dearer)
            | inr yielding ↦
                or_right (not (eqb sum (other.bytes + rest))) _ (yields-higher edge other kind to ties.1 yielding)
          ])
    ]

behind-nothing : (rest : Option ℕ) (other : Edge) (sum to : ℕ) (kind : Kind) → is_no_better_by rest Nothing other ≡ true → is_no_better_by rest (Price sum kind to) other ≡ true
behind-nothing None other sum to kind behind = refl
behind-nothing (Some rest) other sum to kind behind = absurd (false≢true behind)

-- what isn't better than a row's payload isn't better than the better one of it and another
pub behind-others :
    (rest there : Option ℕ) (row : Row) (edge other : Edge) →
    is_no_better_by there row other ≡ true → is_no_better_by there (improved_by rest row edge) other ≡ true
behind-others None there row edge other behind = behind
behind-others (Some rest) there Nothing edge other behind = behind-nothing there other (edge.bytes + rest) edge.to edge.kind behind
behind-others (Some rest) there End edge other behind = behind
behind-others (Some rest) there (Price price kind to) edge other behind =
    cases (is_better (Price price kind to) (edge.bytes + rest) edge) refl
  where
    cases :
        (b : Bool) → is_better (Price price kind to) (edge.bytes + rest) edge ≡ b →
        is_no_better_by there (cond b (Price (edge.bytes + rest) edge.kind edge.to) (Price price kind to)) other ≡ true
    cases true better = behind-better there price kind to (edge.bytes + rest) edge other better behind
    cases false worse = behind
