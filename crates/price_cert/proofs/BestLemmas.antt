-- The best payload of a longer list.
use Rattle.std.proofs.Common.{◌≡◌, ℕ, ◌+◌, ◌&&◌, ◌||◌, Bool, true, false, cond, List, [], ◌∷◌, ◌++◌, eqb, get_or, map, Option, None, Some, refl, sym, ap, ◌∙◌, subst}
use Rattle.std.specs.List.{All, filter, list_all, list_any}
use Rattle.std.proofs.lemmas.Bool.{and_from, and_parts, eq-eqb, false≢true, or_left, or_right}
use Rattle.std.proofs.lemmas.List.{append-nil, map-append}
use Rattle.std.proofs.lemmas.List.Elements.{All-head, All-tail, filter-append}
use Rattle.std.proofs.lemmas.List.Folds.{list_all-append, list_all-map, list_any-append}
use Rattle.payload_graph.specs.Net.{full, fulls, opens}
use Rattle.payload_graph.specs.declared.door.Door.{Door}
use Rattle.payload_graph.specs.declared.edge.Edge.{Edge}
use Rattle.payload_graph.specs.declared.edge.Kind.{Kind}
use Rattle.payload_graph.specs.declared.edge.Kind.TheVariants.{Full, Differ}
use Rattle.price_cert.specs.Rows.{price_at}
use Rattle.price_cert.specs.Rules.{adds_up, costs, is_named, is_next, is_same_kind}
use Rattle.price_cert.specs.declared.row.Row.{Row}
use Rattle.price_cert.specs.declared.row.Row.TheVariants.{Nothing, End, Price}
use Rattle.price_cert.proofs.BetterLemmas.{behind-improved, behind-others}
use Rattle.price_cert.specs.Best.{IsBest, ListsHaveBest, improved, improved_by, is_no_better, is_better, names_one, taken}

-- a test that follows from another one
pub list_all-follows :
    {A : Type 0} (p q : A → Bool) → ((x : A) → p x ≡ true → q x ≡ true) →
    (xs : List A) → list_all p xs ≡ true → list_all q xs ≡ true
list_all-follows p q follows [] all = refl
list_all-follows p q follows (x ∷ xs) all =
    let parts = and_parts (p x) (list_all p xs) all in
    and_from (q x) (list_all q xs) (follows x parts.0) (list_all-follows p q follows xs parts.1)

-- tests that agree on each item
pub list_all-agree : {A : Type 0} (p q : A → Bool) (xs : List A) → All (λ x. p x ≡ q x) xs → list_all p xs ≡ list_all q xs
list_all-agree p q [] agree = refl
list_all-agree {A} p q (x ∷ xs) agree =
    ap (λ b. b && list_all p xs) (All-head (λ (y : A). p y ≡ q y) x xs agree)
    ∙ ap (λ b. q x && b) (list_all-agree p q xs (All-tail (λ (y : A). p y ≡ q y) x xs agree))

pub list_any-map : {A B : Type 0} (p : B → Bool) (f : A → B) (xs : List A) → list_any p (map f xs) ≡ list_any (λ x. p (f x)) xs
list_any-map p f [] = refl
list_any-map p f (x ∷ xs) = ap (λ b. p (f x) || b) (list_any-map p f xs)

-- a list with one payload more
record IsWith (edges : List Edge) (edge : Edge) (more : List Edge) : Type 0 where
  all : (p : Edge → Bool) → list_all p edges ≡ true → p edge ≡ true → list_all p more ≡ true
  old : (p : Edge → Bool) → list_any p edges ≡ true → list_any p more ≡ true
  new : (p : Edge → Bool) → p edge ≡ true → list_any p more ≡ true

IsWith-front : (edges : List Edge) (edge : Edge) → IsWith edges edge (edge ∷ edges)
IsWith-front edges edge = record {
  all = λ p each own. and_from (p edge) (list_all p edges) own each;
  old = λ p some. or_right (p edge) (list_any p edges) some;
  new = λ p own. or_left (p edge) (list_any p edges) own;
}

IsWith-back : (edges : List Edge) (edge : Edge) → IsWith edges edge (edges ++ edge ∷ [])
IsWith-back edges edge = record {
  all = λ p each own.
      list_all-append p edges (edge ∷ [])
      ∙ and_from (list_all p edges) (p edge && true) each (and_from (p edge) true own refl);
  old = λ p some. list_any-append p edges (edge ∷ []) ∙ or_left (list_any p edges) (p edge || false) some;
  new = λ p own.
      list_any-append p edges (edge ∷ [])
      ∙ or_right (list_any p edges) (p edge || false) (or_left (p edge) false own);
}

same_kind-itself : (kind : Kind) → is_same_kind kind kind ≡ true
same_kind-itself Full = refl
same_kind-itself Differ = refl

-- a payload is named by its own row
is_next-own :
    (rows : List Row) (edge : Edge) (rest : ℕ) →
    price_at rows edge.to ≡ Some rest → is_next rows (edge.bytes + rest) edge.kind edge.to edge ≡ true
is_next-own rows edge rest is =
    and_from (is_named edge.kind edge.to edge) _
    (and_from (eqb edge.to edge.to) _ (eq-eqb edge.to edge.to refl) (same_kind-itself edge.kind))
    (ap (λ (r : Option ℕ). adds_up r (edge.bytes + rest) edge.bytes) is
    ∙ eq-eqb (edge.bytes + rest) (edge.bytes + rest) refl)

module _ (rows : List Row) (edges : List Edge) (edge : Edge) (more : List Edge) (grown : IsWith edges edge more) where
  names-kept : (row : Row) → names_one rows edges row ≡ true → names_one rows more row ≡ true
  names-kept Nothing names = refl
  names-kept End names = names
  names-kept (Price price kind to) names = grown.old (is_next rows price kind to) names

  names-own : (rest : ℕ) → price_at rows edge.to ≡ Some rest → names_one rows more (Price (edge.bytes + rest) edge.kind edge.to) ≡ true
  names-own rest is = grown.new (is_next rows (edge.bytes + rest) edge.kind edge.to) (is_next-own rows edge rest is)

  names-improved :
      (rest : Option ℕ) → price_at rows edge.to ≡ rest → (row : Row) →
      names_one rows edges row ≡ true → names_one rows more (improved_by rest row edge) ≡ true
  names-improved None is row names = names-kept row names
  names-improved (Some rest) is row names = cases (is_better row (edge.bytes + rest) edge)
    where
      cases : (b : Bool) → names_one rows more (cond b (Price (edge.bytes + rest) edge.kind edge.to) row) ≡ true
      cases true = names-own rest is
      cases false = names-kept row names

  IsBest-more : (row : Row) → IsBest rows edges row → IsBest rows more (improved rows row edge)
  IsBest-more row best = record {
    behind =
        grown.all (is_no_better rows (improved rows row edge))
        (list_all-follows (is_no_better rows row) (is_no_better rows (improved rows row edge))
        (λ other behind. behind-others (price_at rows edge.to) (price_at rows other.to) row edge other behind)
        edges best.behind)
        (behind-improved (price_at rows edge.to) row edge);
    names = names-improved (price_at rows edge.to) refl row best.names;
  }

pub IsBest-nothing : (rows : List Row) → IsBest rows [] Nothing
IsBest-nothing rows = record { behind = refl; names = refl }

pub IsBest-front :
    (rows : List Row) (edges : List Edge) (edge : Edge) (row : Row) →
    IsBest rows edges row → IsBest rows (edge ∷ edges) (improved rows row edge)
IsBest-front rows edges edge row best = IsBest-more rows edges edge (edge ∷ edges) (IsWith-front edges edge) row best

-- each list of payloads has a best one, or none
pub lists_have_best : ListsHaveBest
lists_have_best rows [] = (Nothing, IsBest-nothing rows)
lists_have_best rows (edge ∷ edges) =
    let (row, best) = lists_have_best rows edges in
    (improved rows row edge, IsBest-front rows edges edge row best)

pub IsBest-back :
    (rows : List Row) (edges : List Edge) (edge : Edge) (row : Row) →
    IsBest rows edges row → IsBest rows (edges ++ edge ∷ []) (improved rows row edge)
IsBest-back rows edges edge row best = IsBest-more rows edges edge (edges ++ edge ∷ []) (IsWith-back edges edge) row best

-- a test that all of some items pass, all of fewer pass
list_all-fewer :
    {A : Type 0} (p q r : A → Bool) → ((x : A) → r x ≡ true → q x ≡ true) →
    (xs : List A) → list_all p (filter q xs) ≡ true → list_all p (filter r xs) ≡ true
list_all-fewer p q r fewer [] all = refl
list_all-fewer {A} p q r fewer (x ∷ xs) all = cases (q x) refl (r x) refl all (list_all-fewer p q r fewer xs)
  where
    cases :
        (b : Bool) → q x ≡ b → (d : Bool) → r x ≡ d →
        list_all p (cond b (x ∷ filter q xs) (filter q xs)) ≡ true →
        (list_all p (filter q xs) ≡ true → list_all p (filter r xs) ≡ true) →
        list_all p (cond d (x ∷ filter r xs) (filter r xs)) ≡ true
    cases true first true second all rest =
        let parts = and_parts (p x) (list_all p (filter q xs)) all in
        and_from (p x) (list_all p (filter r xs)) parts.0 (rest parts.1)
    cases true first false second all rest = rest (and_parts (p x) (list_all p (filter q xs)) all).1
    cases false first true second all rest = absurd (false≢true (sym first ∙ fewer x second))
    cases false first false second all rest = rest all

-- a test that one of some items passes, one of fewer passes if no item that passes it is left out
list_any-kept :
    {A : Type 0} (p q r : A → Bool) (xs : List A) →
    All (λ x. q x ≡ true → p x ≡ true → r x ≡ true) xs →
    list_any p (filter q xs) ≡ true → list_any p (filter r xs) ≡ true
list_any-kept p q r [] kept some = some
list_any-kept {A} p q r (x ∷ xs) kept some =
    cases (q x) refl (p x) refl (r x) refl some
    (list_any-kept p q r xs (All-tail (λ (y : A). q y ≡ true → p y ≡ true → r y ≡ true) x xs kept))
    (All-head (λ (y : A). q y ≡ true → p y ≡ true → r y ≡ true) x xs kept)
  where
    cases :
        (b : Bool) → q x ≡ b → (c : Bool) → p x ≡ c → (d : Bool) → r x ≡ d →
        list_any p (cond b (x ∷ filter q xs) (filter q xs)) ≡ true →
        (list_any p (filter q xs) ≡ true → list_any p (filter r xs) ≡ true) →
        (q x ≡ true → p x ≡ true → r x ≡ true) →
        list_any p (cond d (x ∷ filter r xs) (filter r xs)) ≡ true
    cases true first true passes true second some rest own = or_left (p x) (list_any p (filter r xs)) passes
    cases true first true passes false second some rest own = absurd (false≢true (sym second ∙ own first passes))
    cases true first false passes true second some rest own =
        or_right (p x) (list_any p (filter r xs)) (rest (sym (ap (λ b. b || list_any p (filter q xs)) passes) ∙ some))
    cases true first false passes false second some rest own =
        rest (sym (ap (λ b. b || list_any p (filter q xs)) passes) ∙ some)
    cases false first c passes true second some rest own = or_right (p x) (list_any p (filter r xs)) (rest some)
    cases false first c passes false second some rest own = rest some

-- full packages through the same doors from another release
pub IsBest-map :
    (rows : List Row) (doors : List Door) (from other : ℕ) (row : Row) →
    IsBest rows (map (full from) doors) row → IsBest rows (map (full other) doors) row
IsBest-map rows doors from other row best = record { behind = behinds row best.behind; names = named row best.names }
  where
    all :
        (row : Row) → ((door : Door) → is_no_better rows row (full other door) ≡ is_no_better rows row (full from door)) →
        list_all (is_no_better rows row) (map (full from) doors) ≡ true → list_all (is_no_better rows row) (map (full other) doors) ≡ true
    all row same behind =
        list_all-map (is_no_better rows row) (full other) doors
        ∙ list_all-agree (λ (door : Door). is_no_better rows row (full other door)) (λ (door : Door). is_no_better rows row (full from door))
        doors (λ k d within. same (get_or doors k d))
        ∙ sym (list_all-map (is_no_better rows row) (full from) doors)
        ∙ behind

    behinds : (row : Row) → list_all (is_no_better rows row) (map (full from) doors) ≡ true → list_all (is_no_better rows row) (map (full other) doors) ≡ true
    behinds Nothing behind = all Nothing (λ door. refl) behind
    behinds End behind = all End (λ door. refl) behind
    behinds (Price price kind to) behind = all (Price price kind to) (λ door. refl) behind

    named : (row : Row) → names_one rows (map (full from) doors) row ≡ true → names_one rows (map (full other) doors) row ≡ true
    named Nothing names = refl
    named End names = names
    named (Price price kind to) names =
        list_any-map (is_next rows price kind to) (full other) doors
        ∙ sym (list_any-map (is_next rows price kind to) (full from) doors)
        ∙ names

-- the same, if fewer doors open from the other, and that of the row's payload is one of them
pub IsBest-fewer :
    (rows : List Row) (doors : List Door) (from other : ℕ) (row : Row) →
    ((door : Door) → opens other door ≡ true → opens from door ≡ true) →
    ((price : ℕ) (kind : Kind) (to : ℕ) → row ≡ Price price kind to →
    All (λ (door : Door). opens from door ≡ true → eqb door.to to ≡ true → opens other door ≡ true) doors) →
    IsBest rows (fulls from doors) row → IsBest rows (fulls other doors) row
IsBest-fewer rows doors from other row fewer kept best =
    IsBest-map rows (filter (opens other) doors) from other row (record {
      behind =
          list_all-map (is_no_better rows row) (full from) (filter (opens other) doors)
          ∙ list_all-fewer (λ (door : Door). is_no_better rows row (full from door)) (opens from) (opens other) fewer doors
          (sym (list_all-map (is_no_better rows row) (full from) (filter (opens from) doors)) ∙ best.behind);
      names = named row kept best.names;
    })
  where
    named :
        (row : Row) →
        ((price : ℕ) (kind : Kind) (to : ℕ) → row ≡ Price price kind to →
        All (λ (door : Door). opens from door ≡ true → eqb door.to to ≡ true → opens other door ≡ true) doors) →
        names_one rows (fulls from doors) row ≡ true → names_one rows (map (full from) (filter (opens other) doors)) row ≡ true
    named Nothing kept names = refl
    named End kept names = names
    named (Price price kind to) kept names =
        list_any-map (is_next rows price kind to) (full from) (filter (opens other) doors)
        ∙ list_any-kept (λ (door : Door). is_next rows price kind to (full from door)) (opens from) (opens other) doors
        (λ k d within before next.
        let door = get_or doors k d in
        let named = and_parts (is_named kind to (full from door)) (costs rows price (full from door)) next in
        let its = and_parts (eqb door.to to) (is_same_kind kind Full) named.0 in
        kept price kind to refl k d within before its.0)
        (sym (list_any-map (is_next rows price kind to) (full from) (filter (opens from) doors)) ∙ names)

-- a door before others
pub IsBest-door_front :
    (rows : List Row) (doors : List Door) (door : Door) (from : ℕ) (row : Row) →
    IsBest rows (fulls from doors) row → IsBest rows (fulls from (door ∷ doors)) (taken rows row from door)
IsBest-door_front rows doors door from row best = cases (opens from door)
  where
    cases :
        (b : Bool) →
        IsBest rows
        (map (full from) (cond b (door ∷ filter (opens from) doors) (filter (opens from) doors)))
        (cond b (improved rows row (full from door)) row)
    cases true = IsBest-front rows (fulls from doors) (full from door) row best
    cases false = best

-- a door after others
pub IsBest-door_back :
    (rows : List Row) (doors : List Door) (door : Door) (from : ℕ) (row : Row) →
    IsBest rows (fulls from doors) row → IsBest rows (fulls from (doors ++ door ∷ [])) (taken rows row from door)
IsBest-door_back rows doors door from row best =
    subst (λ (edges : List Edge). IsBest rows edges (taken rows row from door)) (sym shown) (cases (opens from door))
  where
    shown : fulls from (doors ++ door ∷ []) ≡ fulls from doors ++ fulls from (door ∷ [])
    shown =
        ap (map (full from)) (filter-append (opens from) doors (door ∷ []))
        ∙ map-append (full from) (filter (opens from) doors) (filter (opens from) (door ∷ []))

    cases : (b : Bool) → IsBest rows (fulls from doors ++ map (full from) (cond b (door ∷ []) [])) (cond b (improved rows row (full from door)) row)
    cases true = IsBest-back rows (fulls from doors) (full from door) row best
    cases false = subst (λ (edges : List Edge). IsBest rows edges row) (sym (append-nil (fulls from doors))) best
