-- Which full packages are permitted from a version, by one pass over the releases.
use Rattle.std.proofs.Common.{◌≡◌, ℕ, zero, suc, ◌+◌, ◌<◌, ◌≤◌, ◌&&◌, ◌||◌, inl, inr, not, Bool, true, false, List, [], ◌∷◌, length, get_or, take, Option, Some, refl, sym, ap, ◌∙◌, arith}
use Rattle.std.specs.List.{list_all, list_any}
use Rattle.std.specs.Option.{option_and_then}
use Rattle.std.proofs.lemmas.Bool.{and_parts, cases_eq, false_from_ne_true, false≢true}
use Rattle.std.proofs.lemmas.List.{get_or_default}
use Rattle.std.proofs.lemmas.List.Sums.{AllPass-from_list_all}
use Rattle.std.proofs.lemmas.Option.{slice_get-get_or}
use Rattle.catalogue.specs.VersionLaws.{BelowIsIrreflexive, BelowIsTransitive}
use Rattle.catalogue.specs.Versions.{is_below}
use Rattle.values.specs.Ordered.{ascend}
use Rattle.catalogue.specs.Validity.{is_release_below}
use Rattle.catalogue.specs.declared.content.Cohort.{Cohort}
use Rattle.catalogue.specs.declared.content.Release.{Release}
use Rattle.payload_graph.specs.Permitted.{is_offered_at, is_stone_between, jumps_stone, leads_down, permits_full, rolls_back}
use Rattle.payload_graph.specs.declared.payload.TrackKey.{TrackKey}
use Rattle.price_cert.specs.declared.row.Row.{Row}
use Rattle.quotes.specs.Outside.{IsBest, is_blocked, is_stone_above, leads_to, sum_if, sum_into}
use Rattle.quotes.specs.declared.outside.Best.{Best}

-- what the pass has found below an index
pub record HasLooked (releases : List Release) (cohort : Cohort) (key : TrackKey) (target version : List ℕ) (rows : List Row) (count : ℕ) (best : Option Best) (blocked : Bool) : Type 0 where
  pub best_is : IsBest (sum_into releases cohort key target version rows) count best
  pub blocked_is : blocked ≡ is_blocked version (take count releases)

or-false : (b : Bool) → (b || false) ≡ b
or-false true = refl
or-false false = refl

or-or : (a b c : Bool) → (a || (b || c)) ≡ ((a || b) || c)
or-or true b c = refl
or-or false b c = refl

-- some item passes the one test if one of the first passes the other
any-take :
    {A : Type 0} (p q : A → Bool) (xs : List A) (n : ℕ) →
    ((k : ℕ) (d : A) → k < length xs → k < n → p (get_or xs k d) ≡ q (get_or xs k d)) →
    ((k : ℕ) (d : A) → k < length xs → n ≤ k → p (get_or xs k d) ≡ false) →
    list_any p xs ≡ list_any q (take n xs)
any-take p q [] zero inside above = refl
any-take p q [] (suc n) inside above = refl
any-take p q (x ∷ xs) zero inside above =
    ap (λ b. b || list_any p xs) (above 0 x (omega arith) (omega arith))
    ∙ any-take p q xs 0 (λ k d within low. absurd (omega arith)) (λ k d within high. above (suc k) d (omega arith) (omega arith))
any-take p q (x ∷ xs) (suc n) inside above =
    ap (λ b. b || list_any p xs) (inside 0 x (omega arith) (omega arith))
    ∙ ap (λ b. q x || b)
    (any-take p q xs n (λ k d within low. inside (suc k) d (omega arith) (omega arith)) (λ k d within high. above (suc k) d (omega arith) (omega arith)))

turn : (a b c : Bool) → (a && (b && c)) ≡ (c && (a && b))
turn true true true = refl
turn true true false = refl
turn true false true = refl
turn true false false = refl
turn false true true = refl
turn false true false = refl
turn false false true = refl
turn false false false = refl

and-true : (b : Bool) → (b && true) ≡ b
and-true true = refl
and-true false = refl

and-false : (a b : Bool) → (a && (b && false)) ≡ false
and-false true true = refl
and-false true false = refl
and-false false b = refl

-- of two releases the one of the lower index is below the other
pub rising :
    (releases : List Release) (i j : ℕ) (d : Release) →
    ascend is_release_below releases ≡ true → i < j → j < length releases →
    is_below (get_or releases i d).version (get_or releases j d).version ≡ true
rising [] i j d rises less within = absurd (omega arith)
rising (x ∷ xs) i zero d rises less within = absurd (omega arith)
rising (x ∷ xs) zero (suc j) d rises less within =
    AllPass-from_list_all (is_release_below x) xs (and_parts (list_all (is_release_below x) xs) (ascend is_release_below xs) rises).0 j d (omega arith)
rising (x ∷ xs) (suc i) (suc j) d rises less within =
    rising xs i j d (and_parts (list_all (is_release_below x) xs) (ascend is_release_below xs) rises).1 (omega arith) (omega arith)

module _ (irreflexive : BelowIsIrreflexive) (transitive : BelowIsTransitive) (releases : List Release) (rises : ascend is_release_below releases ≡ true) where
  -- a release isn't below one of no higher index
  not_rising :
      (i j : ℕ) (d : Release) → j ≤ i → i < length releases →
      is_below (get_or releases i d).version (get_or releases j d).version ≡ false
  not_rising i j d less within = elim (cases_eq j i) [
    | inl same ↦
        ap (λ n. is_below (get_or releases i d).version (get_or releases n d).version) same
        ∙ irreflexive (get_or releases i d).version
    | inr other ↦
        false_from_ne_true _ (λ up.
        false≢true (sym (irreflexive (get_or releases j d).version)
        ∙ transitive (get_or releases j d).version (get_or releases i d).version (get_or releases j d).version (rising releases j i d rises (omega arith) within) up))
  ]

  -- the stones between a version and a release above it are those above the version before the release
  jumps_stone-before :
      (version : List ℕ) (to : ℕ) (release : Release) → to < length releases → release ≡ get_or releases to release →
      jumps_stone releases version release.version ≡ is_blocked version (take to releases)
  jumps_stone-before version to release within item =
      any-take (is_stone_between version release.version) (is_stone_above version) releases to inside above
    where
      own : (d : Release) → get_or releases to d ≡ release
      own d = get_or_default releases to d release within ∙ sym item

      inside :
          (k : ℕ) (d : Release) → k < length releases → k < to →
          is_stone_between version release.version (get_or releases k d) ≡ is_stone_above version (get_or releases k d)
      inside k d there low =
          let there_k = get_or releases k d in
          let up = rising releases k to d rises low within in
          let below = ap (λ (r : Release). is_below there_k.version r.version) (sym (own d)) ∙ up in
          ap (λ b. there_k.stone && (is_below version there_k.version && b)) below
          ∙ ap (λ b. there_k.stone && b) (and-true (is_below version there_k.version))

      above :
          (k : ℕ) (d : Release) → k < length releases → to ≤ k →
          is_stone_between version release.version (get_or releases k d) ≡ false
      above k d there high =
          let there_k = get_or releases k d in
          let up = not_rising k to d high there in
          let below = ap (λ (r : Release). is_below there_k.version r.version) (sym (own d)) ∙ up in
          ap (λ b. there_k.stone && (is_below version there_k.version && b)) below
          ∙ and-false there_k.stone (is_below version there_k.version)

  -- the rule by the stones before
  pub permits_full-before :
      (cohort : Cohort) (key : TrackKey) (target version : List ℕ) (to : ℕ) (release : Release) →
      to < length releases → release ≡ get_or releases to release →
      permits_full releases cohort key target version release
      ≡ leads_to cohort key target version (is_blocked version (take to releases)) release
  permits_full-before cohort key target version to release within item =
      let up = is_below version release.version in
      let low = not (is_below target release.version) in
      let down = rolls_back cohort key && leads_down target version release.version in
      let blocked = is_blocked version (take to releases) in
      ap (λ b. is_offered_at cohort key.pin version release && ((up && (low && not b)) || down)) (jumps_stone-before version to release within item)
      ∙ ap (λ b. is_offered_at cohort key.pin version release && (b || down)) (turn up low (not blocked))

pub any-more :
    {A : Type 0} (p : A → Bool) (xs : List A) (n : ℕ) (d : A) → n < length xs →
    list_any p (take (n + 1) xs) ≡ (list_any p (take n xs) || p (get_or xs n d))
any-more p [] n d within = absurd (omega arith)
any-more p (x ∷ xs) zero d within = or-false (p x)
any-more p (x ∷ xs) (suc n) d within =
    let next : suc n + 1 ≡ suc (n + 1) = omega arith in
    ap (λ m. list_any p (take m (x ∷ xs))) next
    ∙ ap (λ b. p x || b) (any-more p xs n d (omega arith)) ∙ or-or (p x) (list_any p (take n xs)) (p (get_or xs n d))

module _ (irreflexive : BelowIsIrreflexive) (transitive : BelowIsTransitive) (releases : List Release) (rises : ascend is_release_below releases ≡ true) (cohort : Cohort) (key : TrackKey) (target version : List ℕ) (rows : List Row) where
  abbrev sums : ℕ → Option ℕ
  sums to = sum_into releases cohort key target version rows to

  -- the sum of the next release
  pub sum_into-next :
      (to : ℕ) (release : Release) (blocked : Bool) →
      to < length releases → release ≡ get_or releases to release → blocked ≡ is_blocked version (take to releases) →
      sums to ≡ sum_if (leads_to cohort key target version blocked release) rows to release
  sum_into-next to release blocked within item stopped =
      let found = slice_get-get_or releases to release within ∙ ap (λ (r : Release). Some r) (sym item) in
      let permitted = permits_full-before irreflexive transitive releases rises cohort key target version to release within item in
      ap (λ (o : Option Release). option_and_then (λ (r : Release). sum_if (permits_full releases cohort key target version r) rows to r) o) found
      ∙ ap (λ b. sum_if b rows to release) (permitted ∙ ap (λ b. leads_to cohort key target version b release) (sym stopped))

  pub HasLooked-next :
      (to : ℕ) (release : Release) (best better : Option Best) (blocked : Bool) →
      to < length releases → release ≡ get_or releases to release →
      HasLooked releases cohort key target version rows to best blocked →
      (sums to ≡ sum_if (leads_to cohort key target version blocked release) rows to release → IsBest sums to best → IsBest sums (to + 1) better) →
      HasLooked releases cohort key target version rows (to + 1) better (blocked || is_stone_above version release)
  HasLooked-next to release best better blocked within item looked improves =
      record {
        best_is = improves (sum_into-next to release blocked within item looked.blocked_is) looked.best_is;
        blocked_is =
            ap (λ b. b || is_stone_above version release) looked.blocked_is
            ∙ ap (λ (r : Release). is_blocked version (take to releases) || is_stone_above version r) item
            ∙ sym (any-more (is_stone_above version) releases to release within);
      }
