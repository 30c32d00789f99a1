-- Numbers and versions as they are spelled: each is read from what is written of it.
use Rattle.std.proofs.Common.{◌≡◌, ℕ, zero, suc, ◌^◌, ◌<◌, ◌≤◌, Bool, true, false, cond, List, [], ◌∷◌, length, get_or, ltb, nat_lt, Option, None, Some, refl, sym, ap, ◌∙◌, subst, arith}
use Rattle.std.specs.Prelude.{position}
use Rattle.std.specs.Fmt.{decimal}
use Rattle.std.specs.List.{list_all, position_or_len}
use Rattle.std.specs.Option.{is_some, option_map_or}
use Rattle.std.specs.Str.{bytes_eq}
use Rattle.std.specs.Str.Parse.{digits_value}
use Rattle.std.proofs.lemmas.Bool.{and_from, and_parts, false_from_ne_true, false≢true, le-leb, lt-ltb, not_from_false}
use Rattle.std.proofs.lemmas.Bool.Decides.{nat_tests}
use Rattle.std.proofs.lemmas.Fmt.{decimal_digit, decimal_nonempty, digits_decimal, digits_value-decimal, first_decimal, length-decimal-le}
use Rattle.std.proofs.lemmas.List.Sums.{position_or_len_is}
use Rattle.std.proofs.lemmas.Option.{slice_get-get_or}
use Rattle.std.proofs.lemmas.Slice.Eq.{bytes_eq-Decides}
use Rattle.catalogue.specs.VersionLaws.{BelowIsIrreflexive}
use Rattle.catalogue.specs.Versions.{is_below, version_of}
use Rattle.values.specs.Ordered.{ascend}
use Rattle.catalogue.specs.Validity.{is_valid_release, is_release_below}
use Rattle.catalogue.specs.declared.content.Cohort.{Cohort}
use Rattle.catalogue.specs.declared.content.Release.{Release}
use Rattle.certificates.specs.Forms.{has_leading_zero, is_plain, is_version, number_below}
use Rattle.certificates.specs.Reading.{is_spelled}
use Rattle.certificates.specs.Strings.{spelled_at}
use Rattle.certificates.proofs.NumberLemmas.{numerals}
use Rattle.certificates.proofs.VisibleLemmas.{IsVisible, IsVisible-version}

-- a number's print has no zero in front, unless it is `0`
plain-decimal : (number : ℕ) → number < 2 ^ 50 → has_leading_zero (decimal number) ≡ false
plain-decimal zero small =
    let digit : decimal 0 ≡ 48 ∷ [] = decimal_digit 0 (omega arith) in
    rw digit refl
plain-decimal (suc number) small =
    let first : 48 < get_or (decimal (suc number)) 0 0 = first_decimal (suc number) (omega arith) (omega arith) in
    grind (arith, nat_tests)

-- a number is read from its print
pub number_below-decimal :
    (bound number : ℕ) → bound ≤ 2 ^ 50 → number < bound → number_below bound (decimal number) ≡ Some number
number_below-decimal bound number small below =
    let few : length (decimal number) ≤ 16 = length-decimal-le 16 number (omega arith) (omega arith) (omega arith) in
    let some : 0 < length (decimal number) = decimal_nonempty number (omega arith) in
    let digits = digits_decimal numerals number (omega arith) in
    let plain = not_from_false _ (plain-decimal number (omega arith)) in
    let is : is_plain (decimal number) ≡ true = and_from _ _
    (and_from _ _ (and_from _ _ (le-leb _ _ (omega arith)) (le-leb _ _ few)) digits) plain in
    let value = digits_value-decimal numerals number (omega arith) in
    let less : nat_lt (digits_value 10 (decimal number)) bound ≡ true = ap (λ n. ltb n bound) value ∙ lt-ltb number
    bound below in
    rw (is, less) (ap (λ n. Some n) value)

-- a release's spelling is that of its version
record HasVersion (release : Release) : Type 0 where
  read : List ℕ × ℕ
  is : version_of release.spelled ≡ Some read
  same : read.0 ≡ release.version

HasVersion-good : (cohorts : List Cohort) (release : Release) → is_valid_release cohorts release ≡ true →
    HasVersion release
HasVersion-good cohorts release good =
    by_read (version_of release.spelled) refl
    (and_parts _ _ (and_parts _ _ (and_parts _ _ (and_parts _ _ good).0).0).0).0
  where
    by_read :
        (read : Option (List ℕ × ℕ)) → version_of release.spelled ≡ read →
        option_map_or (λ (r : List ℕ × ℕ). bytes_eq r.0 release.version) read false ≡ true → HasVersion release
    by_read None is spelled = absurd (false≢true spelled)
    by_read (Some read) is spelled =
        record { read = read; is = is; same = (bytes_eq-Decides read.0 release.version).0 spelled }

list_all-at :
    {A : Type 0} (p : A → Bool) (xs : List A) (k : ℕ) (d : A) → list_all p xs ≡ true → k < length xs →
    p (get_or xs k d) ≡ true
list_all-at p [] k d all within = absurd (omega arith)
list_all-at p (x ∷ xs) zero d all within = (and_parts (p x) (list_all p xs) all).0
list_all-at p (x ∷ xs) (suc k) d all within = list_all-at p xs k d (and_parts (p x) (list_all p xs) all).1 (omega arith)

ascend-at :
    {A : Type 0} (before : A → A → Bool) (xs : List A) (i j : ℕ) (d : A) →
    ascend before xs ≡ true → i < j → j < length xs → before (get_or xs i d) (get_or xs j d) ≡ true
ascend-at before [] i j d rises less within = absurd (omega arith)
ascend-at before (x ∷ xs) i zero d rises less within = absurd (omega arith)
ascend-at before (x ∷ xs) zero (suc j) d rises less within =
    list_all-at (before x) xs j d (and_parts (list_all (before x) xs) (ascend before xs) rises).0 (omega arith)
ascend-at before (x ∷ xs) (suc i) (suc j) d rises less within =
    ascend-at before xs i j d (and_parts (list_all (before x) xs) (ascend before xs) rises).1 (omega arith)
    (omega arith)

-- the releases of an app: in order, and each spelled as its version
pub record AreSpelled (cohorts : List Cohort) (releases : List Release) : Type 0 where
  pub ascends : ascend is_release_below releases ≡ true
  pub good : list_all (is_valid_release cohorts) releases ≡ true

module _ (irreflexive : BelowIsIrreflexive) (cohorts : List Cohort) (releases : List Release)
    (spelled : AreSpelled cohorts releases) where
  version-at : (index : ℕ) (d : Release) → index < length releases → HasVersion (get_or releases index d)
  version-at index d within = HasVersion-good cohorts (get_or releases index d)
      (list_all-at (is_valid_release cohorts) releases index d spelled.good within)

  spelled-at : (index : ℕ) (d : Release) → index < length releases →
      spelled_at releases index ≡ (get_or releases index d).spelled
  spelled-at index d within =
      ap (λ (r : Option Release). option_map_or (λ (own : Release). own.spelled) r [])
      (slice_get-get_or releases index d within)

  -- a spelling is visible, and that of a version
  pub IsVisible-spelled : (index : ℕ) (d : Release) → index < length releases → IsVisible (spelled_at releases index)
  IsVisible-spelled index d within =
      let has = version-at index d within in
      subst IsVisible (sym (spelled-at index d within))
      (IsVisible-version (get_or releases index d).spelled has.read has.is)

  pub is_version-spelled : (index : ℕ) (d : Release) → index < length releases →
      is_version (spelled_at releases index) ≡ true
  is_version-spelled index d within =
      let has = version-at index d within in
      ap is_version (spelled-at index d within) ∙ ap (λ (o : Option (List ℕ × ℕ)). is_some o) has.is

  -- an earlier release is spelled otherwise
  other-spelled : (index earlier : ℕ) (d : Release) → index < length releases → earlier < index →
      is_spelled (spelled_at releases index) (get_or releases earlier d) ≡ false
  other-spelled index earlier d within less =
      false_from_ne_true _ (λ same.
      let own = version-at index d within in
      let other = version-at earlier d (omega arith) in
      let texts : (get_or releases index d).spelled ≡ (get_or releases earlier d).spelled =
      sym (spelled-at index d within) ∙
      (bytes_eq-Decides (spelled_at releases index) (get_or releases earlier d).spelled).0 same in
      let reads : Some own.read ≡ Some other.read = sym own.is ∙ ap version_of texts ∙ other.is in
      let one : own.read ≡ other.read = cc in
      let versions : (get_or releases index d).version ≡ (get_or releases earlier d).version =
      sym own.same ∙ ap (λ (r : List ℕ × ℕ). r.0) one ∙ other.same in
      let below = ascend-at is_release_below releases earlier index d spelled.ascends less within in
      false≢true (sym (irreflexive (get_or releases earlier d).version)
      ∙ ap (λ (v : List ℕ). is_below (get_or releases earlier d).version v) (sym versions)
      ∙ below))

  -- so a release is found by its spelling
  pub position-spelled : (index : ℕ) (d : Release) → index < length releases →
      position (is_spelled (spelled_at releases index)) releases ≡ Some index
  position-spelled index d within =
      let text = spelled_at releases index in
      let own : is_spelled text (get_or releases index d) ≡ true =
      (bytes_eq-Decides text (get_or releases index d).spelled).1 (spelled-at index d within) in
      let place : position_or_len (is_spelled text) releases ≡ index =
      position_or_len_is (is_spelled text) releases index d (omega arith)
      (λ k less. other-spelled index k d within less) (λ inside. own) in
      ap (λ (n : ℕ). cond (ltb n (length releases)) (Some n) None) place
      ∙ ap (λ (b : Bool). cond b (Some index) None) (lt-ltb index (length releases) within)
