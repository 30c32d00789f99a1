-- Cohort texts: how one falls into a name and a bucket, and how those make one.
use Rattle.std.proofs.Common.{◌≡◌, ℕ, ◌+◌, ◌<◌, Bool, true, false, cond, List, [], ◌∷◌, ◌++◌, length, drop, get_or, Option, Some, None, append_assoc, unwrap_or, refl, sym, ap, ◌∙◌, subst, arith}
use Rattle.std.specs.Fmt.{decimal}
use Rattle.std.specs.List.{after_first, before_first, list_all, position_or_len}
use Rattle.std.specs.Str.Parse.{digits_value}
use Rattle.std.proofs.lemmas.Bool.{and_parts, eqb-true, false_from_ne_true, false≢true}
use Rattle.std.proofs.lemmas.List.{drop_all, drop_at, length-append, length-drop, take_at}
use Rattle.std.proofs.lemmas.List.Sums.{passes_at_first, split_at_first}
use Rattle.catalogue.specs.Forms.{is_cohort_byte, is_cohort_name}
use Rattle.cohorts.specs.CohortTexts.{bucket_of, is_bucket, is_colon, named, parsed, printed}
use Rattle.cohorts.proofs.BucketLemmas.{bucket_nonempty, bucket_of-decimal, decimal-bucket}

-- a string is read by what is before and after its first colon
pub parsed-split : (text name digits : List ℕ) → name ≡ before_first is_colon text → digits ≡ after_first is_colon text → parsed text ≡ named name (bucket_of digits)
unfolding parsed
parsed-split text name digits before after = rw (before, after) refl

-- a string without a colon is not well formed
pub parsed-no_colon : (text : List ℕ) → position_or_len is_colon text ≡ length text → parsed text ≡ None
unfolding parsed
parsed-no_colon text none =
    let nothing : after_first is_colon text ≡ [] = drop_all _ text (omega (arith, none)) in
    ap (λ digits. named (before_first is_colon text) (bucket_of digits)) nothing

-- a byte of a cohort's name is no colon
is_colon-name : (byte : ℕ) → is_cohort_byte byte ≡ true → is_colon byte ≡ false
is_colon-name byte good =
    false_from_ne_true (is_colon byte) (λ colon. false≢true (subst (λ b. is_cohort_byte b ≡ true) (eqb-true byte 58 colon) good))

-- the first colon of a cohort text is after its name
colon_behind : (name digits : List ℕ) → list_all is_cohort_byte name ≡ true → position_or_len is_colon (name ++ 58 ∷ digits) ≡ length name
colon_behind [] digits good = refl
colon_behind (byte ∷ name) digits good =
    let parts = and_parts _ _ good in
    rw (is_colon-name byte parts.0, colon_behind name digits parts.1) (omega arith)

-- what is after the colon
drop-colon : (name digits : List ℕ) → drop (length name + 1) (name ++ 58 ∷ digits) ≡ digits
drop-colon name digits =
    rw (← append_assoc name (58 ∷ []) digits)
    (drop_at (name ++ 58 ∷ []) digits (length name + 1) (length-append name (58 ∷ [])))

-- a name and a bucket are read back from their cohort text
pub parsed-printed : (name : List ℕ) (bucket : ℕ) → is_cohort_name name ≡ true → bucket < 1000 → parsed (printed name bucket) ≡ Some (name, bucket)
parsed-printed name bucket good small =
    let digits : List ℕ = decimal bucket in
    let behind = colon_behind name digits (and_parts _ _ good).1 in
    let before : before_first is_colon (name ++ 58 ∷ digits) ≡ name = take_at name (58 ∷ digits) _ (sym behind) in
    let after : after_first is_colon (name ++ 58 ∷ digits) ≡ digits = ap (λ place. drop (place + 1) (name ++ 58 ∷ digits)) behind ∙ drop-colon name digits in
    parsed-split (name ++ 58 ∷ digits) name digits (sym before) (sym after)
    ∙ rw (bucket_of-decimal bucket small, good) refl

-- what a string names: a valid name and bucket
pub record Names (text name : List ℕ) (bucket : ℕ) : Type 0 where
  pub good : is_cohort_name name ≡ true
  pub digits : is_bucket (after_first is_colon text) ≡ true
  pub before : before_first is_colon text ≡ name
  pub spelled : digits_value 10 (after_first is_colon text) ≡ bucket

Names-named : (text name : List ℕ) (bucket : ℕ) → named (before_first is_colon text) (bucket_of (after_first is_colon text)) ≡ Some (name, bucket) → Names text name bucket
Names-named text name bucket whole =
    by_digits (is_bucket (after_first is_colon text)) refl (is_cohort_name (before_first is_colon text)) refl whole
  where
    by_name : (good : Bool) → is_cohort_name (before_first is_colon text) ≡ good → is_bucket (after_first is_colon text) ≡ true → cond {A = Option (List ℕ × ℕ)} good (Some (before_first is_colon text, digits_value 10 (after_first is_colon text))) None ≡ Some (name, bucket) → Names text name bucket
    by_name false named_good digits whole = cc
    by_name true named_good digits whole =
        let before : before_first is_colon text ≡ name = ap (λ (read : Option (List ℕ × ℕ)). (unwrap_or read (name, bucket)).0) whole in
        let spelled : digits_value 10 (after_first is_colon text) ≡ bucket = ap (λ (read : Option (List ℕ × ℕ)). (unwrap_or read (name, bucket)).1) whole in
        record {
          good = rw (← before) named_good;
          digits = digits;
          before = before;
          spelled = spelled;
        }

    by_digits : (digits : Bool) → is_bucket (after_first is_colon text) ≡ digits → (good : Bool) → is_cohort_name (before_first is_colon text) ≡ good → named (before_first is_colon text) (cond digits (Some (digits_value 10 (after_first is_colon text))) None) ≡ Some (name, bucket) → Names text name bucket
    by_digits false digits good named_good whole = cc
    by_digits true digits good named_good whole = by_name good named_good digits (rw named_good at whole)

-- what is read from a string is valid, and prints as that string
pub printed-parsed : (text name : List ℕ) (bucket : ℕ) → parsed text ≡ Some (name, bucket) → (is_cohort_name name ≡ true) × (bucket < 1000) × (printed name bucket ≡ text)
unfolding parsed
printed-parsed text name bucket whole =
    let names = Names-named text name bucket whole in
    let decimals = decimal-bucket (after_first is_colon text) names.digits in
    let some : 0 < length (after_first is_colon text) = bucket_nonempty (after_first is_colon text) names.digits in
    let within : position_or_len is_colon text < length text = omega (arith, some, length-drop (position_or_len is_colon text + 1) text) in
    let colon : get_or text (position_or_len is_colon text) 0 ≡ 58 = eqb-true _ _ (passes_at_first is_colon text 0 within) in
    let split = split_at_first is_colon text 0 within in (
      names.good,
      rw (← names.spelled) decimals.0,
      rw (← names.spelled, decimals.1, ← names.before) (sym (rw colon at split)),
    )
