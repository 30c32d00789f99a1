-- The strings between commas, by what is before and after the first comma.
use Rattle.std.proofs.Common.{◌≡◌, ℕ, suc, ◌+◌, ◌<◌, ◌≤◌, ◌==◌, ltb, Bool, true, false, not, cond, List, [], ◌∷◌, length, take, drop, Some, None, refl, ap, ◌∙◌, arith}
use Rattle.std.specs.List.{before_first, after_first, position_or_len}
use Rattle.std.proofs.lemmas.Bool.{le-ltb, lt-ltb, ltb-true, ltb-false}
use Rattle.std.proofs.lemmas.Option.{cond_some}
use Rattle.etcd_records.specs.declared.paths.fault.EtcdPathFault.TheVariants.{BadAddress, ManyAddresses}
use Rattle.etcd_records.specs.Paths.{is_address, addresses_fault, addresses_in, before_all, split_at}

-- without a comma there is one string
no_comma : (text : List ℕ) → length text ≤ position_or_len (λ (byte : ℕ). byte == 44) text → addresses_in text ≡ text ∷ []
no_comma [] none = refl
no_comma (byte ∷ rest) none = cases (byte == 44) none (no_comma rest)
  where
    cases :
        (b : Bool) → length (byte ∷ rest) ≤ cond (not b) (1 + position_or_len (λ (byte : ℕ). byte == 44) rest) 0 →
        (length rest ≤ position_or_len (λ (byte : ℕ). byte == 44) rest → addresses_in rest ≡ rest ∷ []) →
        cond b ([] ∷ addresses_in rest) (before_all byte (addresses_in rest)) ≡ (byte ∷ rest) ∷ []
    cases true at later = absurd (omega (arith, at))
    cases false at later = ap (before_all byte) (later (omega (arith, at)))

take-past : (at byte : ℕ) (rest : List ℕ) → byte ∷ take at rest ≡ take (1 + at) (byte ∷ rest)
take-past at byte rest =
    let one : 1 + at ≡ suc at = omega arith in
    rw one refl

drop-past : (at byte : ℕ) (rest : List ℕ) → drop (at + 1) rest ≡ drop (1 + at + 1) (byte ∷ rest)
drop-past at byte rest =
    let one : 1 + at + 1 ≡ suc (at + 1) = omega arith in
    rw one refl

-- the first string is before the first comma, and the others are after it
comma :
    (text : List ℕ) → position_or_len (λ (byte : ℕ). byte == 44) text < length text →
    addresses_in text ≡ before_first (λ (byte : ℕ). byte == 44) text ∷ addresses_in (after_first (λ (byte : ℕ). byte == 44) text)
comma [] some = absurd (omega (arith, some))
comma (byte ∷ rest) some = cases (byte == 44) some (comma rest)
  where
    cases :
        (b : Bool) → cond (not b) (1 + position_or_len (λ (byte : ℕ). byte == 44) rest) 0 < length (byte ∷ rest) →
        (position_or_len (λ (byte : ℕ). byte == 44) rest < length rest →
        addresses_in rest ≡ before_first (λ (byte : ℕ). byte == 44) rest ∷ addresses_in (after_first (λ (byte : ℕ). byte == 44) rest)) →
        cond b ([] ∷ addresses_in rest) (before_all byte (addresses_in rest))
        ≡ take (cond (not b) (1 + position_or_len (λ (byte : ℕ). byte == 44) rest) 0) (byte ∷ rest)
        ∷ addresses_in (drop (cond (not b) (1 + position_or_len (λ (byte : ℕ). byte == 44) rest) 0 + 1) (byte ∷ rest))
    cases true at later = refl
    cases false at later =
        let place = position_or_len (λ (byte : ℕ). byte == 44) rest in
        ap (before_all byte) (later (omega (arith, at)))
        ∙ ap (λ (first : List ℕ). first ∷ addresses_in (drop (place + 1) rest)) (take-past place byte rest)
        ∙ ap (λ (others : List ℕ). take (1 + place) (byte ∷ rest) ∷ addresses_in others) (drop-past place byte rest)

none_is : (b : Bool) (parts : List ℕ × List ℕ) → cond b (Some parts) None ≡ None → b ≡ false
none_is true parts is = absurd cc
none_is false parts is = refl

-- without a comma there is one string
pub addresses_in-none : (text : List ℕ) → split_at 44 text ≡ None → addresses_in text ≡ text ∷ []
addresses_in-none text is =
    no_comma text (ltb-false (position_or_len (λ (byte : ℕ). byte == 44) text) (length text) (none_is _ _ is))

-- the first string is before the first comma, and the others are after it
pub addresses_in-some :
    (text first others : List ℕ) → split_at 44 text ≡ Some (first, others) → addresses_in text ≡ first ∷ addresses_in others
addresses_in-some text first others is =
    let parts = cond_some (ltb (position_or_len (λ (byte : ℕ). byte == 44) text) (length text)) (before_first (λ (byte : ℕ). byte == 44) text, after_first (λ (byte : ℕ). byte == 44) text) (first, others) is in
    let within = ltb-true (position_or_len (λ (byte : ℕ). byte == 44) text) (length text) parts.0 in
    comma text within ∙ ap (λ (p : List ℕ × List ℕ). p.0 ∷ addresses_in p.1) parts.1

-- what is wrong with the first string, which is one of the first 16, or with the others
first_fault : (number : ℕ) (first : List ℕ) (others : List (List ℕ)) (valid : Bool) → number ≤ 16 → is_address first ≡ valid
    → addresses_fault number (first ∷ others) ≡ cond valid (addresses_fault (number + 1) others) (Some (BadAddress number))
first_fault number first others valid few is =
    rw (le-ltb 16 number few)
    (ap (λ (b : Bool). cond b (addresses_fault (number + 1) others) (Some (BadAddress number))) is)

-- the last string
pub last_fault : (number : ℕ) (text : List ℕ) (valid : Bool) → split_at 44 text ≡ None → number ≤ 16 → is_address text ≡ valid
    → addresses_fault number (addresses_in text) ≡ cond valid None (Some (BadAddress number))
last_fault number text valid none few is =
    ap (addresses_fault number) (addresses_in-none text none) ∙ first_fault number text [] valid few is

-- a string before a comma
pub next_fault : (number : ℕ) (text first others : List ℕ) (valid : Bool) → split_at 44 text ≡ Some (first, others) → number ≤ 16
    → is_address first ≡ valid
    → addresses_fault number (addresses_in text)
    ≡ cond valid (addresses_fault (number + 1) (addresses_in others)) (Some (BadAddress number))
next_fault number text first others valid some few is =
    ap (addresses_fault number) (addresses_in-some text first others some) ∙ first_fault number first (addresses_in others) valid few is

-- there is a string
some_address : (text : List ℕ) → (first : List ℕ) × (others : List (List ℕ)) × (addresses_in text ≡ first ∷ others)
some_address [] = ([], [], refl)
some_address (byte ∷ rest) = cases (byte == 44) (some_address rest)
  where
    cases :
        (b : Bool) → ((first : List ℕ) × (others : List (List ℕ)) × (addresses_in rest ≡ first ∷ others)) →
        (first : List ℕ) × (others : List (List ℕ)) × (cond b ([] ∷ addresses_in rest) (before_all byte (addresses_in rest)) ≡ first ∷ others)
    cases true later = ([], addresses_in rest, refl)
    cases false later = (byte ∷ later.0, later.1, ap (before_all byte) later.2)

-- the string after the first 16
pub seventeenth_fault : (number : ℕ) (text : List ℕ) → 16 < number → addresses_fault number (addresses_in text) ≡ Some ManyAddresses
seventeenth_fault number text many =
    let some = some_address text in
    ap (addresses_fault number) some.2 ∙ rw (lt-ltb 16 number many) refl
