-- A value is split at its first comma.
use Rattle.std.proofs.Common.{◌≡◌, ◌≢◌, ℕ, zero, suc, ◌+◌, ◌-◌, ◌<◌, ◌≤◌, inl, inr, Bool, true, false, ◌||◌, List, [], ◌∷◌, length, get_or, take, drop, cond, refl, sym, subst, ap, ◌∙◌, arith}
use Rattle.std.proofs.lemmas.Bool.{eq-eqb, ne_eqb, cases_lt}
use Rattle.std.proofs.lemmas.List.{get_or-drop, length-drop, drop-drop}
use Rattle.std.specs.List.{list_any}
use Rattle.http_wire.specs.Closing.{begin_first, parts_of, is_close, lists_close}

parts_of-comma :
    (bytes : List ℕ) (at : ℕ) →
    at < length bytes →
    get_or bytes at 0 ≡ 44 →
    ((k : ℕ) → k < at → get_or bytes k 0 ≢ 44) →
    parts_of bytes ≡ take at bytes ∷ parts_of (drop (suc at) bytes)
parts_of-comma [] at inside comma before = absurd (omega arith)
parts_of-comma (byte ∷ bytes) zero inside comma before =
    ap (λ t. cond t ([] ∷ parts_of bytes) (begin_first byte (parts_of bytes))) (eq-eqb byte 44 comma)
parts_of-comma (byte ∷ bytes) (suc at) inside comma before =
    ap (λ t. cond t ([] ∷ parts_of bytes) (begin_first byte (parts_of bytes))) (ne_eqb byte 44 (before 0 (omega arith)))
    ∙ ap (begin_first byte) (parts_of-comma bytes at (omega arith) comma (λ k below. before (suc k) (omega arith)))

parts_of-whole :
    (bytes : List ℕ) →
    ((k : ℕ) → k < length bytes → get_or bytes k 0 ≢ 44) →
    parts_of bytes ≡ bytes ∷ []
parts_of-whole [] none = refl
parts_of-whole (byte ∷ bytes) none =
    ap (λ t. cond t ([] ∷ parts_of bytes) (begin_first byte (parts_of bytes))) (ne_eqb byte 44 (none 0 (omega arith)))
    ∙ ap (begin_first byte) (parts_of-whole bytes (λ k below. none (suc k) (omega arith)))

or_false : (b : Bool) → (b || false) ≡ b
or_false true = refl
or_false false = refl

-- from a start on, the part up to a first comma counts, and then what is after it
pub lists_close-comma :
    (value : List ℕ) (start at : ℕ) →
    start ≤ at →
    at < length value →
    get_or value at 0 ≡ 44 →
    ((k : ℕ) → start ≤ k → k < at → get_or value k 0 ≢ 44) →
    lists_close (drop start value) ≡ (is_close (take (at - start) (drop start value)) || lists_close (drop (at + 1) value))
unfolding lists_close
lists_close-comma value start at later inside comma before =
    let here : start + (at - start) ≡ at = omega arith in
    let behind : start + suc (at - start) ≡ at + 1 = omega arith in
    ap (list_any is_close)
    (parts_of-comma (drop start value) (at - start) (omega (arith, length-drop start value))
    (get_or-drop start value (at - start) 0 ∙ ap (λ k. get_or value k 0) here ∙ comma)
    (λ k below same. before (start + k) (omega arith) (omega arith) (sym (get_or-drop start value k 0) ∙ same)))
    ∙ ap (λ rest. is_close (take (at - start) (drop start value)) || list_any is_close (parts_of rest))
    (drop-drop (suc (at - start)) start value ∙ ap (λ k. drop k value) behind)

pub lists_close-whole :
    (value : List ℕ) (start : ℕ) →
    ((k : ℕ) → start ≤ k → k < length value → get_or value k 0 ≢ 44) →
    lists_close (drop start value) ≡ is_close (drop start value)
unfolding lists_close
lists_close-whole value start none =
    ap (list_any is_close)
    (parts_of-whole (drop start value)
    (λ k below same. none (start + k) (omega arith) (omega (arith, length-drop start value)) (sym (get_or-drop start value k 0) ∙ same)))
    ∙ or_false (is_close (drop start value))

-- one more byte is no comma
pub no_comma-more :
    (value : List ℕ) (start at : ℕ) →
    ((k : ℕ) → start ≤ k → k < at → get_or value k 0 ≢ 44) →
    get_or value at 0 ≢ 44 →
    (k : ℕ) → start ≤ k → k < at + 1 → get_or value k 0 ≢ 44
no_comma-more value start at before here k from below same =
    elim (cases_lt k at) [
      | inl less ↦ before k from less same
      | inr not_less ↦ (
          let last : k ≡ at = omega arith in
          here (subst (λ (i : ℕ). get_or value i 0 ≡ 44) last same)
          )
    ]
