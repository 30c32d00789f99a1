-- What is seen of a reply is decided by its first twelve bytes.
use Rattle.std.proofs.Common.{◌≡◌, ℕ, zero, suc, ◌+◌, ◌≤◌, List, [], ◌∷◌, drop, false, length, take, ◌-◌, refl, sym, ap, ◌∙◌, arith, nat_lt}
use Rattle.std.proofs.lemmas.List.{take_all}
use Rattle.tallies.specs.Statuses.{step, written}
use Rattle.tallies.specs.declared.sight.StatusSight.{StatusSight}

not_below : (m n : ℕ) → n ≤ m → nat_lt m n ≡ false
not_below m n above = grind arith

-- a status that is whole stays
step-whole : (sight : StatusSight) (byte : ℕ) → 12 ≤ sight.count → step sight byte ≡ sight
step-whole sight byte whole = rw (not_below sight.count 9 (omega arith), not_below sight.count 12 whole) refl

written-whole : (sight : StatusSight) (bytes : List ℕ) → 12 ≤ sight.count → written sight bytes ≡ sight
written-whole sight [] whole = refl
written-whole sight (byte ∷ bytes) whole =
    ap (λ (it : StatusSight). written it bytes) (step-whole sight byte whole) ∙ written-whole sight bytes whole

-- with each byte there is one less that counts
step-count : (sight : StatusSight) (byte n : ℕ) → 12 ≤ sight.count + suc n → 12 ≤ (step sight byte).count + n
step-count sight byte n enough = grind arith

pub written-take :
    (n : ℕ) (sight : StatusSight) (bytes : List ℕ) → 12 ≤ sight.count + n → written sight (take n bytes) ≡ written sight bytes
written-take zero sight bytes enough = sym (written-whole sight bytes (omega arith))
written-take (suc n) sight [] enough = refl
written-take (suc n) sight (byte ∷ bytes) enough =
    written-take n (step sight byte) bytes (step-count sight byte n enough)

-- bytes before the status only count
abbrev pub skipped : StatusSight → ℕ → StatusSight
skipped sight n = record { count = sight.count + n; code = sight.code }

step-before : (sight : StatusSight) (byte : ℕ) → suc sight.count ≤ 9 → step sight byte ≡ skipped sight 1
step-before sight byte few = grind arith

skipped-suc : (sight : StatusSight) (n : ℕ) → skipped (skipped sight 1) n ≡ skipped sight (suc n)
skipped-suc sight n = grind arith

skipped-none : (sight : StatusSight) → skipped sight 0 ≡ sight
skipped-none sight = grind arith

pub written-skipped :
    (n : ℕ) (sight : StatusSight) (bytes : List ℕ) → n ≤ length bytes → n ≤ 9 - sight.count →
    written (skipped sight n) (drop n bytes) ≡ written sight bytes
written-skipped zero sight bytes there few = ap (λ (it : StatusSight). written it bytes) (skipped-none sight)
written-skipped (suc n) sight [] there few = absurd (omega arith)
written-skipped (suc n) sight (byte ∷ bytes) there few =
    ap (λ (it : StatusSight). written it (drop n bytes)) (sym (skipped-suc sight n)) ∙
    written-skipped n (skipped sight 1) bytes (omega arith) (omega arith) ∙
    ap (λ (it : StatusSight). written it bytes) (sym (step-before sight byte (omega arith)))

-- the bytes from a place to the end
pub take-rest : (n : ℕ) (bytes : List ℕ) → take (length bytes - n) (drop n bytes) ≡ drop n bytes
take-rest zero bytes = take_all (length bytes - 0) bytes (omega arith)
take-rest (suc n) [] = take_all (0 - suc n) [] (omega arith)
take-rest (suc n) (byte ∷ bytes) =
    let less : length (byte ∷ bytes) - suc n ≡ length bytes - n = omega arith in
    ap (λ (m : ℕ). take m (drop n bytes)) less ∙ take-rest n bytes
