-- The first line of some bytes, found byte by byte.
use Rattle.std.proofs.Common.{◌≡◌, ◌<◌, ℕ, zero, suc, true, false, List, [], ◌∷◌, length, get_or, take, drop, refl, ap, arith}
use Rattle.access_logs.specs.Entries.{ends_line, first_line, up_to_end}

-- the first byte that ends a line
pub up_to_end-found :
    (bytes : List ℕ) (i : ℕ) → i < length bytes → ((k : ℕ) → k < i → ends_line (get_or bytes k 0) ≡ false) →
    ends_line (get_or bytes i 0) ≡ true → up_to_end bytes ≡ take i bytes
up_to_end-found [] i within before here = absurd (omega (arith, within))
up_to_end-found (byte ∷ bytes) zero within before here = rw here refl
up_to_end-found (byte ∷ bytes) (suc i) within before here =
    rw (before 0 (omega arith))
    (ap (λ xs. byte ∷ xs)
    (up_to_end-found bytes i (omega (arith, within)) (λ k less. before (suc k) (omega (arith, less))) here))

-- there is none
pub up_to_end-all :
    (bytes : List ℕ) → ((k : ℕ) → k < length bytes → ends_line (get_or bytes k 0) ≡ false) → up_to_end bytes ≡ bytes
up_to_end-all [] none = refl
up_to_end-all (byte ∷ bytes) none =
    rw (none 0 (omega arith))
    (ap (λ xs. byte ∷ xs) (up_to_end-all bytes (λ k less. none (suc k) (omega (arith, less)))))

-- the first byte that doesn't
pub first_line-found :
    (bytes : List ℕ) (i : ℕ) → i < length bytes → ((k : ℕ) → k < i → ends_line (get_or bytes k 0) ≡ true) →
    ends_line (get_or bytes i 0) ≡ false → first_line bytes ≡ up_to_end (drop i bytes)
first_line-found [] i within before here = absurd (omega (arith, within))
first_line-found (byte ∷ bytes) zero within before here = rw here refl
first_line-found (byte ∷ bytes) (suc i) within before here =
    rw (before 0 (omega arith))
    (first_line-found bytes i (omega (arith, within)) (λ k less. before (suc k) (omega (arith, less))) here)

-- there is none
pub first_line-none :
    (bytes : List ℕ) → ((k : ℕ) → k < length bytes → ends_line (get_or bytes k 0) ≡ true) → first_line bytes ≡ []
first_line-none [] none = refl
first_line-none (byte ∷ bytes) none =
    rw (none 0 (omega arith)) (first_line-none bytes (λ k less. none (suc k) (omega (arith, less))))
