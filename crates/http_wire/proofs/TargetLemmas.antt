-- The bytes before a mark end at the first one.
use Rattle.std.proofs.Common.{◌≡◌, ◌≢◌, ℕ, zero, suc, ◌<◌, List, [], ◌∷◌, length, get_or, take, cond, refl, ap, ◌∙◌, arith}
use Rattle.std.proofs.lemmas.Bool.{eq-eqb, ne_eqb}
use Rattle.http_wire.specs.Targets.{before}

pub before-mark :
    (mark : ℕ) (bytes : List ℕ) (at : ℕ) →
    at < length bytes →
    get_or bytes at 0 ≡ mark →
    ((k : ℕ) → k < at → get_or bytes k 0 ≢ mark) →
    before mark bytes ≡ take at bytes
before-mark mark [] at inside found none = absurd (omega arith)
before-mark mark (byte ∷ bytes) zero inside found none =
    ap (λ t. cond t [] (byte ∷ before mark bytes)) (eq-eqb byte mark found)
before-mark mark (byte ∷ bytes) (suc at) inside found none =
    ap (λ t. cond t [] (byte ∷ before mark bytes)) (ne_eqb byte mark (none 0 (omega arith)))
    ∙ ap (λ (rest : List ℕ). byte ∷ rest) (before-mark mark bytes at (omega arith) found (λ k below. none (suc k) (omega arith)))

pub before-whole :
    (mark : ℕ) (bytes : List ℕ) →
    ((k : ℕ) → k < length bytes → get_or bytes k 0 ≢ mark) →
    before mark bytes ≡ bytes
before-whole mark [] none = refl
before-whole mark (byte ∷ bytes) none =
    ap (λ t. cond t [] (byte ∷ before mark bytes)) (ne_eqb byte mark (none 0 (omega arith)))
    ∙ ap (λ (rest : List ℕ). byte ∷ rest) (before-whole mark bytes (λ k below. none (suc k) (omega arith)))
