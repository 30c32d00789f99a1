-- The portions of workers add up.
use Rattle.std.proofs.Common.{◌≡◌, ℕ, suc, zero, ◌*◌, ◌/◌, ◌<◌, ◌≤◌, ap, ◌∙◌, arith}
use Rattle.std.proofs.lemmas.Nat.{div-add-mod', div-mul-add, le-div}
use Rattle.worker_threads.specs.Portions.{portions}

-- a division keeps the order
div-mono : (low high workers : ℕ) → 0 < workers → low ≤ high → low / workers ≤ high / workers
div-mono low high workers some small =
    le-div (low / workers) high workers some (omega (arith, small, div-add-mod' low workers))

-- the first so many workers get what is below the next one's first
portions-up : (all workers count : ℕ) → 0 < workers → portions all workers count ≡ count * all / workers
portions-up all workers zero some = omega (arith, div-mul-add 0 workers 0 some)
portions-up all workers (suc count) some =
    omega (
      arith,
      portions-up all workers count some,
      div-mono (count * all) (suc count * all) workers some (omega arith),
    )

-- all workers get the whole
pub portions-all : (all workers : ℕ) → 0 < workers → portions all workers workers ≡ all
portions-all all workers some =
    portions-up all workers workers some
    ∙ ap (λ (n : ℕ). n / workers) (omega arith)
    ∙ div-mul-add all workers 0 some
