-- How a number is divided among workers; this project's profile.
use Rattle.std.specs.Prelude.{◌≡◌, ◌<◌, ℕ, suc, zero, ◌+◌, ◌-◌, ◌*◌, ◌/◌}

-- rule: Portion of a worker
-- what falls to the workers up to it, by their number among all workers, without what falls to those before it
abbrev pub portion : ℕ → ℕ → ℕ → ℕ
portion all workers worker = suc worker * all / workers - worker * all / workers

-- what falls to the first so many workers
abbrev pub portions : ℕ → ℕ → ℕ → ℕ
portions all workers zero = 0
portions all workers (suc count) = portions all workers count + portion all workers count

-- what falls to all of them is the whole
abbrev pub PortionsAreAll : Type 0
PortionsAreAll = (all workers : ℕ) → 0 < workers → portions all workers workers ≡ all
