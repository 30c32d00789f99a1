-- Which mirror grants an ask of a worker that is alone, if no budget is raised; this project's profile.
use Rattle.std.specs.Prelude.{◌≡◌, ℕ, ◌+◌, ◌<◌, ◌≤◌, List, length, Option, None, Some}
use Rattle.catalogue.specs.declared.mirror.Mirror.{Mirror}
use Rattle.mirror_ledger.specs.Asks.{Ask, granted_at}
use Rattle.mirror_ledger.specs.Named.{AreFixed, budget_at}

-- the mirror at an index has room for the bytes, beside what it granted of some asks
abbrev pub HasRoomAt : List Mirror → List Ask → ℕ → ℕ → Type 0
HasRoomAt mirrors asks bytes index = granted_at index asks + bytes ≤ budget_at mirrors index

-- no mirror before an index has room
abbrev pub AreFullBefore : List Mirror → List Ask → ℕ → ℕ → Type 0
AreFullBefore mirrors asks bytes end = (index : ℕ) → index < end → HasRoomAt mirrors asks bytes index → ⊥

-- rule: First mirror with room
-- the first mirror that has room for the bytes, beside what it granted of some asks; none if no mirror
-- has room
abbrev pub IsFirstWithRoom : List Mirror → List Ask → ℕ → Option ℕ → Type 0
IsFirstWithRoom mirrors asks bytes None = AreFullBefore mirrors asks bytes (length mirrors)
IsFirstWithRoom mirrors asks bytes (Some first) =
    (first < length mirrors) × HasRoomAt mirrors asks bytes first × AreFullBefore mirrors asks bytes first

-- each of four ledgers has one part
pub record HaveOnePart (first second third fourth : ℕ) : Type 0 where
  pub at_first : first ≡ 1
  pub at_second : second ≡ 1
  pub at_third : third ≡ 1
  pub at_fourth : fourth ≡ 1

-- one worker is alone: each ledger has one part, and no budget may be raised
pub record IsAlone (mirrors : List Mirror) (first second third fourth : ℕ) (one two three four : ℕ) : Type 0 where
  pub parts : HaveOnePart first second third fourth
  pub fixed : AreFixed mirrors one two three four
