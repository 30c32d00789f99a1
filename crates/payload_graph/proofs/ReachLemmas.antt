-- How far the doors up to the first stone reach.
use Rattle.std.proofs.Common.{◌≡◌, ℕ, zero, suc, ◌+◌, ◌-◌, ◌<◌, ◌≤◌, ◌||◌, Bool, true, false, cond, List, [], ◌∷◌, length, get_or, take, refl, sym, ap, ◌∙◌, arith, length-drop}
use Rattle.std.specs.List.{list_any}
use Rattle.std.proofs.lemmas.List.{length-take-le}
use Rattle.payload_graph.proofs.RangeLemmas.{between-more, take-between}
use Rattle.payload_graph.specs.Net.{between, to_stone}
use Rattle.payload_graph.specs.Soundness.{no_door, reach_of}
use Rattle.payload_graph.specs.declared.door.Door.{Door}

-- a door is a stone
abbrev pub is_stone : Door → Bool
is_stone door = door.stone

-- the doors up to the first stone are at the front
take-to_stone : (doors : List Door) → take (length (to_stone doors)) doors ≡ to_stone doors
take-to_stone [] = refl
take-to_stone (door ∷ doors) = ap (λ (rest : List Door). door ∷ rest) (cases door.stone (take-to_stone doors))
  where
    cases :
        (b : Bool) → take (length (to_stone doors)) doors ≡ to_stone doors →
        take (length (cond b [] (to_stone doors))) doors ≡ cond b [] (to_stone doors)
    cases true rest = refl
    cases false rest = rest

pub length-to_stone : (doors : List Door) → length (to_stone doors) ≤ length doors
length-to_stone [] = omega arith
length-to_stone (door ∷ doors) = cases door.stone (length-to_stone doors)
  where
    cases :
        (b : Bool) → length (to_stone doors) ≤ length doors →
        suc (length (cond b [] (to_stone doors))) ≤ suc (length doors)
    cases true rest = omega arith
    cases false rest = omega arith

-- no stone is before a door up to the first stone
pub no_stone_before :
    (doors : List Door) (k : ℕ) →
    k < length (to_stone doors) → list_any is_stone (take k doors) ≡ false
no_stone_before doors zero reached = refl
no_stone_before [] (suc k) reached = absurd (omega arith)
no_stone_before (door ∷ doors) (suc k) reached =
    cases door.stone refl reached (λ less. no_stone_before doors k less)
  where
    cases :
        (b : Bool) → door.stone ≡ b →
        suc k < suc (length (cond b [] (to_stone doors))) →
        (k < length (to_stone doors) → list_any is_stone (take k doors) ≡ false) →
        (door.stone || list_any is_stone (take k doors)) ≡ false
    cases true stone reached rest = absurd (omega arith)
    cases false plain reached rest =
        ap (λ b. b || list_any is_stone (take k doors)) plain ∙ rest (omega arith)

-- a stone is before a door after the first stone
pub stone_before :
    (doors : List Door) (k : ℕ) →
    length (to_stone doors) ≤ k → k < length doors → list_any is_stone (take k doors) ≡ true
stone_before [] k past within = absurd (omega arith)
stone_before (door ∷ doors) zero past within = absurd (omega arith)
stone_before (door ∷ doors) (suc k) past within =
    cases door.stone refl past (λ behind. stone_before doors k behind (omega arith))
  where
    cases :
        (b : Bool) → door.stone ≡ b →
        suc (length (cond b [] (to_stone doors))) ≤ suc k →
        (length (to_stone doors) ≤ k → list_any is_stone (take k doors) ≡ true) →
        (door.stone || list_any is_stone (take k doors)) ≡ true
    cases true stone past rest = ap (λ b. b || list_any is_stone (take k doors)) stone
    cases false plain past rest =
        ap (λ b. b || list_any is_stone (take k doors)) plain ∙ rest (omega arith)

-- how many items are between two indexes
pub length-between : {A : Type 0} (xs : List A) (low high : ℕ) → high ≤ length xs → length (between low high xs) ≡ high - low
length-between xs low high within =
    length-drop low (take high xs) ∙ ap (λ n. n - low) (length-take-le high xs within)

-- a window is the next door and, unless that is a stone, the next window
pub to_stone-more :
    (target : ℕ) (doors : List Door) (from : ℕ) →
    from < target → target < length doors →
    to_stone (between (from + 1) (target + 1) doors)
    ≡ get_or doors (from + 1) no_door
    ∷ cond (get_or doors (from + 1) no_door).stone [] (to_stone (between (from + 1 + 1) (target + 1) doors))
to_stone-more target doors from below within =
    ap to_stone (between-more doors (from + 1) (target + 1) no_door (omega arith) (omega arith))

pub reach_of-more :
    (target : ℕ) (doors : List Door) (from next : ℕ) (b : Bool) →
    from < target → target < length doors →
    (get_or doors (from + 1) no_door).stone ≡ b →
    next ≡ reach_of target doors (from + 1) →
    cond b (from + 2) next ≡ reach_of target doors from
reach_of-more target doors from next b below within stone is_next =
    cases b stone
  where
    opened : (b : Bool) → (get_or doors (from + 1) no_door).stone ≡ b →
        reach_of target doors from
        ≡ from + 1 + suc (length (cond b [] (to_stone (between (from + 1 + 1) (target + 1) doors))))
    opened b stone =
        ap (λ (items : List Door). from + 1 + length items) (to_stone-more target doors from below within)
        ∙ ap (λ b. from + 1 + suc (length (cond b [] (to_stone (between (from + 1 + 1) (target + 1) doors))))) stone

    cases : (b : Bool) → (get_or doors (from + 1) no_door).stone ≡ b → cond b (from + 2) next ≡ reach_of target doors from
    cases true stone = let o = opened true stone in omega arith
    cases false plain = let o = opened false plain in omega arith

-- a reach ends no earlier than its window begins, and not above the target
pub reach_of-bounds :
    (target : ℕ) (doors : List Door) (from : ℕ) →
    from ≤ target → target < length doors →
    (from + 1 ≤ reach_of target doors from) × (reach_of target doors from ≤ target + 1)
reach_of-bounds target doors from below within =
    let few = length-to_stone (between (from + 1) (target + 1) doors) in
    let size = length-between doors (from + 1) (target + 1) (omega arith) in
    (omega arith, omega arith)

-- the doors from the next one on, before the reach, are the window
pub between-reach :
    (target : ℕ) (doors : List Door) (from : ℕ) →
    from ≤ target → target < length doors →
    between (from + 1) (reach_of target doors from) doors ≡ to_stone (between (from + 1) (target + 1) doors)
between-reach target doors from below within =
    let bounds = reach_of-bounds target doors from below within in
    sym (take-between doors (from + 1) (target + 1) (length (to_stone (between (from + 1) (target + 1) doors))) bounds.1)
    ∙ take-to_stone (between (from + 1) (target + 1) doors)
