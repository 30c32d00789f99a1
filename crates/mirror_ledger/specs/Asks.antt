-- The asks of a worker, and what its shares are of them; this project's profile.
use Rattle.std.specs.Prelude.{◌≡◌, ℕ, ◌==◌, ◌≤◌, if◌then◌else◌, ◌++◌, ◌∷◌, [], All, List, sum_by, Option, None, Some}
use Rattle.mirror_ledger.specs.declared.asks.Asks.{Asks, Empty, Asked'}

-- an ask: its bytes, and the index of the mirror that granted them, if one did
abbrev pub Ask : Type 0
Ask = ℕ × Option ℕ

-- the asks of a list, the first one first
abbrev pub asks_of : Asks → List Ask
asks_of Empty = []
asks_of (Asked' bytes granted p before) = asks_of before ++ (bytes, granted) ∷ []

-- rule: Ask of a worker
-- what an ask adds to the share of the mirror at an index: its bytes if that mirror granted them
abbrev pub booked : ℕ → ℕ → Option ℕ → ℕ
booked index bytes None = 0
booked index bytes (Some granting) = if granting == index then bytes else 0

-- the bytes that the mirror at an index granted, of all asks
abbrev pub granted_at : ℕ → List Ask → ℕ
granted_at index asks = sum_by (λ (ask : Ask). booked index ask.0 ask.1) asks

-- rule: Shares and asks
-- four shares are the sums of the asks that their mirrors granted
pub record AreTallied (first second third fourth : ℕ) (asks : List Ask) : Type 0 where
  pub at_first : first ≡ granted_at 0 asks
  pub at_second : second ≡ granted_at 1 asks
  pub at_third : third ≡ granted_at 2 asks
  pub at_fourth : fourth ≡ granted_at 3 asks

-- rule: Shares at the opening
-- shares of 0 and no asks
pub record AreUnused (first second third fourth : ℕ) (asks : List Ask) : Type 0 where
  pub at_first : first ≡ 0
  pub at_second : second ≡ 0
  pub at_third : third ≡ 0
  pub at_fourth : fourth ≡ 0
  pub none_asked : asks ≡ []

-- each ask for fewer bytes than this was granted
abbrev pub AreGrantedBelow : ℕ → List Ask → Type 0
AreGrantedBelow bound asks = All (λ (ask : Ask). ask.1 ≡ None → bound ≤ ask.0) asks
