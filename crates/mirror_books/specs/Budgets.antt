-- The book of a mirror: the bytes that it may be granted, and those that it was granted. The budget is
-- this project's profile; no public standard has it.
use Rattle.std.specs.Prelude.{◌≡◌, ℕ, ◌+◌, ◌-◌, ◌≤◌, ◌^◌}

-- a mirror's budget, and the bytes that it was granted
pub record Account : Type 0 where
  pub budget : ℕ
  pub total : ℕ

-- how many bytes may still be granted
abbrev pub bytes_left : Account → ℕ
bytes_left account = account.budget - account.total

-- a grant of that many bytes stays within the budget
abbrev pub HasRoom : Account → ℕ → Type 0
HasRoom account bytes = account.total + bytes ≤ account.budget

-- rule: Grant of bytes
-- the bytes were added to what was granted, and the budget did not change
pub record Grants (old new : Account) (bytes : ℕ) : Type 0 where
  pub total : new.total ≡ old.total + bytes
  pub budget : new.budget ≡ old.budget

-- rule: Raise of a budget
-- the budget is another, and what was granted did not change
pub record Raises (old new : Account) (bytes : ℕ) : Type 0 where
  pub budget : new.budget ≡ bytes
  pub total : new.total ≡ old.total

-- rule: Budget of a mirror
-- what holds of every book: one ledger counts the total, which is within the budget; a second ledger counts what the
-- budget was raised by, above the first one; and the budget is at most what it may come to, by the ledger's name, and at
-- most 2^60
pub record IsKept (first most counted raised : ℕ) (account : Account) : Type 0 where
  pub adds_up : counted ≡ account.total
  pub within : account.total ≤ account.budget
  pub from : first ≤ account.budget
  pub to : account.budget ≤ most
  pub bounded : account.budget ≤ 2 ^ 60
  pub raised_by : first + raised ≡ account.budget

-- rule: Present budgets
-- what holds of the part with which a budget is raised: it is all parts of the second ledger, so the first budget and its
-- amount are the present budget
pub record IsRaiser (first parts amount now : ℕ) : Type 0 where
  pub whole : parts ≡ 1
  pub adds_up : first + amount ≡ now
