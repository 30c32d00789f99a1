-- What may be seen of the end of servers; this project's profile.
use Rattle.std.specs.Prelude.{ℕ, List}

-- nobody listened at an operator's address: a connection was rejected, or the socket of its path was gone; and a wait of so
-- many seconds was over
pub record Endings : Type 1 where
  pub gone : List ℕ → Type 0
  pub over : ℕ → Type 0
