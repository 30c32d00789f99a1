-- What is known of the edges of a server; this project's profile.
use Rattle.std.specs.Prelude.{ℕ, List, Option}
use Rattle.http_desks.specs.Downloads.{Reads}

-- rule: Edges of a server
-- how many connections each of so many ports may hold, of so many in all; which listener, by its number, is bound to an
-- address; at which paths there is a folder; the size of a file, and what may be read of it, by the path of its folder and
-- its name; and at which paths a log was opened
pub record Edges : Type 1 where
  pub holds : ℕ → ℕ → ℕ → Type 0
  pub listens : List ℕ → ℕ → Type 0
  pub folders : List ℕ → Type 0
  pub sizes : List ℕ → List ℕ → Option ℕ → Type 0
  pub reads : List ℕ → List ℕ → Reads
  pub logs : List ℕ → Type 0
