-- What is known of files in folders; this project's profile.
use Rattle.std.specs.Prelude.{ℕ, List}
use Rattle.http_desks.specs.Downloads.{Reads}
use Rattle.http_devices.specs.Opening.{Opens}

-- what opening a file may give, and what may be read of it, by the path of its folder and its name
pub record Storage : Type 1 where
  pub opens : List ℕ → List ℕ → Opens
  pub reads : List ℕ → List ℕ → Reads
