-- What a client is, as contracts see it; this project's profile of the Omaha protocol 3.1.
use Rattle.std.specs.Prelude.{ℕ, List, Bool}

-- an installed app with its version and its fingerprint, the cohort text and the cohort hint that its
-- client sends, whether it allows a downgrade, the session's identifier, and the prefix of versions that its
-- administrator allows, empty for any
pub record Installed : Type 0 where
  pub app : List ℕ
  pub version : List ℕ
  pub fp : List ℕ
  pub cohort : List ℕ
  pub hint : List ℕ
  pub rollback : Bool
  pub session : List ℕ
  pub prefix : List ℕ
