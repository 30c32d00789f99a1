-- The tables of pinned tracks that a worker keeps between two calls; this project's profile.
use Rattle.std.specs.Prelude.{◌≡◌, length}
use Rattle.catalogue.specs.Histories.{History}
use Rattle.editions.specs.Editions.{content_of}
use Rattle.par_tables.specs.Caches.{AreOwnTables}
use Rattle.publisher.specs.Beginnings.{StartsWith}
use Rattle.publisher.specs.Sights.{Allows, Sight}
use Rattle.service_desks.specs.declared.kept_tables.KeptTables.{KeptTables}

-- the tables are those of tracks of a history, and its number is noted
pub record AreOf (history : History) (kept : KeptTables) : Type 0 where
  pub number : kept.number ≡ length history
  pub own : AreOwnTables (content_of history) kept.tables.tables

-- the same of a history with which another one begins
pub record AreOfBeginning (now : History) (kept : KeptTables) : Type 0 where
  pub history : History
  pub are : AreOf history kept
  pub begins : StartsWith now history

-- rule: Tables that a worker keeps
-- the same of a history with which each one begins that a view may enter
pub record AreKept (sight : Sight) (kept : KeptTables) : Type 0 where
  pub history : History
  pub are : AreOf history kept
  pub begin : (now : History) → Allows sight now → StartsWith now history
