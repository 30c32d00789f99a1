-- What is known of what a run reads, serves and reaches; this project's profile.
use Rattle.std.specs.Prelude.{ℕ, Bool, List}
use Rattle.advice.specs.Looks.{Sights}
use Rattle.systems.specs.Edges.{Edges}
use Rattle.package_files.specs.Storages.{Storage}
use Rattle.update_client.specs.Endings.{Endings}
use Rattle.update_client.specs.Walks.{Post}
use Rattle.profiles.specs.Profiles.{Files}
use Rattle.omaha_commands.specs.Operating.{Listeners}
use Rattle.omaha_histories.specs.Histories.{Stored}

-- rule: Edges of the program
-- of each file, by its path; of the files in folders; of the histories at paths; of addresses, connections and logs;
-- which posts were made to the server at an address, each with the reply that came back; which replies operators' listeners
-- gave, and what may be seen of their ends; what a second look at an address or a file may see; and whether the standard
-- output and the standard error may be said to be terminals
pub record World : Type 1 where
  pub files : Files
  pub storage : Storage
  pub stored : Stored
  pub edges : Edges
  pub replies : List ℕ → List Post → Type 0
  pub operated : Listeners
  pub endings : Endings
  pub sights : Sights
  pub output_seen : Bool → Type 0
  pub errors_seen : Bool → Type 0
