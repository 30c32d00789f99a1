-- What a walk does and prints; this project's profile.
use Rattle.std.specs.Prelude.{◌≡◌, ◌⊎◌, ◌+◌, ℕ, List, [], length, Result, Err}
use Rattle.std.specs.Io.KnownBytes.{Appends}
use Rattle.streams.specs.Streams.{Known}
use Rattle.streams.specs.Writing.{Breaks}
use Rattle.values.specs.declared.read_error.ReadError.{ReadError}
use Rattle.values.specs.declared.read_error.ReadError.TheVariants as errors
use Rattle.update_client.specs.Installed.{Installed}
use Rattle.update_client.specs.Walks.{Post, Commit, IsLastOffer, Walks}
use Rattle.update_client.specs.declared.fault.Fault.{Fault}
use Rattle.update_client.specs.declared.fault.Fault.TheVariants as fault
use Rattle.update_client.specs.declared.installer.Step.{Step}
use Rattle.update_client.specs.declared.walking.Walk.{Walk}
use Rattle.update_client.specs.Lines.{lines_of, step_line}

-- the lines of these commits are printed, and nothing else
abbrev pub ArePrinted : List Commit → Known → Known → Type 0
ArePrinted commits before out = Appends before.bytes out.bytes (lines_of commits)

-- less than a line is printed: nothing, as memory ran out, or a first part, as the writer failed
abbrev pub IsCut : List ℕ → Known → Known → Type 0
IsCut line before out = (out ≡ before) ⊎ Breaks before out line

-- the lines of these commits are printed, and then less than that of one more step
abbrev pub AreCut : List Commit → Step → Known → Known → Type 0
AreCut commits step before out =
    (between : Known) × ArePrinted commits before between
    × IsCut (step_line (length commits + 1) step) between out

-- what is printed on a walk: the lines of its commits; and if the installer failed, less than the line of the step that
-- was offered last
abbrev pub Prints : Installed → List Post → List Commit → Known → Known → Result Walk (ReadError Fault) → Type 0
Prints client posts commits before out (Err (errors.Fault fault.Install)) =
    (step : Step) × IsLastOffer client posts step × AreCut commits step before out
Prints client posts commits before out other = ArePrinted commits before out

-- rule: Printed walk
-- a walk of a client, by an installer that had no commits; each commit is printed
pub record IsWalk (client after : Installed) (old new : List Post) (asked opened : List (List ℕ))
    (received : List ℕ) (ended : Type 0) (before out : Known) (result : Result Walk (ReadError Fault)) : Type 0 where
  pub commits : List Commit
  pub walks : Walks client after old new asked opened [] commits received ended result
  pub printed : Prints after new commits before out result

-- rule: Walk over connections
-- such a walk, over a link whose posts are those of some server; it has some bytes left of the download that was opened last
pub record IsWalkOver (replies : List Post → Type 0) (client after : Installed) (before out : Known) (result : Result Walk (ReadError Fault)) : Type 0 where
  pub old : List Post
  pub new : List Post
  pub replied : replies new
  pub asked : List (List ℕ)
  pub opened : List (List ℕ)
  pub received : List ℕ
  pub left : ℕ
  pub walk : IsWalk client after old new asked opened received (left ≡ 0) before out result
