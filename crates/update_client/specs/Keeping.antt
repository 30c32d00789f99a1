-- What an installer that prints lines has printed; this project's profile.
use Rattle.std.specs.Prelude.{◌≡◌, ◌+◌, ℕ, List, [], ◌∷◌, length, map, Option, Some, None}
use Rattle.std.specs.Io.KnownBytes.{Appends}
use Rattle.std.specs.declared.snapshot.Snapshot.{Snapshot}
use Rattle.streams.specs.Streams.{Known}
use Rattle.update_client.specs.Walks.{Commit}
use Rattle.update_client.specs.declared.installer.Step.{Step}
use Rattle.update_client.specs.Lines.{step_line}
use Rattle.update_client.specs.Walking.{AreCut, ArePrinted, IsCut}

-- the commits that were recorded
abbrev pub commits_of : List (Snapshot Step × List ℕ) → List Commit
commits_of recorded = map (λ commit. (commit.0.value, commit.1)) recorded

-- the line of one more step is printed after so many others, and then there are as many as that; or it isn't whole, and
-- then no further line is printed
abbrev pub PrintsNext : Option ℕ → Step → Known → Known → Option ℕ → Type 0
PrintsNext (Some printed) step before out (Some number) =
    (number ≡ printed + 1) × Appends before.bytes out.bytes (step_line number step)
PrintsNext (Some printed) step before out None = IsCut (step_line (printed + 1) step) before out
PrintsNext None step before out (Some number) = ⊥
PrintsNext None step before out None = out ≡ before

-- all commits are printed, which are so many; or the first step whose commit failed isn't printed whole
abbrev pub HasPrinted : Option ℕ → List Commit → List Step → Known → Known → Type 0
HasPrinted (Some printed) commits rejected before out =
    (printed ≡ length commits) × (rejected ≡ []) × ArePrinted commits before out
HasPrinted None commits rejected before out =
    (step : Step) × (later : List Step) × (rejected ≡ step ∷ later) × AreCut commits step before out
