-- The lines of a walk; this project's profile.
use Rattle.std.specs.Prelude.{ℕ, ◌+◌, Bool, List, [], ◌∷◌, ◌++◌, codes, decimal, if◌then◌else◌}
use Rattle.streams.specs.Strings.{shown_string}
use Rattle.update_client.specs.Walks.{Commit}
use Rattle.update_client.specs.declared.installer.Step.{Step}
use Rattle.update_client.specs.declared.walking.Walk.{Walk}

-- the kind of a file
abbrev pub kind_of : Bool → List ℕ
kind_of diff = if diff then codes "diff" else codes "full"

-- the line of a step: its number, the kind of its file, the version as it is shown, and how many bytes
abbrev pub step_line : ℕ → Step → List ℕ
step_line number step = codes "step " ++ decimal number ++ codes " " ++ kind_of step.diff ++ codes " "
    ++ shown_string step.version ++ codes " " ++ decimal step.bytes ++ codes "\n"

-- the last line: how many steps there were, and how many bytes they had
abbrev pub done_line : Walk → List ℕ
done_line walk = codes "done " ++ decimal walk.steps ++ codes " steps " ++ decimal walk.bytes ++ codes " bytes\n"

-- the lines of commits, the first of which has that number
abbrev pub lines_from : ℕ → List Commit → List ℕ
lines_from number [] = []
lines_from number (commit ∷ commits) = step_line number commit.0 ++ lines_from (number + 1) commits

-- rule: Lines of a walk
-- a line for each step that was committed, numbered from 1
abbrev pub lines_of : List Commit → List ℕ
lines_of commits = lines_from 1 commits
