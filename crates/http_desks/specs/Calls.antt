-- The calls of a desk, and what it returns; this project's profile.
use Rattle.std.specs.Prelude.{◌≡◌, ℕ, List, [], ◌∷◌, Option, Result, Ok, Err}
use Rattle.http_desks.specs.declared.desk.DeskStatus.{DeskStatus}
use Rattle.http_desks.specs.declared.desk.Answer.{Answer}
use Rattle.values.specs.declared.declared.Declared.{Declared}
use Rattle.http_desks.specs.declared.desk.Off.{Off}
use Rattle.http_desks.specs.declared.page.PageKind.{PageKind}

-- the status and the body, or why the desk is off
abbrev pub answer_in : Result Answer Off → Result (DeskStatus × List ℕ) Off
answer_in (Ok answer) = Ok (answer.status, answer.body.items)
answer_in (Err off) = Err off

-- a body at a timestamp, and what was returned; a package's name, and what is declared of it; or a path, and its page
pub data Call : Type 0 where
  Asks : List ℕ → ℕ → Result (DeskStatus × List ℕ) Off → Call
  Looks : List ℕ → Option Declared → Call
  Shows : List ℕ → Result (Option (PageKind × List ℕ)) Off → Call

-- rule: Calls of a desk
-- each call leads from the state that the one before left
abbrev pub Leads : {D : Type 0} → (D → Call → D → Type 0) → D → List Call → D → Type 0
Leads steps old [] new = new ≡ old
Leads {D} steps old (call ∷ calls) new = (next : D) × steps old call next × Leads steps next calls new
