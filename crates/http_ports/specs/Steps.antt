-- What a step of the loop does for one connection; this project's profile.
use Rattle.std.specs.Prelude.{◌≡◌, ⊤, ℕ, Bool, List, ◌++◌, Option, None, Some, Result, Ok, Err}
use Rattle.http_desks.specs.Calls.{Call, Leads}
use Rattle.http_ports.specs.Loops.{IsLeft, IsResting}
use Rattle.http_ports.specs.Speech.{IsEnd, IsWhole, Speech, one_if}
use Rattle.http_ports.specs.Traffic.{HasPassed, Slot, Traffic, with_ended}
use Rattle.http_ports.specs.declared.last.Last.TheVariants.{Passed}
use Rattle.http_ports.specs.declared.serving.Step.{Step}
use Rattle.http_ports.specs.declared.serving.Step.TheVariants as step

-- bytes have just passed
abbrev pub IsPassed : IsLeft
IsPassed phase pending traffic = traffic.last ≡ Passed

-- it ends
abbrev pub IsEnding : IsLeft
IsEnding phase pending traffic = IsEnd phase pending traffic.last traffic.expired

-- how a step leaves the connection
abbrev pub IsStep : Step → IsLeft
IsStep step.Passed = IsPassed
IsStep step.Waits = IsResting
IsStep step.Over = IsEnding

-- bytes passed at a step that says so
abbrev pub IsPassing : Step → Slot → Type 0
IsPassing step.Passed slot = HasPassed slot
IsPassing step.Waits slot = ⊤
IsPassing step.Over slot = ⊤

-- the slot has this connection, for which these calls were made
abbrev pub Has : {C : Type 0} → Speech C → Slot → C → List Call → Type 0
Has speech slot conn calls =
    (traffic : Traffic) × (slot.current ≡ Some traffic) × speech.so_far traffic.timestamps conn traffic.received traffic.sent calls

-- the same, and it was left so
abbrev pub HasLeft : {C : Type 0} → Speech C → Slot → C → List Call → IsLeft → Type 0
HasLeft speech slot conn calls IsSo =
    (traffic : Traffic) × (slot.current ≡ Some traffic) × speech.so_far traffic.timestamps conn traffic.received traffic.sent calls
    × IsSo (speech.phase conn) (speech.pending conn) traffic

-- a part of the loop for one slot: the desk's calls are for what passed there
abbrev pub Serves :
    {C D : Type 0} → Speech C → (D → Call → D → Type 0) → IsLeft → Slot → C → D → Slot → C → D → Type 0
Serves speech steps IsSo slot conn desk after left behind =
    (calls : List Call) × Leads steps desk calls behind
    × ((made : List Call) → Has speech slot conn made
    → (after.ended ≡ slot.ended) × HasLeft speech after left (made ++ calls) IsSo)

-- the connection rests, or it has ended, and whether memory ran out for it
abbrev pub GoesOn : {C : Type 0} → Speech C → Slot → Slot → Result C Bool → List Call → Type 0
GoesOn speech slot after (Ok left) calls = (after.ended ≡ slot.ended) × HasLeft speech after left calls IsResting
GoesOn {C} speech slot after (Err lost) calls =
    (traffic : Traffic) × (conn : C) × (after ≡ with_ended slot traffic) × IsWhole speech traffic conn calls
    × (lost ≡ speech.is_lost conn)

-- so it is served until it rests or ends
abbrev pub ServesOut :
    {C D : Type 0} → Speech C → (D → Call → D → Type 0) → Slot → C → D → Slot → Result C Bool → D → Type 0
ServesOut speech steps slot conn desk after left behind =
    (calls : List Call) × Leads steps desk calls behind
    × ((made : List Call) → Has speech slot conn made → GoesOn speech slot after left (made ++ calls))

-- an event was served, and for so many connections more memory ran out; or there are no more events
abbrev pub GoesRound : Option Bool → (ℕ → Type 0) → Type 0 → Type 0
GoesRound (Some lost) GoesOn IsDone = GoesOn (one_if lost)
GoesRound None GoesOn IsDone = IsDone
