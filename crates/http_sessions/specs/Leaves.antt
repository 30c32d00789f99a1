-- What a reply leaves of a connection; this project's profile.
use Rattle.std.specs.Prelude.{◌≡◌, ⊤, ◌+◌, ◌==◌, ℕ, Bool, true, false, List, [], ◌++◌, None, Some}
use Rattle.http_wire.specs.declared.heads.status.Status.{Status}
use Rattle.http_desks.specs.declared.method.Method.{Method}
use Rattle.http_desks.specs.Begins.{IsAtOnce}
use Rattle.http_desks.specs.Calls.{Call, Leads}
use Rattle.http_desks.specs.Replies.{empty_reply}
use Rattle.http_desks.specs.Transfers.{IsAt as HasMade, package_size}
use Rattle.http_desks.specs.Uses.{Use}
use Rattle.http_desks.specs.declared.answering.Handled.{Handled}
use Rattle.http_desks.specs.declared.answering.Handled.TheVariants.{Answered}
use Rattle.values.specs.declared.declared.Declared.{Declared}
use Rattle.http_sessions.specs.declared.ends.End.{End}
use Rattle.http_sessions.specs.Stops.{Ends, More, Stop, begun, end_after}
use Rattle.http_sessions.specs.Sessions.{Serves}
use Rattle.http_ports.specs.Speech.{Busy}
use Rattle.http_ports.specs.Traffic.{later}
use Rattle.http_ports.specs.declared.timestamp.Timestamp.{Timestamp}
use Rattle.http_sessions.specs.Talks.{Said, SendsFor, failure_reply, is_lost, pending, phase_of, waiting_of}
use Rattle.http_sessions.specs.declared.talks.outcome.After.{After}
use Rattle.http_sessions.specs.declared.talks.outcome.After.TheVariants as after
use Rattle.http_sessions.specs.declared.talks.outcome.Opened.{Opened}
use Rattle.http_sessions.specs.declared.talks.outcome.Started.{Started}
use Rattle.http_sessions.specs.declared.talks.talk.Sending.{Sending}
use Rattle.http_sessions.specs.declared.talks.talk.Stage.TheVariants as stage
use Rattle.http_sessions.specs.declared.talks.talk.Talk.{Talk}

-- a package of this name, of which no block was made
pub record IsNew (name : List ℕ) (declared : Declared) (closes : Bool) (sending : Sending) : Type 0 where
  pub path : sending.name.items ≡ name
  pub known : sending.declared ≡ declared
  pub ends : sending.closes ≡ closes
  pub size : package_size sending.transfer ≡ declared.size
  pub none_made : HasMade [] sending.transfer

-- what a reply leaves that was written, after so many others
abbrev pub IsDone : ℕ → Handled → Bool → List ℕ → List ℕ → After → Type 0
IsDone start handled closes left made (after.Open opened) =
    (handled ≡ Answered) × (closes ≡ false) × (opened.begun ≡ start + 1) × (opened.kept.items ≡ left)
    × (opened.made.items ≡ made)
IsDone start handled closes left made (after.Sends started) = ⊥
IsDone start handled closes left made (after.Over bytes) =
    ((how : End) × (end_after closes (Some handled) ≡ Some how)) × (bytes.items ≡ made)
IsDone start handled closes left made (after.Failed bytes) = ⊥
IsDone start handled closes left made after.Lost = ⊥

-- what the head of a package leaves, after so many other replies
abbrev pub IsStarted : ℕ → Sending → List ℕ → List ℕ → After → Type 0
IsStarted start sending left made (after.Open opened) = ⊥
IsStarted start sending left made (after.Sends started) =
    (started.sending ≡ sending) × (sending.closes ≡ false → started.begun ≡ start + 1) × (started.kept.items ≡ left)
    × (started.made.items ≡ made)
IsStarted start sending left made (after.Over bytes) = ⊥
IsStarted start sending left made (after.Failed bytes) = ⊥
IsStarted start sending left made after.Lost = ⊥

-- a part of a session over the bytes that are kept, after so many messages: what it leaves, what it made, and how it ends
abbrev pub Makes :
    {D : Type 0} → (Method → List ℕ → Use → Type 0) → (D → Call → D → Type 0) → List ℕ → ℕ → (ℕ → Stop → List ℕ → Type 0)
    → Bool → List ℕ → List ℕ → List ℕ → D → D → Type 0
Makes IsFit steps kind start IsEnd whole kept left made before behind =
    Serves IsFit steps kind start IsEnd whole [] (Some kept) (Some left) (Some []) (Some made) before behind

-- how it ends: with a message after which the session goes on
abbrev pub EndsOpen : ℕ → List ℕ → Opened → ℕ → Stop → List ℕ → Type 0
EndsOpen start left opened count stop rest =
    (count ≡ 1) × (stop ≡ More) × (opened.kept.items ≡ rest ++ left) × (opened.begun ≡ start + 1)

-- with a message that is used for a package, of which the head was made
abbrev pub EndsSending : ℕ → Started → ℕ → Stop → List ℕ → Type 0
EndsSending start started count stop rest =
    (count ≡ 0) × (started.sending.closes ≡ false → started.begun ≡ start + 1)
    × SendsFor (start == 999) started.sending stop rest

-- with the last reply
abbrev pub EndsOver : ℕ → List ℕ → ℕ → Stop → List ℕ → Type 0
EndsOver start left count stop rest =
    (count ≡ 0) × ((how : End) × Ends (start == 999) (Some left) stop rest how) × (begun stop ≡ 1)

-- with a message whose reply was not made, or not sent
abbrev pub EndsFailed : ℕ → Stop → List ℕ → Type 0
EndsFailed count stop rest = (count ≡ 0) × (begun stop ≡ 1)

-- anyhow
abbrev pub EndsAnyhow : ℕ → Stop → List ℕ → Type 0
EndsAnyhow count stop rest = ⊤

-- what the reply leaves that rejects a message, unless memory ran out
abbrev pub IsRejection : Status → After → Type 0
IsRejection why (after.Open opened) = ⊥
IsRejection why (after.Sends started) = ⊥
IsRejection why (after.Over made) = made.items ≡ empty_reply why None true
IsRejection why (after.Failed made) = ⊥
IsRejection why after.Lost = ⊤

-- a part of a session whose last reply was not made, or is not sent
abbrev pub Fails :
    {D : Type 0} → (Method → List ℕ → Use → Type 0) → (D → Call → D → Type 0) → List ℕ → ℕ → List ℕ → D → D → Type 0
Fails IsFit steps kind start kept before behind =
    (left : List ℕ) × (made : List ℕ) × (whole : Bool) × Makes IsFit steps kind start EndsFailed whole kept left made before behind

-- what a part of a session leaves; if memory ran out before the desk was called, no part
abbrev pub Leaves :
    {D : Type 0} → (Method → List ℕ → Use → Type 0) → (D → Call → D → Type 0) → List ℕ → ℕ → List ℕ → D → D → After → Type 0
Leaves IsFit steps kind start kept before behind (after.Open opened) =
    (left : List ℕ) × Makes IsFit steps kind start (EndsOpen start left opened) true kept left opened.made.items before behind
Leaves IsFit steps kind start kept before behind (after.Sends started) =
    Makes IsFit steps kind start (EndsSending start started) true kept started.kept.items started.made.items before behind
Leaves IsFit steps kind start kept before behind (after.Over made) =
    (left : List ℕ) × Makes IsFit steps kind start (EndsOver start left) true kept left made.items before behind
Leaves IsFit steps kind start kept before behind (after.Failed bytes) =
    (bytes.items ≡ failure_reply) × Fails IsFit steps kind start kept before behind
Leaves IsFit steps kind start kept before behind after.Lost = Leads steps before [] behind

-- the use fits, and no block is sent of a package with bytes
abbrev pub AtOnce : (Method → List ℕ → Use → Type 0) → Method → List ℕ → Use → Type 0
AtOnce IsFit method target used = IsFit method target used × IsAtOnce used

-- the connection then
abbrev pub IsApplied : Talk → After → Talk → Type 0
IsApplied old (after.Open opened) new =
    (new.stage ≡ stage.Busy) × (new.begun ≡ opened.begun) × (new.kept.items ≡ opened.kept.items)
    × (pending new ≡ opened.made.items)
IsApplied old (after.Sends started) new =
    (new.stage ≡ stage.Sends started.sending) × (new.begun ≡ started.begun) × (new.kept.items ≡ started.kept.items)
    × (pending new ≡ started.made.items)
IsApplied old (after.Over made) new = (new.stage ≡ stage.Over) × (pending new ≡ made.items)
IsApplied old (after.Failed made) new = (new.stage ≡ stage.Failed) × (pending new ≡ made.items)
IsApplied old after.Lost new = (new.stage ≡ stage.Lost) × (pending new ≡ pending old)

-- a busy connection of which nothing is pending is given up
pub record GivesUp (old new : Talk) : Type 0 where
  pub busy : phase_of old.stage ≡ Busy
  pub none : pending old ≡ []
  pub lost : new.stage ≡ stage.Lost
  pub silent : pending new ≡ []

-- the desk was called at this timestamp, and what is said then is what was said before, and for these calls
abbrev pub GoesOn :
    {D : Type 0} → (Method → List ℕ → Use → Type 0) → (D → Call → D → Type 0) → List ℕ → ℕ → Talk → D → Talk → D → Type 0
GoesOn IsFit steps kind seconds old before new behind =
    (calls : List Call) × Leads steps before calls behind
    × ((received sent : List ℕ) (timestamps : List Timestamp) (made : List Call) →
    Said IsFit kind timestamps old received sent made →
    Said IsFit kind (later timestamps seconds (waiting_of old) received sent) new received sent (made ++ calls))

-- what a step of a busy connection made, unless memory ran out: a part of the session, without a block of a package
abbrev pub MakesAtOnce :
    {D : Type 0} → (Method → List ℕ → Use → Type 0) → (D → Call → D → Type 0) → List ℕ → Talk → D → Talk → D → Type 0
MakesAtOnce IsFit steps kind old before new behind =
    old.stage ≡ stage.Busy → is_lost new.stage ≡ false → (left : List ℕ)
    × Makes (AtOnce IsFit) steps kind old.begun EndsAnyhow true old.kept.items left (pending new) before behind
