-- A reply that is begun: whole, unless it is a package with bytes, of which the head alone is written; this project's
-- profile.
use Rattle.std.specs.Prelude.{◌≡◌, ◌<◌, ⊤, ℕ, Bool, List, [], Option, Some, Result, Ok, Err, if◌then◌else◌}
use Rattle.std.specs.Io.KnownBytes.{Appends}
use Rattle.http_desks.specs.Calls.{Call, Leads}
use Rattle.http_desks.specs.Downloads.{Downloads, Reads}
use Rattle.http_desks.specs.Replies.{Answers, Writes, fetch_handled, fetch_reply, reply_to}
use Rattle.http_desks.specs.Uses.{Asked, Barred, Broken, Fetch, Fetched, IsFetch, Mismatched, Misused, Paged, Read, Unknown, Untaken, Use, calls_of}
use Rattle.http_desks.specs.declared.answering.Begun.{Begun}
use Rattle.http_desks.specs.declared.answering.Begun.TheVariants as begun
use Rattle.http_desks.specs.declared.answering.Handled.{Handled}
use Rattle.http_desks.specs.declared.answering.Handled.TheVariants.{Answered, Cut}
use Rattle.values.specs.declared.declared.Declared.{Declared}
use Rattle.values.specs.declared.failed.Failed.{Failed}

-- a reply that is written
abbrev pub done_of : Result Handled Failed → Result Begun Failed
done_of (Ok handled) = Ok (begun.Done handled)
done_of (Err failed) = Err failed

-- a package was sent after its head
abbrev pub Rests : Reads → Declared → Option (List ℕ) → Option (List ℕ) → Result Handled Failed → Type 0
Rests reads declared old new (Ok handled) =
    (whole : Bool) × (handled ≡ (if whole then Answered else Cut))
    × Downloads reads declared.size declared.hash old new (Ok whole)
Rests reads declared old new (Err failed) = Downloads reads declared.size declared.hash old new (Err failed)

-- no block of a package was sent, unless it has no bytes
abbrev pub IsHeadAlone : ℕ → Fetch → Type 0
IsHeadAlone size Mismatched = ⊤
IsHeadAlone size (Read blocks last) = size ≡ 0
IsHeadAlone size (Broken blocks) = blocks ≡ []

-- the message was not used for a package of which a block was sent, unless it has no bytes
abbrev pub IsAtOnce : Use → Type 0
IsAtOnce (Paged path method page) = ⊤
IsAtOnce Misused = ⊤
IsAtOnce Barred = ⊤
IsAtOnce (Asked moment answer) = ⊤
IsAtOnce (Unknown name) = ⊤
IsAtOnce (Untaken name declared) = ⊤
IsAtOnce (Fetched name declared fetch) = IsHeadAlone declared.size fetch

-- the head of a package was written, or a first part of it; or a package without bytes was sent
abbrev pub SendsHead :
    (Option ℕ → Type 0) → Reads → Declared → Bool → Option (List ℕ) → Option (List ℕ) → Result Handled Failed → Type 0
SendsHead sizes reads declared closes old new result =
    (fetch : Fetch) × IsFetch sizes reads declared.size fetch × IsHeadAlone declared.size fetch
    × Writes (fetch_reply declared closes fetch) (fetch_handled declared.hash fetch) old new result

-- the package without bytes was sent, or its file has another size; or its head was, it has bytes, and its file has the
-- declared size
abbrev pub BeginsFetch :
    (Option ℕ → Type 0) → Reads → List ℕ → Declared → Bool → Option (List ℕ) → Option (List ℕ) → Result Begun Failed → Type 0
BeginsFetch sizes reads name declared closes old new (Ok (begun.Done handled)) =
    SendsHead sizes reads declared closes old new (Ok handled)
BeginsFetch sizes reads name declared closes old new (Ok (begun.Sends path told)) =
    (path.now ≡ name) × (told ≡ declared) × (0 < declared.size) × sizes (Some declared.size)
    × Appends old new (fetch_reply declared closes (Broken []))
BeginsFetch sizes reads name declared closes old new (Err failed) = SendsHead sizes reads declared closes old new (Err failed)

-- rule: Reply that is begun
-- the reply was written, or a first part of it, and no block of a package with bytes; or the message is used for a
-- package with bytes, of which the head was written and no block
abbrev pub Begins :
    {D : Type 0} → (Use → Type 0) → (D → Call → D → Type 0) → List ℕ → List ℕ → Bool → D → D
    → Option (List ℕ) → Option (List ℕ) → Result Begun Failed → Type 0
Begins IsFit steps kind body closes before after old new (Ok (begun.Done handled)) =
    Answers (λ used. IsFit used × IsAtOnce used) steps kind body closes before after old new (Ok handled)
Begins IsFit steps kind body closes before after old new (Ok (begun.Sends name declared)) =
    IsFit (Fetched name.now declared (Broken [])) × (0 < declared.size)
    × Leads steps before (calls_of body (Fetched name.now declared (Broken []))) after
    × Appends old new (reply_to kind closes (Fetched name.now declared (Broken [])))
Begins IsFit steps kind body closes before after old new (Err failed) =
    Answers (λ used. IsFit used × IsAtOnce used) steps kind body closes before after old new (Err failed)
