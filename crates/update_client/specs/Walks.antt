-- What a client's walk leaves, and why it ends; this project's profile.
use Rattle.std.specs.Prelude.{◌≡◌, ◌+◌, ◌<◌, ◌≤◌, ◌⊎◌, ℕ, List, [], ◌∷◌, ◌++◌, length, map, Option, Some, None, Result, Ok, Err}
use Rattle.values.specs.declared.read_error.ReadError.{ReadError}
use Rattle.values.specs.declared.read_error.ReadError.TheVariants as errors
use Rattle.omaha_json.specs.RequestReading.{request_of_bytes}
use Rattle.omaha_json.specs.RequestWriting.{request_bytes}
use Rattle.update_client.specs.Installed.{Installed}
use Rattle.update_client.specs.declared.fault.Fault.{Fault}
use Rattle.update_client.specs.declared.fault.Fault.TheVariants as fault
use Rattle.update_client.specs.declared.hearing.Accepted.{Accepted}
use Rattle.update_client.specs.declared.installer.Step.{Step}
use Rattle.update_client.specs.declared.walking.Walk.{Walk}
use Rattle.update_client.specs.Clients.{request_of, heard, part_of, address_of, step_of, client_after}
use Rattle.update_client.specs.Installing.{IsFile, FailsBy, link_count, installer_count}

-- a request and its reply
abbrev pub Post : Type 0
Post = List ℕ × List ℕ

-- a step and the bytes that were committed
abbrev pub Commit : Type 0
Commit = Step × List ℕ

-- a step that was made: the reply, what was accepted of it, and the bytes that were committed
pub record Turn : Type 0 where
  pub reply : List ℕ
  pub accepted : Accepted
  pub bytes : List ℕ

-- the request of a client, with the reply to it
abbrev pub post_of : Installed → List ℕ → Post
post_of client reply = (request_bytes (request_of client), reply)

-- a server reads the request of a client as it is
abbrev pub IsReadBack : Installed → Type 0
IsReadBack client = request_of_bytes (request_bytes (request_of client)) ≡ Ok (request_of client)

-- the reply offers a client something else than it has
abbrev pub IsOffered : Installed → List ℕ → Accepted → Type 0
IsOffered client reply accepted =
    (heard client.app reply ≡ Ok (Some accepted)) × ¬ (accepted.offer.fp ≡ client.fp)

-- a client asked, was offered something, and has committed the bytes that were offered
abbrev pub IsTurn : Installed → Turn → Type 0
IsTurn client turn = IsReadBack client × IsOffered client turn.reply turn.accepted
    × IsFile (part_of turn.accepted.offer).size (part_of turn.accepted.offer).hash turn.bytes

-- rule: Steps of a walk
-- the steps lead a client on, each from where the one before it led
abbrev pub Follows : Installed → List Turn → Installed → Type 0
Follows client [] end = end ≡ client
Follows client (turn ∷ turns) end =
    IsTurn client turn × Follows (client_after client turn.accepted) turns end

-- the posts of those steps
abbrev pub posts_of : Installed → List Turn → List Post
posts_of client [] = []
posts_of client (turn ∷ turns) =
    post_of client turn.reply ∷ posts_of (client_after client turn.accepted) turns

-- the commit of a step
abbrev pub commit_of : Turn → Commit
commit_of turn = (step_of turn.accepted.offer, turn.bytes)

-- the bytes of the downloads
abbrev pub bytes_of : List Turn → ℕ
bytes_of [] = 0
bytes_of (turn ∷ turns) = (part_of turn.accepted.offer).size + bytes_of turns

-- the addresses of the downloads
abbrev pub addresses_of : List Turn → List (List ℕ)
addresses_of turns = map (λ turn. address_of turn.accepted.offer) turns

-- a reply was heard in which nothing is accepted for that reason, and nothing was opened
abbrev pub Hears : Installed → List Post → List Post → List (List ℕ) → List (List ℕ) → Fault → Type 0
Hears client old new asked opened found = (reply : List ℕ)
    × (new ≡ old ++ post_of client reply ∷ []) × (heard client.app reply ≡ Err found)
    × (opened ≡ asked)

-- a client was offered something, and its file was opened and no other
abbrev pub Opens : Installed → List Post → List Post → List (List ℕ) → List (List ℕ) → Accepted → Type 0
Opens client old new asked opened accepted = (reply : List ℕ)
    × (new ≡ old ++ post_of client reply ∷ [])
    × IsOffered client reply accepted
    × (opened ≡ asked ++ address_of accepted.offer ∷ [])

-- the step of what a client was offered last
abbrev pub IsLastOffer : Installed → List Post → Step → Type 0
IsLastOffer client posts step = (earlier : List Post) × (reply : List ℕ) × (accepted : Accepted)
    × (posts ≡ earlier ++ post_of client reply ∷ [])
    × IsOffered client reply accepted × (step ≡ step_of accepted.offer)

-- what is posted, heard and opened before a fault
abbrev pub StopsBy : Installed → ℕ → List Post → List Post → List (List ℕ) → List (List ℕ)
    → List ℕ → Type 0 → Fault → Type 0
StopsBy client steps old new asked opened received ended fault.Link =
    ((new ≡ old) × (opened ≡ asked))
    ⊎ ((accepted : Accepted) × Opens client old new asked opened accepted)
StopsBy client steps old new asked opened received ended fault.Install =
    (accepted : Accepted) × Opens client old new asked opened accepted
StopsBy client steps old new asked opened received ended fault.Reply =
    Hears client old new asked opened fault.Reply
StopsBy client steps old new asked opened received ended fault.Busy =
    Hears client old new asked opened fault.Busy
StopsBy client steps old new asked opened received ended fault.NoProgress =
    (reply : List ℕ) × (accepted : Accepted)
    × (new ≡ old ++ post_of client reply ∷ [])
    × (heard client.app reply ≡ Ok (Some accepted)) × (accepted.offer.fp ≡ client.fp)
    × (opened ≡ asked)
StopsBy client steps old new asked opened received ended fault.TooManySteps =
    (reply : List ℕ) × (accepted : Accepted)
    × (new ≡ old ++ post_of client reply ∷ [])
    × IsOffered client reply accepted × (1024 ≤ steps)
    × (opened ≡ asked)
StopsBy client steps old new asked opened received ended fault.BadLength =
    (accepted : Accepted) × Opens client old new asked opened accepted
    × FailsBy (part_of accepted.offer).size (part_of accepted.offer).hash received ended fault.BadLength
StopsBy client steps old new asked opened received ended fault.BadHash =
    (accepted : Accepted) × Opens client old new asked opened accepted
    × FailsBy (part_of accepted.offer).size (part_of accepted.offer).hash received ended fault.BadHash

-- nothing was posted, or the client's own request was, and got a reply
abbrev pub AsksOnceAtMost : Installed → List Post → List Post → Type 0
AsksOnceAtMost client old new = (new ≡ old) ⊎ ((reply : List ℕ) × (new ≡ old ++ post_of client reply ∷ []))

-- why a client stops: out of memory, after it asked or before, with nothing opened; or that fault
abbrev pub Stops : Installed → ℕ → List Post → List Post → List (List ℕ) → List (List ℕ)
    → List ℕ → Type 0 → ReadError Fault → Type 0
Stops client steps old new asked opened received ended errors.Memory =
    AsksOnceAtMost client old new × (opened ≡ asked)
Stops client steps old new asked opened received ended (errors.Fault found) =
    StopsBy client steps old new asked opened received ended found

-- one ask: a step, no update, or an error that leaves the client and the commits
abbrev pub Turned : Installed → Installed → ℕ → List Post → List Post → List (List ℕ) → List (List ℕ)
    → List Commit → List Commit → List ℕ → Type 0 → Result (Option Step) (ReadError Fault) → Type 0
Turned client after steps old new asked opened before commits received ended (Ok (Some step)) =
    (turn : Turn) × IsTurn client turn × (steps < 1024)
    × (after ≡ client_after client turn.accepted)
    × (new ≡ old ++ post_of client turn.reply ∷ [])
    × (opened ≡ asked ++ address_of turn.accepted.offer ∷ [])
    × (commits ≡ before ++ commit_of turn ∷ [])
    × (step ≡ step_of turn.accepted.offer)
Turned client after steps old new asked opened before commits received ended (Ok None) =
    (reply : List ℕ) × IsReadBack client × (heard client.app reply ≡ Ok None)
    × (after ≡ client) × (new ≡ old ++ post_of client reply ∷ []) × (opened ≡ asked)
    × (commits ≡ before)
Turned client after steps old new asked opened before commits received ended (Err error) =
    (after ≡ client) × (commits ≡ before)
    × Stops client steps old new asked opened received ended error

-- how a walk ends after its steps
abbrev pub Ends : Installed → List Turn → List Post → List Post → List (List ℕ) → List (List ℕ)
    → List ℕ → Type 0 → Result Walk (ReadError Fault) → Type 0
Ends client turns old new asked opened received ended (Ok walk) =
    (reply : List ℕ) × IsReadBack client × (heard client.app reply ≡ Ok None)
    × (new ≡ old ++ post_of client reply ∷ []) × (opened ≡ asked)
    × (walk.steps ≡ length turns) × (walk.bytes ≡ bytes_of turns)
Ends client turns old new asked opened received ended (Err error) =
    Stops client (length turns) old new asked opened received ended error

-- rule: Walk of a client
-- the client made steps, opened and committed the file of each of them and committed nothing else, is
-- where the last one led, and then there was no update or an error; before an error at most one more
-- file was opened
pub record Walks (client after : Installed) (old new : List Post) (asked opened : List (List ℕ))
    (before commits : List Commit) (received : List ℕ) (ended : Type 0)
    (result : Result Walk (ReadError Fault)) : Type 0 where
  pub turns : List Turn
  pub follows : Follows client turns after
  pub committed : commits ≡ before ++ map commit_of turns
  pub ends : Ends after turns (old ++ posts_of client turns) new (asked ++ addresses_of turns) opened
      received ended result

-- how many calls of the link failed
abbrev pub failed_links : {X : Type 0} → Result X (ReadError Fault) → ℕ
failed_links (Ok x) = 0
failed_links (Err errors.Memory) = 0
failed_links (Err (errors.Fault found)) = link_count found

-- how many calls of the installer failed
abbrev pub failed_installers : {X : Type 0} → Result X (ReadError Fault) → ℕ
failed_installers (Ok x) = 0
failed_installers (Err errors.Memory) = 0
failed_installers (Err (errors.Fault found)) = installer_count found

-- the post of a request, which a server reads as it is, if it got a reply
abbrev pub Posts : Installed → List Post → List Post → Result (List ℕ) (ReadError Fault) → Type 0
Posts client old new (Ok reply) = (new ≡ old ++ post_of client reply ∷ []) × IsReadBack client
Posts client old new (Err errors.Memory) = new ≡ old
Posts client old new (Err (errors.Fault found)) = (found ≡ fault.Link) × (new ≡ old)

-- the file of what was accepted was opened, unless there was no memory for that
abbrev pub OpensFile : {X : Type 0}
    → Accepted → List (List ℕ) → List (List ℕ) → Result X (ReadError Fault) → Type 0
OpensFile accepted asked opened (Ok x) = opened ≡ asked ++ address_of accepted.offer ∷ []
OpensFile accepted asked opened (Err errors.Memory) = opened ≡ asked
OpensFile accepted asked opened (Err (errors.Fault found)) =
    opened ≡ asked ++ address_of accepted.offer ∷ []

-- the client has what was accepted, unless there was an error
abbrev pub Moves : {X : Type 0} → Installed → Installed → Accepted → Result X (ReadError Fault) → Type 0
Moves client after accepted (Ok x) = after ≡ client_after client accepted
Moves client after accepted (Err error) = after ≡ client

-- what was accepted was committed and the client has it, or an error left the client and the commits
abbrev pub Takes : Installed → Installed → Accepted → List Commit → List Commit → List ℕ → Type 0
    → Result Step (ReadError Fault) → Type 0
Takes client after accepted before commits received ended (Ok step) =
    (file : List ℕ)
    × IsFile (part_of accepted.offer).size (part_of accepted.offer).hash file
    × (after ≡ client_after client accepted)
    × (commits ≡ before ++ (step_of accepted.offer, file) ∷ [])
    × (step ≡ step_of accepted.offer)
Takes client after accepted before commits received ended (Err errors.Memory) =
    (after ≡ client) × (commits ≡ before)
Takes client after accepted before commits received ended (Err (errors.Fault found)) =
    (after ≡ client) × (commits ≡ before)
    × FailsBy (part_of accepted.offer).size (part_of accepted.offer).hash received ended found
