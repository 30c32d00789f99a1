-- What reading one message finds at the front of a connection's bytes; this project's profile.
use Rattle.std.specs.Prelude.{◌≡◌, ◌⊎◌, ◌≤◌, ◌<◌, ℕ, List, ◌++◌, length, take, Option, Result, Ok, Err}
use Rattle.std.specs.Io.KnownBytes.{Consumes, IsAtEnd}
use Rattle.httparse.specs.Grammar.{IsRequestHead, NeverHasRequest, RequestHead, print_request}
use Rattle.http_wire.specs.declared.heads.status.Status.{Status}
use Rattle.http_wire.specs.declared.heads.status.Status.TheVariants as status
use Rattle.http_wire.specs.Heads.{IsLongHead, IsPartOfHead}
use Rattle.values.specs.declared.failed.Failed.{Failed}
use Rattle.http_sessions.specs.declared.foreseeing.Foreseen.{Foreseen}
use Rattle.http_sessions.specs.declared.foreseeing.Found.{Found}
use Rattle.http_sessions.specs.declared.foreseeing.Foreseen.TheVariants as foreseen
use Rattle.http_sessions.specs.declared.message.Message.{Message}
use Rattle.http_sessions.specs.declared.message.Message.TheVariants.{Whole, Rejected, Ended}
use Rattle.http_sessions.specs.declared.message.Plan.{Plan}
use Rattle.http_sessions.specs.Messages.{BeginsWith, asks_close, message_length, method_in}
use Rattle.http_sessions.specs.Stops.{IsPartOfBody, end_with}

-- what the head says of its message
abbrev pub IsPlanOf : RequestHead → Result Plan Status → Type 0
IsPlanOf head (Ok plan) =
    (message_length head ≡ Ok plan.size) × (plan.method ≡ method_in head) × (plan.closes ≡ asks_close head)
IsPlanOf head (Err why) = message_length head ≡ Err why

-- the bytes are a message of this plan, and others, which wait
pub record IsMessage (bytes waiting target body : List ℕ) (plan : Plan) : Type 0 where
  pub head : RequestHead
  pub valid : IsRequestHead head
  pub short : length (print_request head) ≤ 16384
  pub planned : IsPlanOf head (Ok plan)
  pub names : take plan.target target ≡ head.target
  pub kept : plan.target ≤ 16384
  pub whole : bytes ≡ (print_request head ++ take plan.size body) ++ waiting
  pub fits : plan.size ≤ 262144

-- the bytes can't begin a message
abbrev pub IsRejected : Status → List ℕ → Type 0
IsRejected why bytes =
    ((why ≡ status.BadRequest) × NeverHasRequest (take 16384 bytes))
    ⊎ ((why ≡ status.FieldsTooLarge) × IsLongHead (take 16384 bytes))
    ⊎ ((head : RequestHead) × (after : List ℕ) × BeginsWith bytes head after × (message_length head ≡ Err why))

-- less than a message
abbrev pub IsPart : List ℕ → Type 0
IsPart bytes = IsPartOfHead bytes ⊎ IsPartOfBody bytes

-- the bytes are this message, and others after it
pub record IsFound (bytes : List ℕ) (found : Found) : Type 0 where
  pub head : RequestHead
  pub after : List ℕ
  pub valid : IsRequestHead head
  pub short : length (print_request head) ≤ 16384
  pub framed : message_length head ≡ Ok (length found.request.body.now)
  pub method : found.request.method ≡ method_in head
  pub target : found.request.target.now ≡ head.target
  pub closes : found.request.closes ≡ asks_close head
  pub whole : bytes ≡ (print_request head ++ found.request.body.now) ++ after
  pub long : found.length ≡ length (print_request head ++ found.request.body.now)

-- rule: Part of a message
-- what the bytes are before a message is read: less than a message, and still less with more bytes up to a length; or
-- a whole message and others; or they can't begin a message, and get a reply of this status
abbrev pub IsForeseen : List ℕ → Foreseen → Type 0
IsForeseen bytes (foreseen.Part need) =
    IsPart bytes × ((more : List ℕ) → length (bytes ++ more) < need → IsPart (bytes ++ more))
IsForeseen bytes (foreseen.Whole found) = IsFound bytes found
IsForeseen bytes (foreseen.Rejected why) = IsRejected why bytes

-- what the bytes are, of which some wait; the target and the body are at the front of these cells
abbrev pub Finds : Option (List ℕ) → List ℕ → List ℕ → List ℕ → List ℕ → Result Message Failed → Type 0
Finds left bytes waiting target body (Ok (Whole plan)) = IsMessage bytes waiting target body plan
Finds left bytes waiting target body (Ok (Rejected why)) = IsRejected why bytes
Finds left bytes waiting target body (Ok (Ended how)) = IsPart bytes × IsAtEnd left × (how ≡ end_with bytes)
Finds left bytes waiting target body (Err failed) = IsPart bytes

-- what was read after the bytes that waited
pub record Reads
    (old new : Option (List ℕ)) (before waiting target body : List ℕ) (result : Result Message Failed)
    : Type 0 where
  pub given : List ℕ
  pub consumed : Consumes old new given
  pub finds : Finds new (before ++ given) waiting target body result
