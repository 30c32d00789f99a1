-- The body of a reply: what came with its head, and what was read after.
use Rattle.std.proofs.Common.{◌≡◌, ℕ, ◌-◌, ◌≤◌, List, [], ◌∷◌, ◌++◌, length, take, drop, min, inl, inr, Option, Some, Result, Ok, Err, Vec, refl, sym, ap, ◌∙◌, arith, append_assoc, append-nil, length-append}
use Rattle.std.specs.Io.KnownBytes.{Consumes}
use Rattle.std.proofs.lemmas.List.{take-append-drop, take_all, drop_all, length-take-le}
use Rattle.httparse.specs.Grammar.{print_response}
use Rattle.http_wire.specs.Devices.{Came}
use Rattle.update_client.specs.Starts.{StartFound}
use Rattle.update_client.specs.declared.heads.length.BodyLength.{BodyLength}
use Rattle.update_client.specs.declared.heads.length.BodyLength.TheVariants as lengths
use Rattle.update_client.specs.declared.heads.start.Start.{Start}
use Rattle.update_client.specs.declared.heads.fault.LinkFault.{LinkFault}
use Rattle.update_client.specs.declared.heads.fault.LinkFault.TheVariants as fault
use Rattle.update_client.specs.Failures.{ChunkedRead}
use Rattle.update_client.specs.Reads.{Sees}
use Rattle.update_client.proofs.ReadsLemmas.{Sees-after}
use Rattle.update_client.specs.Posts.{ReplyAwaited}
use Rattle.update_client.specs.Replies.{Announces, BodyFails, BodyRead, HasBody, HeadFails, IsPostFault, PostedWithin, ReplyFails}
use Rattle.update_client.specs.declared.posting.Reply.{Reply}
use Rattle.update_client.proofs.KnownLemmas.{Consumes-then}

pub announced :
    (bytes : List ℕ) (start : Start) →
    StartFound bytes (Ok (Some start)) →
    Announces bytes start.status start.body (drop start.head bytes)
announced bytes start (head, reads, long, said, framed) = (head, reads, said, framed)

-- bytes are read only if what waits is less than the body
whole_body :
    (waiting more : List ℕ) (size count : ℕ) →
    count ≡ min (length waiting) size →
    length (take count waiting ++ more) ≡ size →
    waiting ++ more ≡ (take count waiting ++ more) ++ drop count waiting
whole_body waiting [] size count least long =
    append-nil waiting
    ∙ sym (ap (λ (text : List ℕ). text ++ drop count waiting) (append-nil (take count waiting)) ∙ take-append-drop count waiting)
whole_body waiting (byte ∷ more) size count least long =
    let taken = length-take-le count waiting (omega (arith, least)) in
    let parts = length-append (take count waiting) (byte ∷ more) in
    let all : length waiting ≤ count = omega (arith, least, long, taken, parts) in
    let front : take count waiting ≡ waiting = take_all count waiting all in
    let none : drop count waiting ≡ [] = drop_all count waiting all in
    sym (ap (λ (text : List ℕ). (text ++ (byte ∷ more)) ++ drop count waiting) front
    ∙ ap (λ (text : List ℕ). (waiting ++ (byte ∷ more)) ++ text) none
    ∙ append-nil (waiting ++ (byte ∷ more)))

-- a body of that size: what waited, and what was read after it
pub known_whole :
    {Z : Type 0} (limit : ℕ) (old new : Option (List ℕ)) (waiting first : List ℕ) (body : Vec ℕ Z) (size count : ℕ) →
    size ≤ limit →
    count ≡ min (length waiting) size →
    first ≡ take count waiting →
    Came old new first body.items →
    length body.items ≡ size →
    BodyRead limit (lengths.Known size) old new waiting (Ok body)
known_whole limit old new waiting first body size count fits least is_first came long =
    let whole : body.items ≡ take count waiting ++ came.bytes =
    came.behind ∙ ap (λ (text : List ℕ). text ++ came.bytes) is_first in
    let cut = whole_body waiting came.bytes size count least (ap length (sym whole) ∙ long) in (
      came.bytes,
      drop count waiting,
      came.consumed,
      (cut ∙ ap (λ (text : List ℕ). text ++ drop count waiting) (sym whole), long),
      omega (arith, long, fits),
    )

-- a chunked body is a body
pub chunked_body :
    {Z : Type 0} (limit : ℕ) (old new : Option (List ℕ)) (waiting : List ℕ) (result : Result (Vec ℕ Z) LinkFault) →
    ChunkedRead limit old new waiting result →
    BodyRead limit lengths.Chunked old new waiting result
chunked_body limit old new waiting (Ok body) read = read
chunked_body limit old new waiting (Err why) read = read

-- there is no head
pub start_fails :
    (limit : ℕ) (old new : Option (List ℕ)) (held : List ℕ) (why : LinkFault) →
    HeadFails old new held why →
    Sees old new [] (ReplyFails limit) why
start_fails limit old new held fault.Ended (consumed, part, end) = (held, consumed, inl part, end)
start_fails limit old new held fault.Memory fails = tt
start_fails limit old new held fault.Read fails = tt
start_fails limit old new held why fails = (held, fails.1, inl (fails.0, fails.2))

-- a head, and the body after it
pub reply_whole :
    {Z : Type 0} (limit : ℕ) (old between new : Option (List ℕ)) (held : List ℕ) (start : Start) (body : Vec ℕ Z) →
    Consumes old between held →
    StartFound held (Ok (Some start)) →
    BodyRead limit start.body between new (drop start.head held) (Ok body) →
    (bytes : List ℕ) × (size : BodyLength) × (after : List ℕ) × (rest : List ℕ)
    × Consumes old new bytes × Announces bytes start.status size after × HasBody size after body.items rest
    × (length body.items ≤ limit)
reply_whole limit old between new held start body consumed (head, (valid, cut), long, said, framed) (bytes, rest, came, has, fits) = (
  held ++ bytes,
  start.body,
  drop start.head held ++ bytes,
  rest,
  Consumes-then old between new held bytes consumed came,
  (
    head,
    (
      valid,
      ap (λ (text : List ℕ). text ++ bytes) cut ∙ append_assoc (print_response head) (drop start.head held) bytes,
    ),
    said,
    framed,
  ),
  has,
  fits,
)

-- a head, and no body after it
pub body_fails :
    (limit : ℕ) (old between new : Option (List ℕ)) (held : List ℕ) (start : Start) (why : LinkFault) →
    Consumes old between held →
    StartFound held (Ok (Some start)) →
    Sees between new (drop start.head held) (BodyFails limit start.body) why →
    Sees old new [] (ReplyFails limit) why
body_fails limit old between new held start why consumed (head, (valid, cut), long, said, framed) sees =
    Sees-after old between new [] (drop start.head held) (print_response head) (BodyFails limit start.body) (ReplyFails limit) why
    (record { bytes = held; consumed = consumed; cut = cut })
    (λ bytes fails. inr (start.status, start.body, bytes, (head, (valid, refl), said, framed), fails))
    sees

-- a body fails neither by the address nor by the status
body_fault :
    (limit : ℕ) (size : BodyLength) (bytes : List ℕ) (why : LinkFault) → BodyFails limit size bytes why → IsPostFault why
body_fault limit size bytes fault.Address fails = body_address size fails
  where
    body_address : (size : BodyLength) → BodyFails limit size bytes fault.Address → ⊥
    body_address (lengths.Known n) fails = fails
    body_address lengths.Chunked (inl (chunks, rest, reads, fits, inl line)) = line
    body_address lengths.Chunked (inl (chunks, rest, reads, fits, inr (line, after, is, some, content))) = content
    body_address lengths.Chunked (inr (content, rest, reads, fits, trailer)) = trailer
body_fault limit size bytes fault.Status fails = body_status size fails
  where
    body_status : (size : BodyLength) → BodyFails limit size bytes fault.Status → ⊥
    body_status (lengths.Known n) fails = fails
    body_status lengths.Chunked (inl (chunks, rest, reads, fits, inl line)) = line
    body_status lengths.Chunked (inl (chunks, rest, reads, fits, inr (line, after, is, some, content))) = content
    body_status lengths.Chunked (inr (content, rest, reads, fits, trailer)) = trailer
body_fault limit size bytes why fails = tt

-- a reply fails by neither
reply_fault : (limit : ℕ) (bytes : List ℕ) (why : LinkFault) → ReplyFails limit bytes why → IsPostFault why
reply_fault limit bytes fault.Address (inl fails) = absurd fails.0
reply_fault limit bytes fault.Address (inr (code, size, rest, announced, fails)) = body_fault limit size rest fault.Address fails
reply_fault limit bytes fault.Status (inl fails) = absurd fails.0
reply_fault limit bytes fault.Status (inr (code, size, rest, announced, fails)) = body_fault limit size rest fault.Status fails
reply_fault limit bytes why fails = tt

-- what was awaited is within the limit, or a fault of a post
pub posted_within :
    (limit : ℕ) (old new : Option (List ℕ)) (before after : ℕ) (result : Result Reply LinkFault) →
    ReplyAwaited limit old new before after result →
    PostedWithin limit result
posted_within limit old new before after (Ok reply) ((bytes, size, behind, rest, consumed, announced, has, fits), failed) = fits
posted_within limit old new before after (Err fault.Address) ((bytes, consumed, fails), failed) =
    reply_fault limit bytes fault.Address fails
posted_within limit old new before after (Err fault.Status) ((bytes, consumed, fails), failed) =
    reply_fault limit bytes fault.Status fails
posted_within limit old new before after (Err why) awaited = tt
