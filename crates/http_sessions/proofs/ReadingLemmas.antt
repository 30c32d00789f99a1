-- One message, by the places of its head and the bytes that were read.
use Rattle.std.proofs.Common.{◌≡◌, ℕ, ◌-◌, ◌<◌, ◌≤◌, true, false, List, [], ◌∷◌, ◌++◌, append_assoc, length, length-append, length-drop, length-take, take, drop, Option, None, Some, Result, Ok, Err, inr, refl, sym, subst, ap, ◌∙◌, arith}
use Rattle.std.proofs.lemmas.List.{append-nil, take-append-le, take_all}
use Rattle.std.specs.Io.KnownBytes.{Consumes}
use Rattle.httparse.specs.Grammar.{IsRequestHead, NeverHasRequest, RequestHead, print_request}
use Rattle.httparse.specs.Spans.{IsRequestAt, span_bytes}
use Rattle.httparse.specs.declared.spans.HeaderSpan.{HeaderSpan}
use Rattle.httparse.specs.declared.spans.Span.{Span}
use Rattle.httparse.specs.declared.spans.RequestSpans.{RequestSpans}
use Rattle.http_wire.specs.declared.heads.status.Status.{Status}
use Rattle.http_wire.specs.Bodies.{BodyFound}
use Rattle.http_wire.specs.Devices.{Came}
use Rattle.http_wire.specs.Heads.{IsLongHead}
use Rattle.values.specs.declared.failed.Failed.{Failed}
use Rattle.http_wire.specs.declared.head.Head.{Head}
use Rattle.http_wire.proofs.KnownLemmas.{Consumes-then}
use Rattle.http_sessions.specs.declared.ends.End.TheVariants.{Unfinished}
use Rattle.http_sessions.specs.declared.message.Message.{Message}
use Rattle.http_sessions.specs.declared.message.Message.TheVariants.{Whole, Ended}
use Rattle.http_sessions.specs.declared.message.Plan.{Plan}
use Rattle.http_sessions.specs.Messages.{message_length}
use Rattle.http_sessions.specs.Stops.{end_with}
use Rattle.http_sessions.specs.Readings.{Finds, IsMessage, IsPart, IsPlanOf, IsRejected, Reads}

pub Consumes-nothing : (left : Option (List ℕ)) → Consumes left left []
Consumes-nothing None = tt
Consumes-nothing (Some bytes) = refl

-- a head in a window has at most as many bytes
pub head_short :
    (window : List ℕ) (places : List HeaderSpan) (spans : RequestSpans) (head : RequestHead) →
    IsRequestAt window places spans head →
    spans.len ≤ length window →
    length window ≤ 16384 →
    length (print_request head) ≤ 16384
head_short window places spans head at within bound = omega (arith, at.len)

-- a head that rejects its message
pub rejected_head :
    (window : List ℕ) (places : List HeaderSpan) (spans : RequestSpans) (head : RequestHead) (why : Status) →
    IsRequestAt window places spans head →
    length (print_request head) ≤ 16384 →
    message_length head ≡ Err why →
    IsRejected why (window ++ [])
rejected_head window places spans head why at short rejects =
    subst (IsRejected why) (sym (append-nil window)) (inr (inr (head, drop spans.len window, (at.reads, short), rejects)))

-- bytes that were read after the window follow the head in it
after_head :
    (window given : List ℕ) (places : List HeaderSpan) (spans : RequestSpans) (head : RequestHead) →
    IsRequestAt window places spans head →
    window ++ given ≡ print_request head ++ (drop spans.len window ++ given)
after_head window given places spans head at =
    ap (λ (front : List ℕ). front ++ given) at.reads.1 ∙ append_assoc (print_request head) (drop spans.len window) given

-- the head and its whole body
pub whole_message :
    (window given waiting slice target body : List ℕ) (places : List HeaderSpan) (spans : RequestSpans) (head : RequestHead)
    (plan : Plan) →
    IsRequestAt window places spans head →
    length (print_request head) ≤ 16384 →
    IsPlanOf head (Ok plan) →
    drop spans.len window ++ given ≡ slice ++ waiting →
    take plan.target target ≡ span_bytes window spans.path →
    plan.target ≤ 16384 →
    plan.size ≤ 262144 →
    take plan.size body ≡ slice →
    IsMessage (window ++ given) waiting target body plan
whole_message window given waiting slice target body places spans head plan at short planned cut named kept fits taken = record {
  head = head;
  valid = at.reads.0;
  short = short;
  planned = planned;
  names = named ∙ at.path;
  kept = kept;
  whole = after_head window given places spans head at
      ∙ ap (λ (rest : List ℕ). print_request head ++ rest) (cut ∙ ap (λ (s : List ℕ). s ++ waiting) (sym taken))
      ∙ sym (append_assoc (print_request head) (take plan.size body) waiting);
  fits = fits;
}

-- the head and a part of its body
pub part_of_body :
    (window given : List ℕ) (places : List HeaderSpan) (spans : RequestSpans) (head : RequestHead) (plan : Plan) →
    IsRequestAt window places spans head →
    length (print_request head) ≤ 16384 →
    IsPlanOf head (Ok plan) →
    length (drop spans.len window ++ given) < plan.size →
    IsPart (window ++ given)
part_of_body window given places spans head plan at short planned less = inr (record {
  head = head;
  after = drop spans.len window ++ given;
  size = plan.size;
  begins = ((at.reads.0, after_head window given places spans head at), short);
  framed = planned.0;
  short = less;
})

-- what the bytes of a window are, if they were read in two steps
pub Reads-then :
    (before between after : Option (List ℕ)) (first second waiting target body : List ℕ) (result : Result Message Failed) →
    Came before between first second →
    Reads between after second waiting target body result →
    Reads before after first waiting target body result
Reads-then before between after first second waiting target body result came reads = record {
  given = came.bytes ++ reads.given;
  consumed = Consumes-then before between after came.bytes reads.given came.consumed reads.consumed;
  finds = subst (λ (bytes : List ℕ). Finds after bytes waiting target body result)
      (ap (λ (front : List ℕ). front ++ reads.given) came.behind ∙ append_assoc first came.bytes reads.given) reads.finds;
}

-- what a window comes to, if all of it is found at once
pub Reads-window :
    (before after : Option (List ℕ)) (first second waiting target body : List ℕ) (result : Result Message Failed) →
    Came before after first second →
    Finds after second waiting target body result →
    Reads before after first waiting target body result
Reads-window before after first second waiting target body result came finds = record {
  given = came.bytes;
  consumed = came.consumed;
  finds = subst (λ (bytes : List ℕ). Finds after bytes waiting target body result) came.behind finds;
}

-- a window that is full
pub long_window : (window : List ℕ) → IsLongHead window → IsLongHead (take 16384 window)
long_window window long = subst IsLongHead (sym (take_all 16384 window (omega (arith, long.full)))) long

-- a window holds no more than a head may have
pub never_window : (window : List ℕ) → length window ≤ 16384 → NeverHasRequest window → NeverHasRequest (take 16384 window)
never_window window short never = subst NeverHasRequest (sym (take_all 16384 window short)) never

head_some : (head : RequestHead) → IsRequestHead head → 0 < length (print_request head)
unfolding print_request
head_some head valid = let name = valid.method.0 in grind (arith, length-append)

end_with-some : (bytes : List ℕ) → 0 < length bytes → Unfinished ≡ end_with bytes
end_with-some [] some = absurd (omega (arith, some))
end_with-some (byte ∷ bytes) some = refl

-- a whole body was read
pub Reads-whole :
    (old new : Option (List ℕ)) (window before waiting slice target body : List ℕ) (places : List HeaderSpan)
    (spans : RequestSpans) (head : RequestHead) (plan : Plan) →
    IsRequestAt window places spans head →
    length (print_request head) ≤ 16384 →
    IsPlanOf head (Ok plan) →
    before ≡ drop spans.len window →
    take plan.target target ≡ span_bytes window spans.path →
    plan.target ≤ 16384 →
    plan.size ≤ 262144 →
    take plan.size body ≡ slice →
    BodyFound old new before waiting slice (Ok true) →
    Reads old new window waiting target body (Ok (Whole plan))
Reads-whole old new window before waiting slice target body places spans head plan at short planned rest named kept fits taken found = record {
  given = found.bytes;
  consumed = found.consumed;
  finds = whole_message window found.bytes waiting slice target body places spans head plan at short planned
      (ap (λ (front : List ℕ). front ++ found.bytes) (sym rest) ∙ found.holds) named kept fits taken;
}

-- the input ended within the body
pub Reads-short :
    (old new : Option (List ℕ)) (window before waiting slice target body : List ℕ) (places : List HeaderSpan)
    (spans : RequestSpans) (head : RequestHead) (plan : Plan) →
    IsRequestAt window places spans head →
    length (print_request head) ≤ 16384 →
    IsPlanOf head (Ok plan) →
    before ≡ drop spans.len window →
    length slice ≡ plan.size →
    BodyFound old new before waiting slice (Ok false) →
    Reads old new window waiting target body (Ok (Ended Unfinished))
Reads-short old new window before waiting slice target body places spans head plan at short planned rest size found =
    let less : length (drop spans.len window ++ found.bytes) < plan.size =
    subst (λ (n : ℕ). length (drop spans.len window ++ found.bytes) < n) size
    (subst (λ (front : List ℕ). length (front ++ found.bytes) < length slice) rest found.holds.0) in
    let long = ap length (after_head window found.bytes places spans head at) in
    let some = head_some head at.reads.0 in record {
      given = found.bytes;
      consumed = found.consumed;
      finds = (
        part_of_body window found.bytes places spans head plan at short planned less,
        found.holds.2,
        end_with-some (window ++ found.bytes)
            (omega (arith, long, length-append (print_request head) (drop spans.len window ++ found.bytes))),
      );
    }

-- a read failed within the body
pub Reads-failed :
    (old new : Option (List ℕ)) (window before waiting slice target body : List ℕ) (places : List HeaderSpan)
    (spans : RequestSpans) (head : RequestHead) (plan : Plan) (failed : Failed) →
    IsRequestAt window places spans head →
    length (print_request head) ≤ 16384 →
    IsPlanOf head (Ok plan) →
    before ≡ drop spans.len window →
    length slice ≡ plan.size →
    BodyFound old new before waiting slice (Err failed) →
    Reads old new window waiting target body (Err failed)
Reads-failed old new window before waiting slice target body places spans head plan failed at short planned rest size found =
    let less : length (drop spans.len window ++ found.bytes) < plan.size =
    subst (λ (n : ℕ). length (drop spans.len window ++ found.bytes) < n) size
    (subst (λ (front : List ℕ). length (front ++ found.bytes) < length slice) rest found.holds.0) in record {
      given = found.bytes;
      consumed = found.consumed;
      finds = part_of_body window found.bytes places spans head plan at short planned less;
    }

-- the front of two strings, if it is the first
pub take_front : (count : ℕ) (front back : List ℕ) → length front ≡ count → take count (front ++ back) ≡ front
take_front count front back long =
    take-append-le count front back (omega (arith, long)) ∙ take_all count front (omega (arith, long))

-- the bytes of a span are no more than all
pub span_short : (bytes : List ℕ) (span : Span) → length (span_bytes bytes span) ≤ length bytes
span_short bytes span =
    omega (arith, length-take (span.end - span.start) (drop span.start bytes), length-drop span.start bytes)

pub ok_head : (result : Result Head Failed) (found this : Head) → result ≡ Ok found → found ≡ this → result ≡ Ok this
ok_head result found this is same = cc
