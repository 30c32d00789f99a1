-- Bytes that are less than a message, and more after them.
use Rattle.std.proofs.Common.{◌≡◌, ◌∙◌, ◌+◌, ◌-◌, ◌<◌, ◌≤◌, ◌++◌, ℕ, List, append_assoc, length, length-append, length-drop, length-take, min, take, drop, Ok, Err, inl, inr, refl, sym, subst, ap, arith}
use Rattle.std.proofs.lemmas.List.{length-take-le, take-append-drop, take_min}
use Rattle.httparse.specs.Grammar.{HasNoRequest, MayBecomeRequest, NeverHasRequest, RequestHead, print_request}
use Rattle.httparse.specs.Spans.{IsRequestAt, span_bytes}
use Rattle.httparse.specs.declared.spans.HeaderSpan.{HeaderSpan}
use Rattle.httparse.specs.declared.spans.RequestSpans.{RequestSpans}
use Rattle.http_wire.specs.declared.heads.status.Status.{Status}
use Rattle.http_wire.specs.declared.heads.status.Status.TheVariants as status
use Rattle.http_sessions.specs.declared.foreseeing.Found.{Found}
use Rattle.http_sessions.specs.declared.message.Plan.{Plan}
use Rattle.http_sessions.specs.Readings.{IsFound, IsPart, IsPlanOf, IsRejected}
use Rattle.http_sessions.proofs.ReadingLemmas.{part_of_body}
use Rattle.http_sessions.proofs.StopLemmas.{split_same}

-- a whole head among the first bytes, and less than its body, also with more bytes
pub part_with_more :
    (bytes : List ℕ) (front : ℕ) (places : List HeaderSpan) (spans : RequestSpans) (head : RequestHead) (plan : Plan) →
    IsRequestAt (take front bytes) places spans head →
    length (print_request head) ≤ 16384 →
    spans.len ≤ length (take front bytes) →
    IsPlanOf head (Ok plan) →
    (more : List ℕ) → length (bytes ++ more) < spans.len + plan.size → IsPart (bytes ++ more)
part_with_more bytes front places spans head plan at short within planned more less =
    let first = take front bytes in
    let others = drop front bytes ++ more in
    let all : first ++ others ≡ bytes ++ more =
    sym (append_assoc first (drop front bytes) more) ∙ ap (λ (l : List ℕ). l ++ more) (take-append-drop front bytes) in
    let after : length (drop spans.len first ++ others) < plan.size =
    omega (
      arith,
      less,
      within,
      ap length all,
      length-append first others,
      length-append (drop spans.len first) others,
      length-drop spans.len first,
    ) in
    subst (λ (l : List ℕ). IsPart l) all (part_of_body first others places spans head plan at short planned after)

-- a whole head among the first bytes, and all that is after it
head_first :
    (bytes : List ℕ) (front : ℕ) (places : List HeaderSpan) (spans : RequestSpans) (head : RequestHead) →
    IsRequestAt (take front bytes) places spans head →
    bytes ≡ print_request head ++ (drop spans.len (take front bytes) ++ drop front bytes)
head_first bytes front places spans head at =
    sym (take-append-drop front bytes) ∙ ap (λ (l : List ℕ). l ++ drop front bytes) at.reads.1
    ∙ append_assoc (print_request head) (drop spans.len (take front bytes)) (drop front bytes)

-- a whole head among the first bytes, and its body
pub whole_found :
    (bytes : List ℕ) (front : ℕ) (places : List HeaderSpan) (spans : RequestSpans) (head : RequestHead) (plan : Plan) (found : Found) →
    IsRequestAt (take front bytes) places spans head →
    length (print_request head) ≤ 16384 →
    spans.len ≤ length (take front bytes) →
    IsPlanOf head (Ok plan) →
    plan.size ≤ length bytes - spans.len →
    found.request.method ≡ plan.method →
    found.request.target.now ≡ span_bytes (take front bytes) spans.path →
    found.request.body.now ≡ take plan.size (drop spans.len bytes) →
    found.request.closes ≡ plan.closes →
    found.length ≡ spans.len + plan.size →
    IsFound bytes found
whole_found bytes front places spans head plan found at short within planned room method target body closes long =
    let first = take front bytes in
    let behind = drop spans.len first ++ drop front bytes in
    let (framed, named, asked) = planned in
    let all = head_first bytes front places spans head at in
    let few : length (take spans.len bytes) ≡ length (print_request head) =
    length-take-le spans.len bytes (omega (arith, within, length-take front bytes)) ∙ at.len in
    let (heads, rest) = split_same (take spans.len bytes) (drop spans.len bytes) (print_request head) behind few
    (take-append-drop spans.len bytes ∙ all) in
    let size : length found.request.body.now ≡ plan.size =
    ap length body ∙ length-take-le plan.size (drop spans.len bytes) (omega (arith, room, length-drop spans.len bytes)) in record {
      head = head;
      after = drop plan.size (drop spans.len bytes);
      valid = at.reads.0;
      short = short;
      framed = framed ∙ ap Ok (sym size);
      method = method ∙ named;
      target = target ∙ at.path;
      closes = closes ∙ asked;
      whole = all ∙ ap (λ (l : List ℕ). print_request head ++ l)
          (sym rest ∙ sym (take-append-drop plan.size (drop spans.len bytes))
          ∙ ap (λ (l : List ℕ). l ++ drop plan.size (drop spans.len bytes)) (sym body))
          ∙ sym (append_assoc (print_request head) found.request.body.now (drop plan.size (drop spans.len bytes)));
      long = omega (arith, long, size, at.len, length-append (print_request head) found.request.body.now);
    }

-- the bytes that a head may have
first_bytes : (bytes : List ℕ) (front : ℕ) → front ≡ min 16384 (length bytes) → take front bytes ≡ take 16384 bytes
first_bytes bytes front is = ap (λ (n : ℕ). take n bytes) is ∙ take_min 16384 bytes

-- no head begins so
pub never_begun :
    (bytes : List ℕ) (front : ℕ) → front ≡ min 16384 (length bytes) → NeverHasRequest (take front bytes) →
    IsRejected status.BadRequest bytes
never_begun bytes front is never = inl (refl, subst NeverHasRequest (first_bytes bytes front is) never)

-- as many bytes as a head may have, and no whole one
pub too_long :
    (bytes : List ℕ) (front : ℕ) → front ≡ min 16384 (length bytes) → 16384 ≤ length bytes →
    HasNoRequest (take front bytes) → MayBecomeRequest (take front bytes) → IsRejected status.FieldsTooLarge bytes
too_long bytes front is long none may =
    let same = first_bytes bytes front is in
    inr (inl (
      refl,
      record {
        full = length-take-le 16384 bytes long;
        none = subst HasNoRequest same none;
        unfinished = subst MayBecomeRequest same may;
      },
    ))

-- a whole head among the first bytes, which rejects its message
pub head_rejects :
    (bytes : List ℕ) (front : ℕ) (places : List HeaderSpan) (spans : RequestSpans) (head : RequestHead) (why : Status) →
    IsRequestAt (take front bytes) places spans head → length (print_request head) ≤ 16384 → IsPlanOf head (Err why) →
    IsRejected why bytes
head_rejects bytes front places spans head why at short rejects =
    inr (inr (
      head,
      drop spans.len (take front bytes) ++ drop front bytes,
      ((at.reads.0, head_first bytes front places spans head at), short),
      rejects,
    ))
