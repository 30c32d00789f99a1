use Rattle.std.proofs.Common.{◌≡◌, ◌+◌, ◌-◌, ◌<◌, ◌≤◌, ◌++◌, ℕ, List, [], append-nil, drop, length, length-take, take, refl, subst, ap, arith, rules}
use Rattle.httparse.specs.Grammar.{print_request}
use Rattle.http_wire.proofs.HeadLemmas.{never_exceeds}
use Rattle.http_sessions.specs.Readings.{IsPart}
use Rattle.http_sessions.proofs.ForeseenLemmas.{head_rejects, never_begun, part_with_more, too_long, whole_found}
use Rattle.http_sessions.proofs.foreseeing.foresee_in.Goals as goal

pub returns-in-Ok : goal.returns-in-Ok
returns-in-Ok c =
    let bytes = c.args.bytes.now in
    let found = c.in-Ok-Complete in
    let (head, at) = rw found.spans-is at (rw found.field-0-is at found.ensures.complete) in
    let within = (rw found.spans-is at (rw found.field-0-is at found.ensures.within)).section.len_fits in
    let short : length (print_request head) ≤ 16384 =
    omega (arith, at.len, within, length-take c.min.result bytes, c.min.ensures) in
    let part : (more : List ℕ) → length (bytes ++ more) < found.spans.len + c.in-Ok.plan.size → IsPart (bytes ++ more) =
    part_with_more bytes c.min.result _ found.spans head c.in-Ok.plan at short within (c.in-Ok.ensures.plan head at) in (
      subst (λ (l : List ℕ). IsPart l) (append-nil bytes)
          (part [] (omega (arith, ap length (append-nil bytes), c.if-bytes-spans.true, within, length-take c.min.result bytes))),
      part,
    )

pub returns-in-Ok-2 : goal.returns-in-Ok-2
returns-in-Ok-2 c =
    let bytes = c.args.bytes.now in
    let found = c.in-Ok-Complete in
    let (head, at) = rw found.spans-is at (rw found.field-0-is at found.ensures.complete) in
    let within = (rw found.spans-is at (rw found.field-0-is at found.ensures.within)).section.len_fits in
    let short : length (print_request head) ≤ 16384 =
    omega (arith, at.len, within, length-take c.min.result bytes, c.min.ensures) in
    let size : found.spans.len + c.in-Ok.plan.size - found.spans.len ≡ c.in-Ok.plan.size = omega arith in
    whole_found bytes c.min.result _ found.spans head c.in-Ok.plan _ at short within (c.in-Ok.ensures.plan head at)
    (omega (arith, c.if-bytes-spans.false, within, length-take c.min.result bytes)) refl c.of.ensures
    (ap (λ (n : ℕ). take n (drop found.spans.len bytes)) size) refl refl

pub returns-in-Ok-Partial-2 : goal.returns-in-Ok-Partial-2
returns-in-Ok-Partial-2 c =
    let partial = rw c.in-Ok-Partial.field-0-is at c.in-Ok-Partial.ensures.partial in
    let unfinished = rw c.in-Ok-Partial.field-0-is at c.in-Ok-Partial.ensures.unfinished in
    too_long c.args.bytes.now c.min.result (omega (arith, c.min.ensures)) (omega (arith, c.if-bytes-lt-MAX_HEAD.false)) partial unfinished

pub unreachable-requires : goal.unreachable-requires
unreachable-requires c =
    let exceeds = rw c.in-Err-TooManyHeaders.field-0-is at c.in-Err-TooManyHeaders.ensures.too_many in
    never_exceeds (take c.min.result c.args.bytes.now) (length c.args.fields.now) c.requires
    (omega (arith, c.min.ensures, length-take c.min.result c.args.bytes.now)) (exceeds refl)

pub returns-in-Err : goal.returns-in-Err
returns-in-Err c =
    never_begun c.args.bytes.now c.min.result (omega (arith, c.min.ensures)) (search rules)

pub returns-in-Err-examine : goal.returns-in-Err-examine
returns-in-Err-examine c =
    let bytes = c.args.bytes.now in
    let found = c.in-Ok-Complete in
    let (head, at) = rw found.spans-is at (rw found.field-0-is at found.ensures.complete) in
    let within = (rw found.spans-is at (rw found.field-0-is at found.ensures.within)).section.len_fits in
    let short : length (print_request head) ≤ 16384 =
    omega (arith, at.len, within, length-take c.min.result bytes, c.min.ensures) in
    head_rejects bytes c.min.result _ found.spans head c.in-Err-examine.status at short (c.in-Err-examine.ensures.plan head at)
