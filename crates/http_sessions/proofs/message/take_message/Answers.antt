use Rattle.std.proofs.Common.{◌≡◌, ◌≤◌, Bool, Ok, List, ℕ, [], ◌++◌, length, take, drop, sym, subst, ap, ◌∙◌, arith}
use Rattle.std.proofs.lemmas.List.{length-take-le}
use Rattle.http_wire.specs.Bodies.{BodyFound}
use Rattle.httparse.specs.Spans.{IsRequestAt, span_bytes}
use Rattle.http_sessions.proofs.ReadingLemmas.{Consumes-nothing, Reads-failed, Reads-short, Reads-whole, head_short, rejected_head, span_short, take_front}
use Rattle.http_sessions.proofs.message.take_message.Goals as goal

pub returns-in-Err-clause-reads : goal.returns-in-Err-clause-reads
returns-in-Err-clause-reads g c =
    let (head, at) = c.requires.head in
    let short = head_short c.args.window.now c.args.fields.now c.args.spans.now head at c.requires.within.short c.bytes.ensures.bound in
    let here : IsRequestAt c.bytes.result.now c.args.fields.now c.args.spans.now head =
    subst (λ (bytes : List ℕ). IsRequestAt bytes c.args.fields.now c.args.spans.now head) (sym c.bytes.ensures.value) at in
    record {
      given = [];
      consumed = Consumes-nothing (g.S.Source.remaining c.args.source.now);
      finds = rejected_head c.args.window.now c.args.fields.now c.args.spans.now head c.in-Err.status at short (c.in-Err.ensures.plan head here);
    }

pub returns-in-Ok-true-clause-reads : goal.returns-in-Ok-true-clause-reads
returns-in-Ok-true-clause-reads g c =
    let (head, at) = c.requires.head in
    let short = head_short c.args.window.now c.args.fields.now c.args.spans.now head at c.requires.within.short c.bytes.ensures.bound in
    let here : IsRequestAt c.bytes.result.now c.args.fields.now c.args.spans.now head =
    subst (λ (bytes : List ℕ). IsRequestAt bytes c.args.fields.now c.args.spans.now head) (sym c.bytes.ensures.value) at in
    let room : c.in-Ok.plan.size ≤ length c.args.body.now = omega (arith, c.requires.bodies, c.in-Ok.ensures.fits) in
    let size : length c.read_body.new.body ≡ c.in-Ok.plan.size =
    c.read_body.auto.body ∙ length-take-le c.in-Ok.plan.size c.args.body.now room in
    let named : take c.keep-count.result c.keep-count.new.cells ≡ span_bytes c.args.window.now c.args.spans.now.path =
    c.keep-count.ensures.kept ∙ c.of.ensures ∙ ap (λ (bytes : List ℕ). span_bytes bytes c.args.spans.now.path) c.bytes-2.ensures.value in
    let kept : c.keep-count.result ≤ 16384 =
    omega (
      arith,
      c.keep-count.ensures.count,
      ap length c.of.ensures,
      span_short c.bytes-2.result.now c.args.spans.now.path,
      ap length c.bytes-2.ensures.value,
      c.bytes-2.ensures.bound,
    ) in
    Reads-whole _ _ c.args.window.now c.discard.new.self c.read_body.new.window c.read_body.new.body c.keep-count.new.cells
    (c.read_body.new.body ++ drop c.in-Ok.plan.size c.args.body.now) c.args.fields.now c.args.spans.now head
    (record { size = c.in-Ok.plan.size; method = c.in-Ok.plan.method; closes = c.in-Ok.plan.closes; target = c.keep-count.result })
    at short (c.in-Ok.ensures.plan head here) c.discard.ensures named kept c.in-Ok.ensures.fits
    (take_front c.in-Ok.plan.size c.read_body.new.body (drop c.in-Ok.plan.size c.args.body.now) size)
    (subst (λ (b : Bool). BodyFound (g.S.Source.remaining c.args.source.now) (g.S.Source.remaining c.read_body.new.source) c.discard.new.self c.read_body.new.window c.read_body.new.body (Ok b)) c.in-Ok-true.field-0-test c.in-Ok-true.ensures.found)

pub returns-in-Ok-false-clause-reads : goal.returns-in-Ok-false-clause-reads
returns-in-Ok-false-clause-reads g c =
    let (head, at) = c.requires.head in
    let short = head_short c.args.window.now c.args.fields.now c.args.spans.now head at c.requires.within.short c.bytes.ensures.bound in
    let here : IsRequestAt c.bytes.result.now c.args.fields.now c.args.spans.now head =
    subst (λ (bytes : List ℕ). IsRequestAt bytes c.args.fields.now c.args.spans.now head) (sym c.bytes.ensures.value) at in
    let room : c.in-Ok.plan.size ≤ length c.args.body.now = omega (arith, c.requires.bodies, c.in-Ok.ensures.fits) in
    let size : length c.read_body.new.body ≡ c.in-Ok.plan.size =
    c.read_body.auto.body ∙ length-take-le c.in-Ok.plan.size c.args.body.now room in
    Reads-short _ _ c.args.window.now c.discard.new.self c.read_body.new.window c.read_body.new.body c.keep-count.new.cells
    (c.read_body.new.body ++ drop c.in-Ok.plan.size c.args.body.now) c.args.fields.now c.args.spans.now head
    c.in-Ok.plan at short (c.in-Ok.ensures.plan head here) c.discard.ensures size
    (subst (λ (b : Bool). BodyFound (g.S.Source.remaining c.args.source.now) (g.S.Source.remaining c.read_body.new.source) c.discard.new.self c.read_body.new.window c.read_body.new.body (Ok b)) c.in-Ok-false.field-0-test c.in-Ok-false.ensures.found)

pub returns-in-Err-read_body-clause-reads : goal.returns-in-Err-read_body-clause-reads
returns-in-Err-read_body-clause-reads g c =
    let (head, at) = c.requires.head in
    let short = head_short c.args.window.now c.args.fields.now c.args.spans.now head at c.requires.within.short c.bytes.ensures.bound in
    let here : IsRequestAt c.bytes.result.now c.args.fields.now c.args.spans.now head =
    subst (λ (bytes : List ℕ). IsRequestAt bytes c.args.fields.now c.args.spans.now head) (sym c.bytes.ensures.value) at in
    let room : c.in-Ok.plan.size ≤ length c.args.body.now = omega (arith, c.requires.bodies, c.in-Ok.ensures.fits) in
    let size : length c.read_body.new.body ≡ c.in-Ok.plan.size =
    c.read_body.auto.body ∙ length-take-le c.in-Ok.plan.size c.args.body.now room in
    Reads-failed _ _ c.args.window.now c.discard.new.self c.read_body.new.window c.read_body.new.body c.keep-count.new.cells
    (c.read_body.new.body ++ drop c.in-Ok.plan.size c.args.body.now) c.args.fields.now c.args.spans.now head
    c.in-Ok.plan c.in-Err-read_body.error at short (c.in-Ok.ensures.plan head here) c.discard.ensures size c.in-Err-read_body.ensures.found
