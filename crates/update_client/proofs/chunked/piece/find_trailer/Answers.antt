use Rattle.std.proofs.Common.{rules, inl, inr, subst, ap, Err, take, arith}
use Rattle.std.proofs.lemmas.Grind.{common_steps}
use Rattle.httparse.specs.Grammar.{HasNoSection}
use Rattle.update_client.proofs.FrontLemmas.{exceeds_more, full_front, never_section}
use Rattle.update_client.proofs.chunked.piece.find_trailer.Goals as goal

pub returns-in-Ok-Partial-2 : goal.returns-in-Ok-Partial-2
returns-in-Ok-Partial-2 c =
    let bytes = c.args.bytes.now in
    let full = full_front c.min.result 16384 bytes c.min.ensures c.if-bytes-lt-MAX_HEAD.false in (
      λ same. cc,
      inl (
        c.if-bytes-lt-MAX_HEAD.false,
        subst (λ n. HasNoSection (take n bytes)) full (rw c.in-Ok-Partial.field-0-is at c.in-Ok-Partial.ensures.partial),
      ),
    )

pub returns-in-Err-TooManyHeaders : goal.returns-in-Err-TooManyHeaders
returns-in-Err-TooManyHeaders c = (
  λ same. cc,
  inr (exceeds_more c.min.result c.args.bytes.now (c.in-Err-TooManyHeaders.ensures.too_many (ap (λ e. Err e) c.in-Err-TooManyHeaders.field-0-is))),
)

pub returns-in-Err : goal.returns-in-Err
returns-in-Err c = (λ same. cc, never_section c.min.result c.args.bytes.now (c.in-Err.ensures.invalid (search rules)))

pub returns-in-Ok-Partial : goal.returns-in-Ok-Partial
returns-in-Ok-Partial c = grind (arith, common_steps)
