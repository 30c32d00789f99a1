use Rattle.std.proofs.Common.{Some, codes, sym, ◌∙◌}
use Rattle.std.specs.Str.{bytes_eq}
use Rattle.std.proofs.lemmas.Bool.{not-true}
use Rattle.std.proofs.lemmas.Bool.Decides.{Decides-eqb}
use Rattle.std.proofs.lemmas.Slice.Eq.{strip_prefix_is}
use Rattle.payload_graph.proofs.FingerprintLemmas.{IsHashOf-otherwise, IsHashOf-undecoded}
use Rattle.payload_graph.proofs.fingerprint.parse_fingerprint.Goals as goal

pub returns-in_err-hash : goal.returns-in_err-hash
returns-in_err-hash c =
    let stripped = strip_prefix_is Decides-eqb c.as_bytes.result.now (codes "1.") (Some c.in_ok-digits.digits) c.in_ok-digits.ensures.cases in
    let front = rw c.as_bytes.ensures.value at stripped in
    rw c.from_residual-in_err-hash.ensures
    (IsHashOf-undecoded c.args.fp.now c.in_ok-digits.digits.now c.from_hex.result front c.from_hex.ensures c.in_err-hash.ensures.value)

pub returns-then-ne : goal.returns-then-ne
returns-then-ne c =
    let stripped = strip_prefix_is Decides-eqb c.as_bytes.result.now (codes "1.") (Some c.in_ok-digits.digits) c.in_ok-digits.ensures.cases in
    let front = rw c.as_bytes.ensures.value at stripped in
    let other = not-true (bytes_eq c.in_ok-digits.digits.now c.as_slice.result.now) (sym c.ne.ensures ∙ c.if-ne.true) in
    let differs = rw (c.as_slice.ensures ∙ c.encode_digits.ensures) at other in
    IsHashOf-otherwise c.args.fp.now c.in_ok-digits.digits.now c.in_ok-hash.hash c.from_hex.result front c.from_hex.ensures c.in_ok-hash.ensures.value differs
