use Rattle.std.proofs.Common.{◌≡◌, ◌+◌, ◌++◌, ◌∙◌, [], ◌∷◌, ap, arith, length, sym, take}
use Rattle.std.proofs.lemmas.List.{length-take-le, take_more}
use Rattle.kept_records.specs.Checksums.{checksum_from, checksum_of, checksums_from, no_checksum}
use Rattle.history.proofs.ChecksumLemmas.{checksum_from-append, checksums_from-append}
use Rattle.history.proofs.checksums.checksums_of.Goals as goal

pub loop-at-preserved : goal.loop-at-preserved
loop-at-preserved c =
    let first = c.args.first in
    let kept = c.args.kept.now in
    let done = take c.loop-at.at kept in
    let one = c.index-kept-at.result in
    let next : take (c.loop-at.at + 1) kept ≡ done ++ one ∷ [] =
    take_more kept c.loop-at.at one c.loop-at-test.true ∙ ap (λ it. done ++ it ∷ []) (sym c.index-kept-at.is) in
    let at : c.loop-at.at ≡ length done = sym (length-take-le c.loop-at.at kept (omega (arith, c.loop-at-test.true))) in
    let sum : c.checksum_of-last.result ≡ checksum_of (first + length done) one (checksum_from first no_checksum done) =
    rw (c.as_slice.ensures, c.loop-at.invariant.1) at c.checksum_of-last.ensures ∙ ap (λ n. checksum_of (first + n) one (checksum_from first no_checksum done)) at in (
      c.in_ok-push.ensures.items ∙ ap (λ sums. sums ++ c.checksum_of-last.result ∷ []) c.loop-at.invariant.0
          ∙ ap (λ last. checksums_from first no_checksum done ++ last ∷ []) sum ∙ sym (checksums_from-append first no_checksum done one)
          ∙ ap (checksums_from first no_checksum) (sym next),
      sum ∙ sym (checksum_from-append first no_checksum done one) ∙ ap (checksum_from first no_checksum) (sym next),
    )
