use Rattle.std.proofs.Common.{◌≡◌, ◌++◌, ◌∙◌, All, ap, arith, length, subst}
use Rattle.std.specs.Prelude.{IfSome}
use Rattle.kept_records.specs.Checksums.{checksum_from, checksums_from, no_checksum}
use Rattle.history.proofs.RowLemmas.{length-entries_from}
use Rattle.history.specs.Holdings.{HasChecksum}
use Rattle.history.specs.Tables.{entries_from}
use Rattle.history.proofs.opening.read_listed.Goals as goal

pub returns-in-Ok : goal.returns-in-Ok
returns-in-Ok c =
    let first = c.first_of-first.result in
    let sums = c.split_at.result.0.now in
    let rest = c.split_at.result.1.now in
    let is = subst (λ found. IfSome found (λ all. rest ≡ entries_from first all.items)) c.in-Ok-Some.field-0-is c.in-Ok-Some.ensures in
    record {
      numbered = c.first_of-first.ensures;
      most = omega (arith, c.if-rest-gt-MAX_RECORDS.false, ap length is, length-entries_from first c.in-Ok-Some.kept.items);
      sums = sums;
      checked = subst (λ kept. All (HasChecksum first (checksums_from first no_checksum kept)) sums) c.deref.ensures.value c.in-Ok.ensures.checked;
      is = c.split_at.ensures.by_index.0 ∙ ap (λ rows. sums ++ rows) is;
      last = c.in-Ok.ensures.last ∙ ap (checksum_from first no_checksum) c.deref.ensures.value;
    }
