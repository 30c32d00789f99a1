use Rattle.std.proofs.Common.{◌∙◌, All, ap, arith, length, subst}
use Rattle.kept_records.specs.Checksums.{no_checksum}
use Rattle.history.proofs.ChecksumLemmas.{length-checksums_from}
use Rattle.history.specs.Holdings.{HasChecksum}
use Rattle.history.proofs.opening.check_sums.Goals as goal

pub wrong_checksum-requires : goal.wrong_checksum-requires
wrong_checksum-requires c =
    omega (arith, c.requires, ap length (c.deref.ensures.value ∙ c.in-Ok.ensures.all), length-checksums_from c.args.first no_checksum c.args.kept.now)

pub returns-clause-checked : goal.returns-clause-checked
returns-clause-checked c =
    subst (λ sums. All (HasChecksum c.args.first sums) c.args.rows.now) (c.deref.ensures.value ∙ c.in-Ok.ensures.all) c.in-None.ensures
