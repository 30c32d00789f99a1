use Rattle.std.proofs.Common.{rules}
use Rattle.certificates.proofs.form.starts_with_zero.Goals as goal

pub returns-then-digits-gt1 : goal.returns-then-digits-gt1
returns-then-digits-gt1 c = search rules
