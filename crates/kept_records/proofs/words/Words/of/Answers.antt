use Rattle.std.proofs.Common.{◌∙◌, arith}
use Rattle.std.proofs.lemmas.Grind.{common_steps}
use Rattle.kept_records.proofs.WordLemmas.{copied}
use Rattle.kept_records.proofs.words.Words.of.Goals as goal

pub returns : goal.returns
returns c =
    copied c.args.message.now c.copy_from_slice.new.self _ c.min-count.result c.min-count.ensures c.copy_from_slice.ensures.after
