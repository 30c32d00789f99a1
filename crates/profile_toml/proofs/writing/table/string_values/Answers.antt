use Rattle.std.proofs.Common.{arith}
use Rattle.std.proofs.lemmas.Grind.{common_steps}
use Rattle.toml.proofs.Views.{items_view-push}
use Rattle.profile_toml.proofs.WritingLemmas.{string_items-last}
use Rattle.profile_toml.proofs.writing.table.string_values.Goals as goal

pub loop-text-preserved : goal.loop-text-preserved
loop-text-preserved c = grind (arith, common_steps, items_view-push, string_items-last)
