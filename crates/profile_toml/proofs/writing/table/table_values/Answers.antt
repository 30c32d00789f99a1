use Rattle.std.proofs.Common.{arith}
use Rattle.std.proofs.lemmas.Grind.{common_steps}
use Rattle.std.proofs.lemmas.List.{map-append}
use Rattle.toml.proofs.Views.{items_view-push}
use Rattle.profile_toml.proofs.WritingLemmas.{table_items-last}
use Rattle.profile_toml.proofs.writing.table.table_values.Goals as goal

pub loop-table-preserved : goal.loop-table-preserved
loop-table-preserved c = grind (arith, common_steps, items_view-push, table_items-last, map-append)
