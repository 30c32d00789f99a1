use Rattle.std.proofs.Common.{◌≡◌, ◌++◌}
use Rattle.std.specs.List.{filter_map, range_with_len}
use Rattle.review_reports.specs.Changes.{change_at}
use Rattle.review_reports.proofs.change.push_changes.Given as goal

abbrev pub invariant-loop-index : goal.invariant-loop-index
invariant-loop-index l = l.changes.items ≡ l.initial.changes.items ++ filter_map (change_at l.before l.after l.old l.new) (range_with_len 0 l.index)
