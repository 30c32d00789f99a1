use Rattle.std.proofs.Common.{◌≡◌, ◌++◌, string_bytes, take}
use Rattle.operator_pages.specs.Publishes.{publish_rows}
use Rattle.operator_pages.proofs.publishes.push_publish_rows.Given as goal

abbrev pub invariant-loop-publish : goal.invariant-loop-publish
invariant-loop-publish l = string_bytes l.text ≡ string_bytes l.initial.text ++ publish_rows (take l.publish-index l.publishes)
