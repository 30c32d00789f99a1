use Rattle.std.proofs.Common.{◌≡◌, map, replicate}
use Rattle.serde_json.specs.Data.{object, no_members}
use Rattle.serde_json.specs.View.{view}
use Rattle.omaha_json.proofs.client.request_writer.blank_values.Given as goal

abbrev pub invariant-loop-blank : goal.invariant-loop-blank
invariant-loop-blank l = map view l.blanks.items ≡ replicate l._blank (object no_members)
