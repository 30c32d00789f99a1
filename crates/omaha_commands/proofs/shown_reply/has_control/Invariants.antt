use Rattle.std.proofs.Common.{◌≡◌, drop}
use Rattle.omaha_commands.specs.ShownReplies.{has_control, has_control_after}
use Rattle.omaha_commands.proofs.shown_reply.has_control.Given as goal

abbrev pub invariant-loop-byte : goal.invariant-loop-byte
invariant-loop-byte l = has_control l.fn.body ≡ has_control_after l.last (drop l.byte-index l.body)
