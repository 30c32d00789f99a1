-- What was recorded so far.
use Rattle.std.proofs.Common.{◌≡◌, take}
use Rattle.omaha_server.proofs.running.log_of.Given as goal

abbrev pub invariant-loop-sender : goal.invariant-loop-sender
invariant-loop-sender l = l.log ≡ take l.sender-index l.senders
