-- What is wrong with the addresses is wrong with the rest of them.
use Rattle.std.proofs.Common.{◌≡◌}
use denote.Text.{Utf8}
use denote.Shadow.{shadow}
use Rattle.etcd_records.specs.Paths.{addresses_fault, addresses_in}
use Rattle.etcd_records.proofs.paths.path.addresses_fault.Given as goal

abbrev pub invariant-loop-number : goal.invariant-loop-number
invariant-loop-number l = shadow (Utf8 l.rest)
    × (addresses_fault 1 (addresses_in l.fn.hosts) ≡ addresses_fault l.number (addresses_in l.rest))
