-- The strings so far, and those of the rest.
use Rattle.std.proofs.Common.{◌≡◌, ◌++◌, length}
use denote.Text.{Utf8}
use denote.Shadow.{shadow}
use Rattle.etcd_records.specs.Paths.{addresses_in}
use Rattle.etcd_records.proofs.paths.path.EtcdPath.addresses.Given as goal

abbrev pub invariant-loop-first : goal.invariant-loop-first
invariant-loop-first l = shadow (Utf8 l.rest)
    × (addresses_in l.fn.self.hosts.now ≡ l.all ++ addresses_in l.rest)

abbrev pub decreases-loop-first : goal.decreases-loop-first
decreases-loop-first l = length l.rest
