-- The path of a history that may be in etcd; this project's profile.
use Rattle.std.specs.Prelude.{ℕ, List, Option, None, Some, Result, Err}
use Rattle.etcd_records.specs.Paths.{Parts, etcd_path_in}
use Rattle.etcd_records.specs.declared.paths.fault.EtcdPathFault.{EtcdPathFault}

-- why what was read is invalid
abbrev pub fault_of : Option (Result Parts EtcdPathFault) → Option EtcdPathFault
fault_of (Some (Err why)) = Some why
fault_of other = None

-- what is wrong with a path that begins with `etcd://`
abbrev pub history_fault : List ℕ → Option EtcdPathFault
history_fault path = fault_of (etcd_path_in path)
