use Rattle.std.proofs.Common.{rules}
use Rattle.etcd_records.proofs.appending.EtcdRecordsRecords.next.Goals as goal

pub returns-in-None-clause-by : goal.returns-in-None-clause-by
returns-in-None-clause-by g c = search rules

pub returns-in-Some-clause-by : goal.returns-in-Some-clause-by
returns-in-Some-clause-by g c = search rules
