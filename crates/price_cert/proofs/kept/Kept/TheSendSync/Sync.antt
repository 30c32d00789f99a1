-- Each thread may borrow it.
use denote.RattleType.{RattleType}
use denote.Param.Send.{IsSync, part_keyless}
use Rattle.price_cert.proofs.kept.Kept.TheSendSync.Send.{send}
use Rattle.price_cert.specs.contracts.kept.Kept.{the_row}

pub sync : (T : RattleType) → IsSync (the_row T)
sync T = record { shared = λ d b o κ q. part_keyless (the_row T) (send T) q d b o }
