-- A kept value has no bytes and owns nothing, so it may leave its thread.
use denote.RattleType.{RattleType}
use denote.Param.Send.{IsSend}
use Rattle.price_cert.specs.contracts.kept.Kept.{the_row}

pub send : (T : RattleType) → IsSend (the_row T)
send T = record { owned = λ d vs. ((λ vss. (tt, ((λ uss. (tt, tt)), tt))), tt); leaving = λ k f vs. tt }
