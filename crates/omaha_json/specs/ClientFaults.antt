-- How the fault of a reply is printed: the fault's code and name, this project's own.
use Rattle.std.specs.Prelude.{ℕ, List, ◌++◌, codes, decimal}
use Rattle.omaha_json.specs.declared.client.fault.ReplyFault.{ReplyFault}
use Rattle.omaha_json.specs.declared.client.fault.ReplyFault.TheVariants.{NoPrefix, NotJson, NoResponse, BadProtocol, BadOffer}

-- rule: Printed fault of a reply
-- the fault's code, a space and its name; of an invalid offer also a space and its index in decimal
abbrev pub fault_string : ReplyFault → List ℕ
fault_string NoPrefix = codes "K1 NoPrefix"
fault_string NotJson = codes "K2 NotJson"
fault_string NoResponse = codes "K3 NoResponse"
fault_string BadProtocol = codes "K4 BadProtocol"
fault_string (BadOffer index) = codes "K5 BadOffer " ++ decimal index
