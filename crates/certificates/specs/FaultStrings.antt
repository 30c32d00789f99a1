-- How the faults of certificates print; this project's profile.
use Rattle.std.specs.Prelude.{ℕ, List, ◌∷◌, ◌++◌, codes, decimal}
use Rattle.price_cert.specs.declared.rules.Rule.{Rule}
use Rattle.price_cert.specs.declared.rules.Rule.TheVariants as rule
use Rattle.certificates.specs.declared.fault.Fault.{Fault}
use Rattle.certificates.specs.declared.fault.Fault.TheVariants.{BadLine, NotOfThisGraph, NoTrack, Wrong}

-- the name of a rule
abbrev pub rule_string : Rule → List ℕ
rule_string rule.C1 = codes "C1"
rule_string rule.C2 = codes "C2"
rule_string rule.C3 = codes "C3"
rule_string rule.C4 = codes "C4"

-- rule: Printed fault of a certificate
-- a wrong line's code, name and number, as `P1 BadLine 8`; that there is no such track; or a wrong row's release and
-- rule, as `wrong 1.0 C2`
abbrev pub fault_string : Fault → List ℕ
fault_string (BadLine n) = codes "P1 BadLine " ++ decimal n
fault_string (NotOfThisGraph n) = codes "P2 NotOfThisGraph " ++ decimal n
fault_string NoTrack = codes "no track"
fault_string (Wrong release broken) = codes "wrong " ++ release ++ 32 ∷ rule_string broken
