-- The operator's port, before and after it is served; this project's profile.
use Rattle.std.specs.Prelude.{Bool, true, false, Option, None, Some}
use Rattle.http_ports.specs.declared.terms.Terms.{Terms}
use Rattle.omaha_server.specs.declared.operating.OperatorPort.{OperatorPort}
use Rattle.omaha_server.specs.declared.operating.OperatorPort.TheVariants as port

-- there is an operator
abbrev pub has_operator : {P O : Type 0} → OperatorPort P O → Bool
has_operator port.Missing = false
has_operator (port.New new) = true
has_operator port.Served = true

-- what it is going to serve by
abbrev pub terms_left : {P O : Type 0} → (P → Terms) → OperatorPort P O → Option Terms
terms_left terms_of port.Missing = None
terms_left terms_of (port.New new) = Some (terms_of new)
terms_left terms_of port.Served = None
