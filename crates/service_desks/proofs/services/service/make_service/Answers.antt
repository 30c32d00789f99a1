use Rattle.std.proofs.Common.{rules}
use Rattle.service_desks.proofs.services.service.make_service.Goals as goal

pub returns-in-Err-Refused : goal.returns-in-Err-Refused
returns-in-Err-Refused c = search rules
