use Rattle.std.proofs.Common.{refl}
use Rattle.omaha_server.proofs.RunLemmas.{IsManned-over}
use Rattle.omaha_server.proofs.crew.jobs_of.Goals as goal

pub returns-clause-manned : goal.returns-clause-manned
returns-clause-manned g c =
    IsManned-over (g.S.System.edges c.args.setup.now.system.now) g.P.Port.terms g.P.Port.slots g.P.Port.accepted g.P.Port.is_over c.args.setup.now c.args.ports c.in-Ok.jobs.items _
    c.requires.ports c.in-Ok.ensures.ports (c.in-Ok.ensures.jobs c.args.publishing.press c.requires.views) refl
    c.in-Ok-operator_port.ensures.operates c.in-Ok-operator_port.ensures.terms c.in-Ok.ensures.lined
    c.requires.operator
