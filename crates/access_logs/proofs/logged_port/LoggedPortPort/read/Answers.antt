use Rattle.std.proofs.Common.{◌∙◌, sym, ap}
use Rattle.http_ports.specs.Traffic.{IsOpen}
use Rattle.http_ports.specs.declared.terms.Terms.{Terms}
use Rattle.access_logs.proofs.PortLemmas.{begun-changed, reads-quiet, tied-quiet}
use Rattle.access_logs.proofs.logged_port.LoggedPortPort.read.Goals as goal

pub invariant_of-self : goal.invariant_of-self
invariant_of-self g c =
    let port = c.self.inside in
    let old = g.P.Port.slots port.port in
    let new = g.P.Port.slots c.read.new.self in
    let live : IsOpen (old c.args.slot) = rw (← c.self.view_is) at c.requires.live in
    let (change, quiet, changes) = reads-quiet c.args.slot c.read.result c.read.new.into old new c.read.ensures.reads in
    record {
      fresh = c.self.invariant.fresh;
      begun = begun-changed c.args.slot change old new changes live quiet.begun c.self.invariant.begun;
      places = c.self.invariant.places ∙ sym (ap (λ (terms : Terms). terms.capacity) c.read.ensures.terms);
      tied =
          tied-quiet c.args.slot change port.first.value port.log old new quiet changes live c.self.invariant.tied;
    }
