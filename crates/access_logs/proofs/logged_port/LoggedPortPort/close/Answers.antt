use Rattle.std.proofs.Common.{◌∙◌, sym, ap}
use Rattle.http_ports.specs.Ports.{Closes}
use Rattle.http_ports.specs.Traffic.{IsOpen}
use Rattle.http_ports.specs.declared.terms.Terms.{Terms}
use Rattle.access_logs.specs.Replies.{going_of}
use Rattle.access_logs.proofs.PortLemmas.{becomes-closed, begun-closed, going_was, open_within, sights_of}
use Rattle.access_logs.proofs.logged_port.LoggedPortPort.close.Goals as goal

pub end-requires : goal.end-requires
end-requires g c =
    let port = c.self.inside in
    let live : IsOpen (g.P.Port.slots port.port c.args.slot) = rw (← c.self.view_is) at c.requires.live in
    record {
      within =
          open_within port.first.value port.log (g.P.Port.slots port.port) c.args.slot c.self.invariant.tied live;
    }

pub invariant_of-self : goal.invariant_of-self
invariant_of-self g c =
    let port = c.self.inside in
    let old = g.P.Port.slots port.port in
    let new = g.P.Port.slots c.close.new.self in
    let live : IsOpen (old c.args.slot) = rw (← c.self.view_is) at c.requires.live in
    let closes : Closes c.args.slot old new = c.close.ensures.closes in
    record {
      fresh = c.self.invariant.fresh;
      begun = begun-closed c.args.slot old new closes live c.self.invariant.begun;
      places =
          c.end.ensures.slots ∙ c.self.invariant.places
          ∙ sym (ap (λ (terms : Terms). terms.capacity) c.close.ensures.terms);
      tied =
          c.end.ensures.tracks port.first.value (sights_of old) (sights_of new) (going_of live.0)
          (going_was (old c.args.slot) live.0 live.1) (becomes-closed c.args.slot old new live.0 closes live.1)
          c.self.invariant.tied;
    }
