use Rattle.std.proofs.Common.{◌∙◌, take, sym, ap}
use Rattle.http_ports.specs.Ports.{sending}
use Rattle.http_ports.specs.Traffic.{Changes, IsOpen}
use Rattle.http_ports.specs.declared.terms.Terms.{Terms}
use Rattle.access_logs.specs.Replies.{going_of}
use Rattle.access_logs.proofs.BeginLemmas.{sending_begun}
use Rattle.access_logs.proofs.PortLemmas.{becomes-sent, begun-changed, going_was, open_within, sights_of, tied-quiet, writes-quiet}
use Rattle.access_logs.proofs.logged_port.LoggedPortPort.write.Goals as goal

pub write-requires : goal.write-requires
write-requires g c =
    let port = c.self.inside in
    let live : IsOpen (g.P.Port.slots port.port c.args.slot) = rw (← c.self.view_is) at c.requires.live in
    record {
      within =
          open_within port.first.value port.log (g.P.Port.slots port.port) c.args.slot c.self.invariant.tied live;
    }

pub invariant_of-self : goal.invariant_of-self
invariant_of-self g c =
    let port = c.self.inside in
    let old = g.P.Port.slots port.port in
    let new = g.P.Port.slots c.write-sent.new.self in
    let sent = take c.in-Bytes.count c.args.bytes.now in
    let live : IsOpen (old c.args.slot) = rw (← c.self.view_is) at c.requires.live in
    let changes : Changes c.args.slot (sending sent) old new = c.in-Bytes.ensures.writes.2 in
    record {
      fresh = c.self.invariant.fresh;
      begun =
          begun-changed c.args.slot (sending sent) old new changes live (sending_begun sent) c.self.invariant.begun;
      places =
          c.write.ensures.slots ∙ c.self.invariant.places
          ∙ sym (ap (λ (terms : Terms). terms.capacity) c.in-Bytes.ensures.terms);
      tied =
          c.write.ensures.tracks port.first.value (sights_of old) (sights_of new) (going_of live.0)
          (going_was (old c.args.slot) live.0 live.1)
          (becomes-sent c.args.slot sent old new live.0 changes live.1 c.self.invariant.begun) c.self.invariant.tied;
    }

pub invariant_of-self-in_default : goal.invariant_of-self-in_default
invariant_of-self-in_default g c =
    let port = c.self.inside in
    let old = g.P.Port.slots port.port in
    let new = g.P.Port.slots c.write-sent.new.self in
    let live : IsOpen (old c.args.slot) = rw (← c.self.view_is) at c.requires.live in
    let (change, quiet, changes) =
    writes-quiet c.args.slot c.write-sent.result c.args.bytes.now old new c.in_default.not-Bytes
    c.write-sent.ensures.writes in
    record {
      fresh = c.self.invariant.fresh;
      begun = begun-changed c.args.slot change old new changes live quiet.begun c.self.invariant.begun;
      places = c.self.invariant.places ∙ sym (ap (λ (terms : Terms). terms.capacity) c.write-sent.ensures.terms);
      tied =
          tied-quiet c.args.slot change port.first.value port.log old new quiet changes live c.self.invariant.tied;
    }
