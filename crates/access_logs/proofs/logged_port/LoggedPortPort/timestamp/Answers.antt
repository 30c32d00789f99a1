use Rattle.std.proofs.Common.{◌∙◌, None, Some, sym, ap}
use Rattle.http_ports.specs.Traffic.{Changes, IsOpen, timing}
use Rattle.http_ports.specs.declared.terms.Terms.{Terms}
use Rattle.access_logs.specs.Replies.{going_of}
use Rattle.access_logs.proofs.BeginLemmas.{timing-some_begun}
use Rattle.access_logs.proofs.PortLemmas.{becomes-begun, begun-changed, going_was, open_within, sights_of, tied-quiet, timing-quiet}
use Rattle.access_logs.proofs.logged_port.LoggedPortPort.timestamp.Goals as goal

pub begin-requires : goal.begin-requires
begin-requires g c =
    let port = c.self.inside in
    let live : IsOpen (g.P.Port.slots port.port c.args.slot) = rw (← c.self.view_is) at c.requires.live in
    record {
      within =
          open_within port.first.value port.log (g.P.Port.slots port.port) c.args.slot c.self.invariant.tied live;
    }

pub invariant_of-self : goal.invariant_of-self
invariant_of-self g c =
    let port = c.self.inside in
    let old = g.P.Port.slots port.port in
    let new = g.P.Port.slots c.timestamp-seconds.new.self in
    let seconds = c.timestamp-seconds.result in
    let waiting = c.in-Some.bytes.now in
    let live : IsOpen (old c.args.slot) = rw (← c.self.view_is) at c.requires.live in
    let changes : Changes c.args.slot (timing seconds (Some waiting)) old new =
    rw c.in-Some.is at c.timestamp-seconds.ensures.noted in
    record {
      fresh = c.self.invariant.fresh;
      begun =
          begun-changed c.args.slot (timing seconds (Some waiting)) old new changes live
          (timing-some_begun seconds waiting) c.self.invariant.begun;
      places =
          c.begin.ensures.slots ∙ c.self.invariant.places
          ∙ sym (ap (λ (terms : Terms). terms.capacity) c.timestamp-seconds.ensures.terms);
      tied =
          c.begin.ensures.tracks port.first.value (sights_of old) (sights_of new) (going_of live.0)
          (going_was (old c.args.slot) live.0 live.1)
          (becomes-begun c.args.slot seconds waiting old new live.0 changes live.1) c.self.invariant.tied;
    }

pub invariant_of-self-in_default : goal.invariant_of-self-in_default
invariant_of-self-in_default g c =
    let port = c.self.inside in
    let old = g.P.Port.slots port.port in
    let new = g.P.Port.slots c.timestamp-seconds.new.self in
    let seconds = c.timestamp-seconds.result in
    let live : IsOpen (old c.args.slot) = rw (← c.self.view_is) at c.requires.live in
    let changes : Changes c.args.slot (timing seconds None) old new =
    rw c.in_default.is at c.timestamp-seconds.ensures.noted in
    let quiet = timing-quiet seconds in
    record {
      fresh = c.self.invariant.fresh;
      begun = begun-changed c.args.slot (timing seconds None) old new changes live quiet.begun c.self.invariant.begun;
      places =
          c.self.invariant.places ∙ sym (ap (λ (terms : Terms). terms.capacity) c.timestamp-seconds.ensures.terms);
      tied =
          tied-quiet c.args.slot (timing seconds None) port.first.value port.log old new quiet changes live
          c.self.invariant.tied;
    }
