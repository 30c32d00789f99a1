use Rattle.std.proofs.Common.{◌∙◌, [], append-nil, sym}
use Rattle.access_logs.specs.Replies.{with_more}
use Rattle.access_logs.proofs.PlaceLemmas.{going_some, seen_is, seen_none}
use Rattle.access_logs.proofs.TrackLemmas.{LogsAt-nothing, SameProducer-refl, Tracks-on}
use Rattle.access_logs.proofs.port_log.PortLog.write.Goals as goal

pub returns-in-Some-clause-tracks : goal.returns-in-Some-clause-tracks
returns-in-Some-clause-tracks c = λ start was is piece going becomes tracks.
    let saw =
    seen_is _ _ piece c.in-Some.seen going (sym c.put.ensures.took ∙ c.in-Some.is) (tracks.going c.args.slot) in
    Tracks-on start c.args.self.now _ c.args.slot _ was is [] becomes (sym (append-nil (was c.args.slot).done))
    (LogsAt-nothing c.args.slot c.args.self.now.lines) (SameProducer-refl c.args.self.now.lines.end)
    (going_some _ (with_more piece c.args.bytes.now) c.write.new.self c.set.ensures.set (c.write.ensures piece saw))
    (λ k other. c.set.ensures.elsewhere k other ∙ c.put.ensures.elsewhere k other) tracks

pub returns-in_default-clause-tracks : goal.returns-in_default-clause-tracks
returns-in_default-clause-tracks c = λ start was is piece going becomes tracks.
    absurd (seen_none _ _ piece going (sym c.put.ensures.took ∙ c.in_default.is) (tracks.going c.args.slot))
