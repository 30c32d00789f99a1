use Rattle.std.proofs.Common.{◌∙◌, refl, sym}
use Rattle.access_logs.specs.Replies.{begun, piece_if}
use Rattle.access_logs.proofs.PlaceLemmas.{going_some, seen_is, seen_none}
use Rattle.access_logs.proofs.TrackLemmas.{Tracks-on}
use Rattle.access_logs.proofs.port_log.PortLog.begin.Goals as goal

pub returns-in-Some-clause-tracks : goal.returns-in-Some-clause-tracks
returns-in-Some-clause-tracks c = λ start was is piece going becomes tracks.
    let saw =
    seen_is _ _ piece c.in-Some.seen going (sym c.put.ensures.took ∙ c.in-Some.is) (tracks.going c.args.slot) in
    Tracks-on start c.args.self.now _ c.args.slot _ was is (piece_if piece.message piece.reply) becomes refl
    (c.log_reply.ensures.logs c.args.slot piece saw) c.log_reply.ensures.ring
    (going_some _ (begun c.args.waiting.now) c.read.new.self c.set.ensures.set
    (c.read.ensures _ (c.forget.ensures piece saw)))
    (λ k other. c.set.ensures.elsewhere k other ∙ c.put.ensures.elsewhere k other) tracks

pub returns-in_default-clause-tracks : goal.returns-in_default-clause-tracks
returns-in_default-clause-tracks c = λ start was is piece going becomes tracks.
    absurd (seen_none _ _ piece going (sym c.put.ensures.took ∙ c.in_default.is) (tracks.going c.args.slot))
