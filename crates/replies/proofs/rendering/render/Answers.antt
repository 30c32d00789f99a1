use Rattle.std.specs.List.{zip}
use Rattle.replies.specs.Plans.{payloads_of}
use Rattle.replies.proofs.ReplyLemmas.{IsStateWritable-app_reply}
use Rattle.replies.proofs.rendering.render.Goals as goal

pub write_reply-requires : goal.write_reply-requires
write_reply-requires c =
    rw (c.new.ensures, c.in_ok-apps.ensures)
    (IsStateWritable-app_reply c.catalogue.result.now c.args.request.now.session c.args.mirrors.now (zip c.args.request.now.apps (zip (payloads_of c.args.plan.now.choices) c.args.outcomes.now)))
