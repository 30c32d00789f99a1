use Rattle.std.proofs.Common.{◌∙◌, ◌||◌, sym}
use Rattle.access_logs.proofs.LogLemmas.{LogsAt-one}
use Rattle.access_logs.proofs.port_log.log_reply.Goals as goal

pub returns-then-is_replied-clause-logs : goal.returns-then-is_replied-clause-logs
returns-then-is_replied-clause-logs c = λ slot piece saw.
    LogsAt-one slot piece (c.args.seen.now.message.is_short || c.args.seen.now.reply.is_short) c.args.lines.now
    c.send_line.new.lines
    (sym (c.is_replied.ensures piece saw) ∙ c.if-is_replied.true)
    (c.send_line.ensures.logs slot piece saw)
