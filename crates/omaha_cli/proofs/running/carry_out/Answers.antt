use Rattle.std.proofs.Common.{map, string_bytes}
use Rattle.profiles.specs.Streams.{Streams}
use Rattle.omaha_cli.specs.Worlds.{World}
use Rattle.omaha_cli.proofs.EndingLemmas.{Ends-with_task, Ends-without_command, EndsTask-no_mistake}
use Rattle.omaha_cli.proofs.running.carry_out.Goals as goal

pub returns-in-Ok-clause-ends : goal.returns-in-Ok-clause-ends
returns-in-Ok-clause-ends g c =
    let old : Streams = record { input = g.I.ReadWhole.input c.args.reader.now; output = g.W.WriteWhole.output c.args.writer.now } in
    let new : Streams = record { input = g.I.ReadWhole.input c.carry_out_task.new.reader; output = g.W.WriteWhole.output c.carry_out_task.new.writer } in
    let world : World = record { files = g.R.Disk.file_at c.args.rt.now; storage = g.R.Folders.storage c.args.rt.now; stored = g.H.Stores.found c.args.stores.now; edges = g.S.System.edges c.args.system.now; replies = g.R.Connector.replies c.args.rt.now; operated = g.R.Connector.operated c.args.rt.now; endings = g.R.Connector.endings c.args.rt.now; sights = g.R.Looks.sights c.args.rt.now; output_seen = g.W.Watched.seen c.args.writer.now; errors_seen = g.F.Watched.seen c.args.errors.now } in
    Ends-with_task world (map string_bytes c.args.arguments.now) c.in-Ok.invocation c.carry_out_task.result.task old new
    (g.F.WriteWhole.output c.args.errors.now) (g.F.WriteWhole.output c.carry_out_task.new.errors)
    c.carry_out_task.result.ending c.in-Ok.ensures.invocation.0 c.in-Ok.ensures.invocation.1 c.carry_out_task.ensures.ends

pub returns-in-Ok-clause-untouched : goal.returns-in-Ok-clause-untouched
returns-in-Ok-clause-untouched g c mistaken =
    let old : Streams = record { input = g.I.ReadWhole.input c.args.reader.now; output = g.W.WriteWhole.output c.args.writer.now } in
    let new : Streams = record { input = g.I.ReadWhole.input c.carry_out_task.new.reader; output = g.W.WriteWhole.output c.carry_out_task.new.writer } in
    let world : World = record { files = g.R.Disk.file_at c.args.rt.now; storage = g.R.Folders.storage c.args.rt.now; stored = g.H.Stores.found c.args.stores.now; edges = g.S.System.edges c.args.system.now; replies = g.R.Connector.replies c.args.rt.now; operated = g.R.Connector.operated c.args.rt.now; endings = g.R.Connector.endings c.args.rt.now; sights = g.R.Looks.sights c.args.rt.now; output_seen = g.W.Watched.seen c.args.writer.now; errors_seen = g.F.Watched.seen c.args.errors.now } in
    EndsTask-no_mistake world c.in-Ok.invocation c.carry_out_task.result.task old new
    (g.F.WriteWhole.output c.args.errors.now) (g.F.WriteWhole.output c.carry_out_task.new.errors) c.carry_out_task.result.ending
    c.carry_out_task.ensures.ends mistaken

pub returns-in-Err-clause-ends : goal.returns-in-Err-clause-ends
returns-in-Err-clause-ends g c =
    let world : World = record { files = g.R.Disk.file_at c.args.rt.now; storage = g.R.Folders.storage c.args.rt.now; stored = g.H.Stores.found c.args.stores.now; edges = g.S.System.edges c.args.system.now; replies = g.R.Connector.replies c.args.rt.now; operated = g.R.Connector.operated c.args.rt.now; endings = g.R.Connector.endings c.args.rt.now; sights = g.R.Looks.sights c.args.rt.now; output_seen = g.W.Watched.seen c.args.writer.now; errors_seen = g.F.Watched.seen c.args.errors.now } in
    Ends-without_command world (map string_bytes c.args.arguments.now) (g.I.ReadWhole.input c.args.reader.now)
    (g.W.WriteWhole.output c.args.writer.now) (g.W.WriteWhole.output c.end_without_command.new.writer)
    (g.F.WriteWhole.output c.args.errors.now) (g.F.WriteWhole.output c.args.errors.now) c.in-Err.error c.end_without_command.result
    c.in-Err.ensures.error c.end_without_command.ensures.ends
