use Rattle.std.proofs.Common.{Some, refl, subst, sym}
use Rattle.profiles.specs.Streams.{Streams}
use Rattle.omaha_cli.specs.Running.{EndsTask, IsLoggedBy}
use Rattle.omaha_cli.specs.Worlds.{World}
use Rattle.omaha_cli.specs.declared.running.Ending.{Ending}
use Rattle.omaha_cli.specs.declared.running.Task.{Task}
use Rattle.omaha_cli.proofs.EndingLemmas.{EndsTask-ending_of, IsLoggedBy-ending_of}
use Rattle.omaha_cli.proofs.running.carry_out_task.Goals as goal

pub returns-clause-logged : goal.returns-clause-logged
returns-clause-logged g c =
    let task : Task = record { command = c.args.invocation.command; manner = c.manner_of-manner.result } in
    subst (λ (e : Ending). IsLoggedBy (g.R.Connector.operated c.args.rt.now) (Some task) e (g.F.WriteWhole.output c.args.errors.now)
    (g.F.WriteWhole.output c.obey-done.new.errors)) (sym c.ending_of.ensures)
    (IsLoggedBy-ending_of (g.R.Connector.operated c.args.rt.now) task (g.F.WriteWhole.output c.args.errors.now)
    (g.F.WriteWhole.output c.obey-done.new.errors) c.obey-done.result c.obey-done.ensures.logs)

pub returns-clause-ends : goal.returns-clause-ends
returns-clause-ends g c =
    let old : Streams = record { input = g.I.ReadWhole.input c.args.reader.now; output = g.W.WriteWhole.output c.args.writer.now } in
    let new : Streams = record { input = g.I.ReadWhole.input c.obey-done.new.reader; output = g.W.WriteWhole.output c.obey-done.new.writer } in
    let world : World = record { files = g.R.Disk.file_at c.args.rt.now; storage = g.R.Folders.storage c.args.rt.now; stored = g.H.Stores.found c.args.stores.now; edges = g.S.System.edges c.args.system.now; replies = g.R.Connector.replies c.args.rt.now; operated = g.R.Connector.operated c.args.rt.now; endings = g.R.Connector.endings c.args.rt.now; sights = g.R.Looks.sights c.args.rt.now; output_seen = g.W.Watched.seen c.args.writer.now; errors_seen = g.F.Watched.seen c.args.errors.now } in
    let task : Task = record { command = c.args.invocation.command; manner = c.manner_of-manner.result } in
    let before = g.F.WriteWhole.output c.args.errors.now in
    let after = g.F.WriteWhole.output c.obey-done.new.errors in
    subst (λ (e : Ending). EndsTask world c.args.invocation (Some task) old new before after e) (sym c.ending_of.ensures)
    (EndsTask-ending_of world c.args.invocation task old new before after c.obey-done.result (refl, c.manner_of-manner.ensures)
    c.obey-done.ensures.does)
