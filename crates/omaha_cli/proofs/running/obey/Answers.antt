use Rattle.std.proofs.Common.{subst, sym}
use Rattle.omaha_arguments.specs.declared.command.Command.{Command}
use Rattle.omaha_cli.specs.Doing.{DoesBy}
use Rattle.profiles.specs.Streams.{Streams}
use Rattle.omaha_cli.specs.Worlds.{World}
use Rattle.omaha_cli.proofs.running.obey.Goals as goal

pub returns-in-Walk-clause-does : goal.returns-in-Walk-clause-does
returns-in-Walk-clause-does g c =
    let old : Streams = record { input = g.I.ReadWhole.input c.args.reader.now; output = g.W.WriteWhole.output c.args.writer.now } in
    let new : Streams = record { input = g.I.ReadWhole.input c.args.reader.now; output = g.W.WriteWhole.output c.walk_on.new.writer } in
    let world : World = record { files = g.R.Disk.file_at c.args.rt.now; storage = g.R.Folders.storage c.args.rt.now; stored = g.H.Stores.found c.args.stores.now; edges = g.S.System.edges c.args.system.now; replies = g.R.Connector.replies c.args.rt.now; operated = g.R.Connector.operated c.args.rt.now; endings = g.R.Connector.endings c.args.rt.now; sights = g.R.Looks.sights c.args.rt.now; output_seen = g.W.Watched.seen c.args.writer.now; errors_seen = g.F.Watched.seen c.args.errors.now } in
    let P : Command → Type 0 = λ command. DoesBy world c.args.task.now.manner command old new
    (g.F.WriteWhole.output c.args.errors.now) (g.F.WriteWhole.output c.args.errors.now) c.walk_on.result in
    subst P (sym c.in-Walk.is) (c.walk_on.ensures (g.I.ReadWhole.input c.args.reader.now))
