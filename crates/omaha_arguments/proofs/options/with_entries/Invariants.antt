-- The command has the arguments of the entries so far.
use Rattle.std.proofs.Common.{take}
use Rattle.clap.specs.Words.{App}
use Rattle.omaha_arguments.specs.Options.{IsMade, with_entries}
use Rattle.omaha_arguments.proofs.options.with_entries.Given as goal

abbrev pub invariant-loop-entry : goal.invariant-loop-entry
invariant-loop-entry l =
    (app : App) → IsMade app l.fn.command.made → IsMade (with_entries app (take l.entry-index l.entries)) l.made.made
