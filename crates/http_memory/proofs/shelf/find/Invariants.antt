use Rattle.std.proofs.Common.{◌≡◌, drop}
use Rattle.http_memory.specs.Shelves.{find_in}
use Rattle.http_memory.proofs.shelf.find.Given as goal

abbrev pub invariant-loop-file : goal.invariant-loop-file
invariant-loop-file l = find_in (drop l.file-index l.files) l.name ≡ find_in l.files l.name
