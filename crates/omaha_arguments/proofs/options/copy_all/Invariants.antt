-- The copies so far are those of the first strings.
use Rattle.std.proofs.Common.{◌≡◌, map, take}
use Rattle.omaha_arguments.proofs.options.copy_all.Given as goal

abbrev pub invariant-loop-text : goal.invariant-loop-text
invariant-loop-text l = l.copies ≡ map (λ text. text.now) (take l.text-index l.texts)
