use Rattle.std.proofs.Common.{◌≡◌, drop, map}
use Rattle.std.specs.List.{list_any}
use Rattle.std.specs.Str.{bytes_eq}
use Rattle.advice.proofs.entries.has_word.Given as goal

abbrev pub invariant-loop-word : goal.invariant-loop-word
invariant-loop-word l =
    list_any (bytes_eq l.key) (map (λ word. word.now) l.words)
    ≡ list_any (bytes_eq l.key) (map (λ word. word.now) (drop l.word-index l.words))
