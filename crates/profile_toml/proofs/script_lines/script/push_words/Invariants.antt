use Rattle.std.proofs.Common.{◌≡◌, ◌++◌, take}
use Rattle.profile_toml.specs.Lines.{words_string}
use Rattle.profile_toml.proofs.script_lines.script.push_words.Given as goal

abbrev pub invariant-loop-word : goal.invariant-loop-word
invariant-loop-word l = l.text.items ≡ l.initial.text.items ++ words_string (take l.word-index l.words)
