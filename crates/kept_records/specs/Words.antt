-- What is kept of a message; this project's profile.
use Rattle.std.specs.Prelude.{ℕ, List, map, min, take}
use Rattle.kept_records.specs.Messages.{as_printable}
use Rattle.kept_records.specs.declared.words.Words.{Words}

-- the bytes that were kept, of which each prints
abbrev pub words_in : Words → List ℕ
words_in words = map as_printable (take (min words.count 60) words.bytes)
