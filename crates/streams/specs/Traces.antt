-- The entries of a trace; this project's profile.
use Rattle.std.specs.Prelude.{List, [], ◌∷◌, ◌++◌}
use Rattle.streams.specs.declared.trace.Entries.{Entries, Empty, Recorded'}

-- rule: Entries of a trace
-- the entries in order, the first one first
abbrev pub entries_of : {T : Type 0} → Entries T → List T
entries_of Empty = []
entries_of (Recorded' entry p before) = entries_of before ++ entry.value ∷ []
