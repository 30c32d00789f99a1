-- How many calls of a device in memory failed.
use Rattle.std.specs.Prelude.{ℕ, ◌+◌}
use Rattle.http_memory.specs.declared.failures.Marks.{Marks, Clear, Marked'}

-- one more with each mark
abbrev pub count_of : Marks → ℕ
count_of Clear = 0
count_of (Marked' p before) = count_of before + 1
