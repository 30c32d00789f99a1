-- What the table says of its records; this project's profile.
use Rattle.std.specs.Prelude.{◌≡◌, ◌≢◌, ℕ, List, []}
use Rattle.kept_records.specs.declared.record.Record.{Record}
use Rattle.sqlite.specs.Tree.{Trees}
use Rattle.history.specs.Holdings.{Holds}

-- two lists of records that a database holds are one list, and its first number is one number unless it is empty
abbrev pub RecordsAreOne : Type 0
RecordsAreOne = (trees : Trees) (first other : ℕ) (kept others : List Record) → Holds trees first kept → Holds trees other others
    → (kept ≡ others) × (kept ≢ [] → first ≡ other)
