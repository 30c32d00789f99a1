-- The table of records, as SQLite's schema has it, and its rows; this project's profile.
use Rattle.std.specs.Prelude.{◌+◌, ◌∷◌, [], Bool, true, false, List, Some, codes, neg_ℤ, negsuc, pos, ℕ, ℤ}
use Rattle.kept_records.specs.Keeping.{number_of}
use Rattle.kept_records.specs.declared.record.Record.{Record}
use Rattle.sqlite.specs.Collation.TheVariants.{Binary}
use Rattle.sqlite.specs.Kind.TheVariants.{Blob, Integer}
use Rattle.sqlite.specs.Order.{Row, column}
use Rattle.sqlite.specs.Schema.{Schema}
use Rattle.sqlite.specs.Table.{Table}
use Rattle.sqlite.specs.declared.types.Value.TheVariants as value
use Rattle.sqlite.specs.declared.types.Value.{Value}
use Rattle.sqlite_schema.specs.declared.schema.Column.{Column}
use Rattle.sqlite_schema.specs.declared.schema.Kind.{Kind}

-- a column of a strict table, with no default
abbrev pub strict_column : List ℕ → Kind → Bool → Column
strict_column name kind not_null = record {
  name = name;
  kind = kind;
  is_strict = true;
  not_null = not_null;
  default = value.Null;
  collation = Binary;
}

-- the number, which is the key; the kind; the bytes
abbrev pub record_columns : List Column
record_columns =
    strict_column (codes "number") Integer false
    ∷ strict_column (codes "kind") Integer true
    ∷ strict_column (codes "bytes") Blob true ∷ []

-- the first tree of the database, with no index, rule or default
abbrev pub record_table : Table
record_table = record {
  name = codes "record";
  tree = 0;
  columns = record_columns;
  key = Some 0;
  primary = 0 ∷ [];
  uniques = [];
  orders = [];
  checks = [];
  references = [];
  computed = [];
  stamps = record { places = []; terms = []; formats = [] };
  is_counted = false;
}

-- the table without an index, a rule, a default or a count
abbrev pub without_rules : Table → Table
without_rules table = record table {
  uniques = [];
  orders = [];
  checks = [];
  references = [];
  computed = [];
  stamps = record { places = []; terms = []; formats = [] };
  is_counted = false;
}

-- rule: Schema of a history
-- the schema has the table of records, and nothing else
abbrev pub history_schema : Schema
history_schema = record { tables = record_table ∷ []; indexes = []; views = [] }

-- the schema of an empty database
abbrev pub empty_schema : Schema
empty_schema = record { tables = []; indexes = []; views = [] }

-- a record with its number, as a query shows it
abbrev pub entry_of : ℕ → Record → Row
entry_of number kept =
    value.Int (pos number) ∷ value.Int (pos (number_of kept.kind)) ∷ value.Blob kept.bytes ∷ []

-- the records with their numbers, from the first one's on
abbrev pub entries_from : ℕ → List Record → List Row
entries_from first [] = []
entries_from first (kept ∷ more) = entry_of first kept ∷ entries_from (first + 1) more

-- a key, a kind and bytes, as the table stores them: a key that is a rowid is stored before the columns alone
abbrev pub stored_cells : ℤ → ℕ → List ℕ → Row
stored_cells key kind bytes = value.Int key ∷ value.Null ∷ value.Int (pos kind) ∷ value.Blob bytes ∷ []

-- a record with its number, as the table stores it
abbrev pub stored_row : ℕ → Record → Row
stored_row number kept = stored_cells (pos number) (number_of kept.kind) kept.bytes

-- the key of a record's checksum: its number below 0
abbrev pub checksum_key : ℕ → ℤ
checksum_key number = neg_ℤ (pos number)

-- the checksum of the record of a number, as a query shows it, with no kind
abbrev pub checksum_row : ℕ → List ℕ → Row
checksum_row number sum = value.Int (checksum_key number) ∷ value.Int (pos 0) ∷ value.Blob sum ∷ []

-- the value is a number below 0
abbrev pub is_negative : Value → Bool
is_negative (value.Int (negsuc below)) = true
is_negative other = false

-- the row is that of a checksum, and of no record: its key is below 0
abbrev pub is_checksum : Row → Bool
is_checksum cells = is_negative (column cells 0)

-- the number, the kind and the bytes of a stored row
abbrev pub shown_row : Row → Row
shown_row cells = column cells 0 ∷ column cells 2 ∷ column cells 3 ∷ []
