-- What each statement means, under the schema that it runs on.
use Rattle.std.proofs.Common.{◌≡◌, List, None, Ok, [], ◌∷◌, codes, false, negsuc, pos, refl, ℕ}
use Rattle.sqlite.proofs.Callers.{IsPlain, command_of, statement_of}
use Rattle.sqlite.specs.Command.TheVariants.{Begin, Commit, CreateTable, DropTable, Insert, Select}
use Rattle.sqlite.specs.Compile.{table_defined_by}
use Rattle.sqlite.specs.Listing.{reads_listing, understood}
use Rattle.sqlite.specs.Query.{Query, end, inner}
use Rattle.sqlite.specs.Schema.{Schema}
use Rattle.sqlite.specs.Source.TheVariants.{Values}
use Rattle.sqlite.specs.Term.{Term, col, lit}
use Rattle.sqlite.specs.declared.types.Value.TheVariants.{Int, Null}
use Rattle.sqlite_tied.specs.Compute.{everything}
use Rattle.history.specs.Tables.{empty_schema, history_schema, record_table}

abbrev pub create_text : List ℕ
create_text = codes "CREATE TABLE record (number INTEGER PRIMARY KEY, kind INTEGER NOT NULL, bytes BLOB NOT NULL) STRICT"

abbrev pub drop_text : List ℕ
drop_text = codes "DROP TABLE record"

abbrev pub insert_text : List ℕ
insert_text = codes "INSERT INTO record (number, kind, bytes) VALUES (?1, ?2, ?3)"

abbrev pub list_text : List ℕ
list_text = codes "SELECT number, kind, bytes FROM record"

abbrev pub probe_text : List ℕ
probe_text = codes "SELECT 1"

abbrev pub begin_text : List ℕ
begin_text = codes "BEGIN"

abbrev pub commit_text : List ℕ
commit_text = codes "COMMIT"

-- the values of an insert: the rowid, the key's place, the kind and the bytes
abbrev pub inserted : List Term
inserted = col 0 0 ∷ lit Null ∷ col 0 1 ∷ col 0 2 ∷ []

-- each row of the table, by three of its columns
abbrev pub listing : Query
listing = record {
  from = inner 0 end;
  filter = [];
  group = None;
  project = col 1 0 ∷ col 1 2 ∷ col 1 3 ∷ [];
  distinct = false;
  collations = [];
  order = [];
  limit = lit (Int (negsuc 0));
  offset = lit (Int (pos 0));
}

pub create_means : command_of (understood empty_schema create_text) ≡ CreateTable
unfolding understood everything
create_means = refl

pub create_statement : statement_of create_text (understood empty_schema create_text) ≡ create_text
unfolding understood everything
create_statement = refl

pub create_defines : table_defined_by create_text ≡ Ok record_table
unfolding understood everything
create_defines = refl

pub create_plain : IsPlain (understood empty_schema create_text)
unfolding understood everything
create_plain = (refl, refl)

pub drop_means : command_of (understood history_schema drop_text) ≡ DropTable 0
unfolding understood everything
drop_means = refl

pub drop_plain : IsPlain (understood history_schema drop_text)
unfolding understood everything
drop_plain = (refl, refl)

pub insert_means : command_of (understood history_schema insert_text) ≡ Insert 0 (Values inserted 4)
unfolding understood everything
insert_means = refl

pub insert_plain : IsPlain (understood history_schema insert_text)
unfolding understood everything
insert_plain = (refl, refl)

pub list_means : command_of (understood history_schema list_text)
    ≡ Select (record { lets = []; body = listing }) (codes "number" ∷ codes "kind" ∷ codes "bytes" ∷ [])
unfolding understood everything
list_means = refl

pub list_unlisted : reads_listing history_schema list_text ≡ false
unfolding understood everything
list_unlisted = refl

pub list_plain : IsPlain (understood history_schema list_text)
unfolding understood everything
list_plain = (refl, refl)

pub probe_plain : (any : Schema) → IsPlain (understood any probe_text)
unfolding understood everything
probe_plain any = (refl, refl)

pub begin_means : (any : Schema) → command_of (understood any begin_text) ≡ Begin
unfolding understood everything
begin_means any = refl

pub begin_plain : (any : Schema) → IsPlain (understood any begin_text)
unfolding understood everything
begin_plain any = (refl, refl)

pub commit_means : (any : Schema) → command_of (understood any commit_text) ≡ Commit
unfolding understood everything
commit_means any = refl

pub commit_plain : (any : Schema) → IsPlain (understood any commit_text)
unfolding understood everything
commit_plain any = (refl, refl)
