-- What each statement does to the database, and what it leaves if it fails.
use Rattle.std.proofs.Common.{◌≡◌, ◌⊎◌, ◌∙◌, Bool, Err, List, None, Ok, Option, Result, [], ◌∷◌, ap, append-nil, arith, cond, false, inl, inr, is_ok, map, pos, refl, subst, subst₂, sym, true, ℕ, ℤ, flat_map}
use Rattle.std.proofs.lemmas.Bool.{cases_Bool}
use Rattle.std.proofs.lemmas.List.Sorted.{IsPermutation-map}
use Rattle.std.specs.List.Sorted.{IsPermutation}
use Rattle.std.specs.Prelude.{OnErr, OnOk}
use Rattle.sqlite.proofs.Callers.{IsPlain, command_of, one_step, reads_as, runs_as, statement_of}
use Rattle.sqlite.specs.Cast.{cast}
use Rattle.sqlite.specs.Change.{created, next_tree}
use Rattle.sqlite.specs.Clock.{timed}
use Rattle.sqlite.specs.Command.TheVariants.{Begin, Commit, CreateTable, DropTable, Insert}
use Rattle.sqlite.specs.Does.{Does, Tally, lacks_sequence}
use Rattle.sqlite.specs.Edit.{edit_of, edited}
use Rattle.sqlite.specs.Effect.{Database}
use Rattle.sqlite.specs.Kind.TheVariants.{Integer}
use Rattle.sqlite.specs.Listing.{understood}
use Rattle.sqlite.specs.Ops.{unary}
use Rattle.sqlite.specs.Order.{Row}
use Rattle.sqlite.specs.Program.{overlay}
use Rattle.sqlite.specs.Rowids.TheVariants.{Chosen}
use Rattle.sqlite.specs.Rows.{Written}
use Rattle.sqlite.specs.Schema.{Schema}
use Rattle.sqlite.specs.Source.TheVariants.{Values}
use Rattle.sqlite.specs.State.{CommitsBy, Executes, ExecutesIn, HasCleanDisk, IsNotRun, IsUnchanged, MayCommit, QueriesRow, Shown, Shows, ShowsRows, State, Survives, Writes, mode_of, shows_rows, text_of}
use Rattle.sqlite.specs.Term.{Env}
use Rattle.sqlite.specs.Tree.{Trees}
use Rattle.sqlite.specs.declared.error.Error.{Error}
use Rattle.sqlite.specs.declared.run.Mode.{Mode}
use Rattle.sqlite.specs.declared.types.Value.TheVariants.{Blob, Int, Null}
use Rattle.sqlite.specs.declared.types.Value.{Value}
use Rattle.sqlite_schema.specs.declared.command.Command.{Command}
use Rattle.sqlite_sql.specs.Query.{IsAnswer, Output, output}
use Rattle.sqlite_trees.specs.Tree.{put_row}
use Rattle.history.proofs.Texts.{begin_means, begin_plain, begin_text, commit_means, commit_plain, commit_text, create_defines, create_means, create_plain, create_statement, create_text, drop_means, drop_plain, drop_text, insert_means, insert_plain, insert_text, inserted, list_means, list_plain, list_text, list_unlisted, listing}
use Rattle.history.specs.Holdings.{CrashLeaves, IsAsBefore, Leads}
use Rattle.history.specs.Tables.{empty_schema, history_schema, record_table, shown_row, stored_cells}

-- a part of a statement that came to a value went on to the next part
pub went_on : {A B R : Type 0} {value : A} {Stops : B → Type 0}
    → ((stop : B) × Stops stop × (Ok value ≡ Err stop)) ⊎ R → R
went_on (inl stopped) = absurd (let is = stopped.2 in cc)
went_on (inr on) = on

pub value_of_Ok : {A B : Type 0} {a b : A} → ◌≡◌ {A = Result A B} (Ok a) (Ok b) → a ≡ b
value_of_Ok is = cc

-- the database that a statement came to
database_of : {a b : Tally × Database} {E : Type 0} → ◌≡◌ {A = Result (Tally × Database) E} (Ok a) (Ok b) → a.1 ≡ b.1
database_of is = ap (λ (it : Tally × Database). it.1) (value_of_Ok is)

-- a plain statement commits as its one command does
pub commits_as : (sql : List ℕ) (params : Row) (s : State) (schema : Schema) (command : Command) (db : Trees)
    → s.now.schema ≡ schema → command_of (understood schema sql) ≡ command → IsPlain (understood schema sql)
    → CommitsBy sql params s db
    → MayCommit s None command (statement_of sql (understood schema sql)) params db
unfolding CommitsBy
commits_as sql params s schema command db has means plain commits =
    let compiled = commits.0 in
    let known = sym commits.1.is ∙ ap (λ any. understood any sql) has in
    let bare = subst IsPlain (sym known) plain in
    let may : MayCommit s compiled.returning compiled.command (text_of sql compiled) params db =
    rw (bare.1, append-nil params) at commits.2 in
    subst₂ (λ which text. MayCommit s None which text params db) (ap command_of known ∙ means) (ap (statement_of sql) known)
    (rw bare.0 at may)

-- what a crash leaves, by what a statement may commit
pub Survives-leaves : (old new : State) (P Q : Trees → Type 0) → (HasCleanDisk old → (db : Trees) → P db → Q db)
    → Survives old new P → CrashLeaves old new Q
Survives-leaves old new P Q then survives = record {
  clean = λ clean. omega (arith, clean, survives.clean);
  crash = λ clean db may. elim (survives.crash clean db may) [
    | inl was ↦ inl was
    | inr made ↦ inr (then (omega (arith, clean, survives.clean)) db made)
  ];
}

-- CREATE TABLE
create_makes : (limit : Option ℕ) (mode : Mode) (db after : Database) (tally : Tally) → db.schema ≡ empty_schema
    → Does limit mode [] db create_text None CreateTable (Ok (tally, after))
    → (after.schema ≡ history_schema) × (after.trees 0 ≡ [])
create_makes limit mode db after tally has does =
    let defined = went_on does in
    let first = went_on defined.1 in
    let made = first.1 in
    let both : Ok made.table ≡ Ok record_table = sym made.defined ∙ create_defines in
    let table : made.table ≡ record_table = cc in
    let schema : first.0.schema ≡ history_schema = made.is ∙ ap (λ s. created s made.table) has ∙ ap (created empty_schema) table in
    let uncounted : lacks_sequence first.0.schema ≡ false = ap lacks_sequence schema in
    let now : after ≡ first.0 = database_of defined.2 ∙ value_of_Ok (rw uncounted at first.2) in (
      ap (λ (it : Database). it.schema) now ∙ schema,
      ap (λ (it : Database). it.trees 0) now ∙ subst (λ s. first.0.trees (next_tree s) ≡ []) has made.empty,
    )

pub created_by : (old new : State) (result : Result ℕ Error) → old.now.schema ≡ empty_schema → Executes create_text [] old new result
    → OnOk result (Leads old new history_schema × (new.now.trees 0 ≡ []))
created_by old new (Err e) has executes = tt
created_by old new (Ok count) has executes =
    let ran = subst (λ text. Writes old new None CreateTable text [] count) create_statement
    (runs_as create_text [] old new empty_schema has CreateTable create_means create_plain count executes) in
    let made = create_makes old.step_limit (mode_of old) old.now new.now ran.tally has ran.changed in
    (record { schema = made.0; shown = ran.shown }, made.1)

pub create_commits : (old : State) (db : Trees) → old.now.schema ≡ empty_schema → CommitsBy create_text [] old db
    → (old.in_transaction ≡ false) × (db 0 ≡ [])
create_commits old db has commits =
    written (subst (λ text. MayCommit old None CreateTable text [] db) create_statement
    (commits_as create_text [] old empty_schema CreateTable db has create_means create_plain commits))
  where
    written : MayCommit old None CreateTable create_text [] db → (old.in_transaction ≡ false) × (db 0 ≡ [])
    written (inl (inl commit, same)) = absurd cc
    written (inl (inr release, same)) = absurd (let is = release.2 in cc)
    written (inr wrote) = (
      wrote.0,
      ap (λ (trees : Trees). trees 0) wrote.5 ∙ (create_makes old.step_limit (mode_of old) old.now wrote.2 wrote.1 has wrote.3).1,
    )

-- DROP TABLE
drop_makes : (limit : Option ℕ) (mode : Mode) (db after : Database) (text : List ℕ) (tally : Tally) → db.schema ≡ history_schema
    → Does limit mode [] db text None (DropTable 0) (Ok (tally, after)) → after.schema ≡ empty_schema
drop_makes limit mode db after text tally has does =
    let emptied = went_on (subst (λ s. Does limit mode [] (record db { schema = s }) text None (DropTable 0) (Ok (tally, after))) has does) in
    let uncounted = went_on emptied.2 in
    let tested = went_on uncounted.2 in
    let left = went_on tested.2 in
    ap (λ (it : Database). it.schema) (database_of left.2) ∙ left.1.0

pub dropped_by : (old new : State) (result : Result ℕ Error) → old.now.schema ≡ history_schema → Executes drop_text [] old new result
    → OnOk result (Leads old new empty_schema)
dropped_by old new (Err e) has executes = tt
dropped_by old new (Ok count) has executes =
    let ran = runs_as drop_text [] old new history_schema has (DropTable 0) drop_means drop_plain count executes in
    record {
      schema = drop_makes old.step_limit (mode_of old) old.now new.now (statement_of drop_text (understood history_schema drop_text)) ran.tally has ran.changed;
      shown = ran.shown;
    }

pub drop_commits : (old : State) (db : Trees) → old.now.schema ≡ history_schema → CommitsBy drop_text [] old db → old.in_transaction ≡ false
drop_commits old db has commits = written (commits_as drop_text [] old history_schema (DropTable 0) db has drop_means drop_plain commits)
  where
    written : MayCommit old None (DropTable 0) (statement_of drop_text (understood history_schema drop_text)) [] db → old.in_transaction ≡ false
    written (inl (inl commit, same)) = absurd cc
    written (inl (inr release, same)) = absurd (let is = release.2 in cc)
    written (inr wrote) = wrote.0

-- INSERT
abbrev insert_command : Command
insert_command = Insert 0 (Values inserted 4)

-- the parameters of an insert
abbrev pub given_of : ℤ → ℕ → List ℕ → Row
given_of key kind bytes = Int key ∷ Int (pos kind) ∷ Blob bytes ∷ []

cond-same : (b : Bool) (value : Value) → cond b value value ≡ value
cond-same true value = refl
cond-same false value = refl

cast-Int : (n : ℤ) → cast Integer (Int n) ≡ Int n
unfolding unary
cast-Int n = cond-same _ (Int n)

cast-Null : cast Integer Null ≡ Null
unfolding unary
cast-Null = cond-same _ Null

insert_makes : (limit : Option ℕ) (mode : Mode) (db after : Database) (text : List ℕ) (tally : Tally) (key : ℤ) (kind : ℕ) (bytes : List ℕ)
    → db.schema ≡ history_schema → Does limit mode (given_of key kind bytes) db text None insert_command (Ok (tally, after))
    → (after.schema ≡ history_schema) × (after.trees 0 ≡ put_row (stored_cells key kind bytes) (db.trees 0))
insert_makes limit mode db after text tally key kind bytes has does =
    let old = db.trees in
    let row = stored_cells key kind bytes in
    let done = went_on (subst (λ s. Does limit mode (given_of key kind bytes) (record db { schema = s }) text None insert_command (Ok (tally, after))) has does) in
    let now = database_of (went_on (went_on done.2).2).2 in
    let sourced = went_on done.1 in
    let wrote = went_on (went_on sourced.2).2 in
    let counted = went_on wrote.2 in
    let edit = edit_of old record_table [] Chosen 0 sourced.0 in
    let trees : done.0.trees ≡ wrote.0 = ap (λ (it : Written). it.trees) (value_of_Ok counted.2) ∙ value_of_Ok counted.1 in
    let applied = (one_step history_schema _ old wrote.0 edit refl wrote.1).rows in
    let put : edited old edit ≡ put_row row (old 0) =
    ap (λ rows. edited old (edit_of old record_table [] Chosen 0 rows)) sourced.1.1 ∙ rw (cast-Int key, cast-Null, cast-Int (pos kind)) in (
      ap (λ (it : Database). it.schema) now,
      ap (λ (it : Database). it.trees 0) now ∙ ap (λ (it : Trees). it 0) trees ∙ applied ∙ put,
    )

pub inserted_by : (old new : State) (key : ℤ) (kind : ℕ) (bytes : List ℕ) (result : Result ℕ Error) → old.now.schema ≡ history_schema
    → Executes insert_text (given_of key kind bytes) old new result
    → OnOk result (Leads old new history_schema × (new.now.trees 0 ≡ put_row (stored_cells key kind bytes) (old.now.trees 0)))
inserted_by old new key kind bytes (Err e) has executes = tt
inserted_by old new key kind bytes (Ok count) has executes =
    let ran = runs_as insert_text (given_of key kind bytes) old new history_schema has insert_command insert_means insert_plain count executes in
    let made = insert_makes old.step_limit (mode_of old) old.now new.now (statement_of insert_text (understood history_schema insert_text)) ran.tally key kind bytes has ran.changed in
    (record { schema = made.0; shown = ran.shown }, made.1)

pub insert_commits : (old : State) (key : ℤ) (kind : ℕ) (bytes : List ℕ) (db : Trees) → old.now.schema ≡ history_schema
    → CommitsBy insert_text (given_of key kind bytes) old db
    → (old.in_transaction ≡ false) × (db 0 ≡ put_row (stored_cells key kind bytes) (old.now.trees 0))
insert_commits old key kind bytes db has commits =
    written (commits_as insert_text (given_of key kind bytes) old history_schema insert_command db has insert_means insert_plain commits)
  where
    written : MayCommit old None insert_command (statement_of insert_text (understood history_schema insert_text)) (given_of key kind bytes) db
        → (old.in_transaction ≡ false) × (db 0 ≡ put_row (stored_cells key kind bytes) (old.now.trees 0))
    written (inl (inl commit, same)) = absurd cc
    written (inl (inr release, same)) = absurd (let is = release.2 in cc)
    written (inr wrote) = (
      wrote.0,
      ap (λ (trees : Trees). trees 0) wrote.5
          ∙ (insert_makes old.step_limit (mode_of old) old.now wrote.2 (statement_of insert_text (understood history_schema insert_text)) wrote.1 key kind bytes has wrote.3).1,
    )

-- BEGIN and COMMIT
pub begun_by : (old new : State) (result : Result ℕ Error) → Executes begin_text [] old new result
    → OnOk result (Shows old new old.now old.committed true)
begun_by old new (Err e) executes = tt
begun_by old new (Ok count) executes =
    (runs_as begin_text [] old new old.now.schema refl Begin (begin_means old.now.schema) (begin_plain old.now.schema) count executes).1

pub begin_commits : (old : State) (db : Trees) → CommitsBy begin_text [] old db → ⊥
begin_commits old db commits =
    written (commits_as begin_text [] old old.now.schema Begin db refl (begin_means old.now.schema) (begin_plain old.now.schema) commits)
  where
    written : MayCommit old None Begin (statement_of begin_text (understood old.now.schema begin_text)) [] db → ⊥
    written (inl (inl commit, same)) = absurd cc
    written (inl (inr release, same)) = absurd (let is = release.2 in cc)
    written (inr wrote) = absurd (let is = wrote.3 in cc)

pub committed_by : (old new : State) (result : Result ℕ Error) → Executes commit_text [] old new result
    → OnOk result (Shows old new old.now old.now false)
committed_by old new (Err e) executes = tt
committed_by old new (Ok count) executes =
    (runs_as commit_text [] old new old.now.schema refl Commit (commit_means old.now.schema) (commit_plain old.now.schema) count executes).1

pub commit_commits : (old : State) (db : Trees) → CommitsBy commit_text [] old db → db ≡ old.now.trees
commit_commits old db commits =
    written (commits_as commit_text [] old old.now.schema Commit db refl (commit_means old.now.schema) (commit_plain old.now.schema) commits)
  where
    written : MayCommit old None Commit (statement_of commit_text (understood old.now.schema commit_text)) [] db → db ≡ old.now.trees
    written (inl ended) = ended.1
    written (inr wrote) = absurd (let is = wrote.3 in cc)

-- a statement that failed
failed_as : (sql : List ℕ) (params : Row) (old new : State) (e : Error) → Executes sql params old new (Err e) → IsAsBefore old new
unfolding ExecutesIn IsNotRun
failed_as sql params old new e (inl (inl refused)) = inl refused.1
failed_as sql params old new e (inl (inr failed)) = inr failed.3
failed_as sql params old new e (inr ran) = elim (cases_Bool (shows_rows false ran.0)) [
  | inl shows ↦ let alone = rw shows at ran.2 in inl alone.1
  | inr runs ↦ let alone = rw runs at ran.2 in elim alone [ inl refused ↦ inl refused.1 | inr failed ↦ inr failed.3 ]
]

pub failed_by : (sql : List ℕ) (params : Row) (old new : State) (result : Result ℕ Error) → Executes sql params old new result
    → OnErr result (IsAsBefore old new)
failed_by sql params old new (Ok count) executes = tt
failed_by sql params old new (Err e) executes = failed_as sql params old new e executes

-- a query without RETURNING changes nothing
pub shown_unchanged : (sql : List ℕ) (params : Row) (old new : State) (rows : List Row) → IsPlain (understood old.now.schema sql)
    → Shown sql params old new rows → IsUnchanged old new
unfolding Shown
shown_unchanged sql params old new rows plain shown =
    (subst (ShowsRows old new sql shown.0 (timed params shown.0.formats shown.1.now) rows) (subst IsPlain shown.1.is plain).0 shown.2).3

pub row_unchanged : (sql : List ℕ) (params : Row) (old new : State) (result : Result Row Error) → IsPlain (understood old.now.schema sql)
    → QueriesRow sql params old new result → OnOk result (IsUnchanged old new)
unfolding QueriesRow
row_unchanged sql params old new (Err e) plain queries = tt
row_unchanged sql params old new (Ok row) plain (inl begins) = begins.1
row_unchanged sql params old new (Ok row) plain (inr shown) = shown_unchanged sql params old new shown.0 plain shown.1

-- the listing
every_row : (rows : List Row) → flat_map (λ (row : Row). (let env : Env = [] ∷ row ∷ [] in env) ∷ []) rows ≡ map (λ row. [] ∷ row ∷ []) rows
every_row [] = refl
every_row (row ∷ more) = ap (λ envs. ([] ∷ row ∷ []) ∷ envs) (every_row more)

shown_rows : (rows : List Row) → map (λ (it : Output). it.1) (map (output listing) (map (λ row. [] ∷ row ∷ []) rows)) ≡ map shown_row rows
shown_rows [] = refl
shown_rows (row ∷ more) = ap (λ all. shown_row row ∷ all) (shown_rows more)

pub listed_rows : (old new : State) (rows : List Row) → old.now.schema ≡ history_schema → Shown list_text [] old new rows
    → IsPermutation (map shown_row (old.now.trees 0)) rows
listed_rows old new rows has shown =
    let got = reads_as list_text [] old new history_schema has _ list_means list_plain list_unlisted rows shown in
    let answer : IsAnswer listing (overlay old.now.trees []) [] rows = got.answer Null in
    let kept : answer.kept ≡ map (output listing) (map (λ row. [] ∷ row ∷ []) (old.now.trees 0)) =
    answer.distinct ∙ ap (map (output listing)) (answer.grouped ∙ every_row (old.now.trees 0)) in
    let second = λ (it : Output). it.1 in
    subst₂ IsPermutation (ap (map second) kept ∙ shown_rows (old.now.trees 0)) (sym answer.shown)
    (IsPermutation-map second answer.kept answer.ordered answer.same)

-- what is so of a result that is a value
pub when_ok : {A B : Type 0} (result : Result A B) (P : Type 0) → OnOk result P → is_ok result ≡ true → P
when_ok (Ok value) P holds found = holds
when_ok (Err e) P holds found = absurd (let is = found in cc)
