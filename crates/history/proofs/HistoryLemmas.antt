-- What statements make of a history, and what a crash leaves of it.
use Rattle.std.proofs.Common.{◌≡◌, ◌∙◌, ◌+◌, ◌++◌, List, [], ◌∷◌, ap, arith, false, inl, inr, length, map, subst, sym, ℕ}
use Rattle.std.proofs.lemmas.List.Sums.{sum_by-append}
use Rattle.std.specs.List.Sorted.{IsPermutation}
use Rattle.kept_records.specs.Keeping.{bytes_in}
use Rattle.kept_records.specs.declared.record.Record.{Record}
use Rattle.sqlite.specs.Effect.{Database}
use Rattle.sqlite.specs.Order.{Row}
use Rattle.sqlite.specs.State.{HasCleanDisk, IsUnchanged, Opens, Shows, State}
use Rattle.sqlite.specs.Tree.{Trees}
use Rattle.history.proofs.RowLemmas.{Holds-append, Holds-read}
use Rattle.history.specs.Holdings.{CrashLeaves, Holds, IsHistory, IsInside, Keeps, Leads, LeavesEither}
use Rattle.history.specs.Openings.{IsRead}
use Rattle.history.specs.Tables.{history_schema, shown_row, stored_row}

-- an open store leaves its last commit alone
abbrev pub IsSettled : State → Type 0
IsSettled s = (db : Trees) → s.may_leave db → db ≡ s.committed.trees

-- a statement outside a transaction left these records
pub history_of : (old new : State) (first : ℕ) (kept : List Record) → old.in_transaction ≡ false → Leads old new history_schema
    → Holds new.now.trees first kept → IsHistory new first kept
history_of old new first kept outside leads holds =
    let shown = rw outside at leads.shown in
    record { is_open = shown.is_open; schema = leads.schema; holds = holds; committed = shown.committed_is; autocommit = shown.mode }

-- one more record was added
pub history_appended : (old new : State) (first : ℕ) (kept : List Record) (last : Record) → IsHistory old first kept → Leads old new history_schema
    → new.now.trees 0 ≡ old.now.trees 0 ++ stored_row (first + length kept) last ∷ [] → IsHistory new first (kept ++ last ∷ [])
history_appended old new first kept last is leads added =
    history_of old new first (kept ++ last ∷ []) is.autocommit leads
    (Holds-append old.now.trees new.now.trees first kept last is.holds added)

-- what a history holds is committed
pub history_holds : (s : State) (first : ℕ) (kept : List Record) → IsHistory s first kept → Holds s.committed.trees first kept
history_holds s first kept is = subst (λ (it : Database). Holds it.trees first kept) (sym is.committed) is.holds

pub history_keeps : (s : State) (first : ℕ) (kept : List Record) → IsHistory s first kept → IsSettled s → Keeps s first kept
history_keeps s first kept is settled = record {
  committed = history_holds s first kept is;
  crash = λ db may. subst (λ trees. Holds trees first kept) (sym (settled db may)) (history_holds s first kept is);
}

-- one call after another
pub CrashLeaves-then : (a b c : State) (P Q R : Trees → Type 0) → CrashLeaves a b P → CrashLeaves b c Q
    → (HasCleanDisk b → (db : Trees) → P db → R db) → (HasCleanDisk b → (db : Trees) → Q db → R db) → CrashLeaves a c R
CrashLeaves-then a b c P Q R one two early late = record {
  clean = λ clean. one.clean (two.clean clean);
  crash = λ clean db may. elim (two.crash clean db may) [
    | inl before ↦ elim (one.crash (two.clean clean) db before) [
      | inl was ↦ inl was
      | inr made ↦ inr (early (two.clean clean) db made)
    ]
    | inr made ↦ inr (late (two.clean clean) db made)
  ];
}

pub CrashLeaves-weaker : (a b : State) (P Q : Trees → Type 0) → (HasCleanDisk a → (db : Trees) → P db → Q db) → CrashLeaves a b P → CrashLeaves a b Q
CrashLeaves-weaker a b P Q leads leaves = record {
  clean = leaves.clean;
  crash = λ clean db may. elim (leaves.crash clean db may) [
    | inl was ↦ inl was
    | inr made ↦ inr (leads (leaves.clean clean) db made)
  ];
}

-- a call that commits nothing, after another one
pub CrashLeaves-after : (a b c : State) (P : Trees → Type 0) → CrashLeaves a b P → CrashLeaves b c (λ _. ⊥) → CrashLeaves a c P
CrashLeaves-after a b c P one two = CrashLeaves-then a b c P (λ _. ⊥) P one two (λ _ db made. made) (λ _ db made. absurd made)

-- a crash leaves the records as they were, or those that the call commits
pub leaves_either : (old new : State) (first : ℕ) (kept : List Record) (number : ℕ) (others : List Record) (P : Trees → Type 0)
    → HasCleanDisk new → IsHistory old first kept → IsSettled old → ((db : Trees) → P db → Holds db number others)
    → CrashLeaves old new P → LeavesEither new first kept number others
leaves_either old new first kept number others P clean is settled holds leaves db may = elim (leaves.crash clean db may) [
  | inl was ↦ inl (subst (λ trees. Holds trees first kept) (sym (settled db was)) (history_holds old first kept is))
  | inr made ↦ inr (holds db made)
]

-- a crash within an append
pub append_leaves : (old new : State) (first len : ℕ) (kept : List Record) (last : Record) → HasCleanDisk new → len ≡ length kept
    → IsHistory old first kept → IsSettled old
    → CrashLeaves old new (λ db. (old.in_transaction ≡ false) × (db 0 ≡ old.now.trees 0 ++ stored_row (first + len) last ∷ []))
    → LeavesEither new first kept first (kept ++ last ∷ [])
append_leaves old new first len kept last clean counted is settled leaves =
    leaves_either old new first kept first (kept ++ last ∷ []) _ clean is settled
    (λ db made. Holds-append old.now.trees db first kept last is.holds
    (made.1 ∙ ap (λ n. old.now.trees 0 ++ stored_row (first + n) last ∷ []) counted))
    leaves

pub bytes_in-append : (kept : List Record) (last : Record) → bytes_in (kept ++ last ∷ []) ≡ bytes_in kept + length last.bytes
bytes_in-append kept last = sum_by-append (λ (it : Record). length it.bytes) kept (last ∷ []) ∙ omega arith

-- a crash within the checksum after an append
pub sealed_leaves : (old mid new : State) (first len : ℕ) (kept : List Record) (last : Record) (P : Trees → Type 0) → HasCleanDisk new → len ≡ length kept
    → IsHistory old first kept → IsSettled old
    → CrashLeaves old mid (λ db. (old.in_transaction ≡ false) × (db 0 ≡ old.now.trees 0 ++ stored_row (first + len) last ∷ []))
    → CrashLeaves mid new P → ((db : Trees) → P db → Holds db first (kept ++ last ∷ []))
    → LeavesEither new first kept first (kept ++ last ∷ [])
sealed_leaves old mid new first len kept last P clean counted is settled appended sealed holds =
    leaves_either old new first kept first (kept ++ last ∷ []) (λ db. Holds db first (kept ++ last ∷ [])) clean is settled (λ db made. made)
    (CrashLeaves-then old mid new _ P _ appended sealed
    (λ early db made. Holds-append old.now.trees db first kept last is.holds
    (made.1 ∙ ap (λ n. old.now.trees 0 ++ stored_row (first + n) last ∷ []) counted))
    (λ early db made. holds db made))

-- rows that were listed by an open connection are those of a history
pub history_read : (old new : State) (rows : List Row) (first : ℕ) (kept : List Record) (sum : List ℕ) → Opens old → old.now.schema ≡ history_schema
    → IsUnchanged old new → IsPermutation (map shown_row (old.now.trees 0)) rows → IsRead rows first kept sum → IsHistory new first kept
history_read old new rows first kept sum opens ours same listed read =
    let shown = same.0 in
    record {
      is_open = shown.is_open;
      schema = ap (λ (it : Database). it.schema) shown.now_is ∙ ours;
      holds = subst (λ (it : Database). Holds it.trees first kept) (sym shown.now_is) (Holds-read old.now.trees rows first kept sum listed read);
      committed = shown.committed_is ∙ sym opens.clean ∙ sym shown.now_is;
      autocommit = shown.mode ∙ opens.autocommit;
    }

-- what a transaction left is committed
pub history_committed : (old new : State) (first : ℕ) (kept : List Record) → IsInside old first kept → Shows old new old.now old.now false
    → IsHistory new first kept
history_committed old new first kept is shown = record {
  is_open = shown.is_open;
  schema = ap (λ (it : Database). it.schema) shown.now_is ∙ is.schema;
  holds = subst (λ (it : Database). Holds it.trees first kept) (sym shown.now_is) is.holds;
  committed = shown.committed_is ∙ sym shown.now_is;
  autocommit = shown.mode;
}
