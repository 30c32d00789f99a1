-- A checksum among the rows of a database.
use Rattle.std.proofs.Common.{◌≡◌, ◌⊎◌, ◌+◌, ◌≤◌, All, Equal, Greater, Less, List, Ordering, [], ◌∷◌, arith, false, inl, inr, map, negsuc, pos, refl, subst, suc, sym, true, zero, ℕ}
use Rattle.std.proofs.lemmas.Bool.{cases_Bool}
use Rattle.std.proofs.lemmas.List.Elements.{All-from_recursion, recursion_from_All}
use Rattle.std.proofs.lemmas.List.Sorted.{All-permutation, IsPermutation-sym}
use Rattle.std.specs.List.Sorted.{IsPermutation}
use Rattle.std.specs.List.{AllByRecursion}
use Rattle.std.specs.Ordering.{match_ordering}
use Rattle.kept_records.specs.Checksums.{checksums_from, no_checksum}
use Rattle.kept_records.specs.declared.record.Record.{Record}
use Rattle.sqlite.specs.Order.{Row, column}
use Rattle.sqlite.specs.Tree.{Trees, rowid}
use Rattle.sqlite.specs.declared.types.Value.TheVariants.{Int}
use Rattle.sqlite_trees.specs.Tree.{put_row}
use Rattle.sqlite_value.proofs.OrderLemmas.{value_cmp-Int}
use Rattle.sqlite_value.specs.Order.{value_cmp}
use Rattle.history.proofs.RowLemmas.{all_by_test}
use Rattle.history.specs.Holdings.{HasChecksum, Holds, checksums_in, entries_in}
use Rattle.history.specs.Tables.{checksum_key, checksum_row, entries_from, is_checksum, shown_row, stored_cells}

-- the row of the checksum with this key
abbrev row_of : ℕ → List ℕ → Row
row_of n sum = stored_cells (negsuc n) 0 sum

-- the row is one of a checksum, or its key is a number from 0 on
abbrev IsKeyed : Row → Type 0
IsKeyed row = (is_checksum row ≡ true) ⊎ ((m : ℕ) × (column row 0 ≡ Int (pos m)))

-- where a row goes, by its order
entries_put : (n : ℕ) (sum : List ℕ) (row : Row) (more : List Row) (order : Ordering) → is_checksum row ≡ true
    → entries_in (map shown_row (put_row (row_of n sum) more)) ≡ entries_in (map shown_row more)
    → entries_in (map shown_row (match_ordering order (row ∷ put_row (row_of n sum) more) (row_of n sum ∷ more) (row_of n sum ∷ row ∷ more)))
    ≡ entries_in (map shown_row (row ∷ more))
entries_put n sum row more Less is rest = rw is rest
entries_put n sum row more Equal is rest = rw is refl
entries_put n sum row more Greater is rest = refl

-- a checksum changes no entry
put_entries : (n : ℕ) (sum : List ℕ) (rows : List Row) → AllByRecursion IsKeyed rows
    → entries_in (map shown_row (put_row (row_of n sum) rows)) ≡ entries_in (map shown_row rows)
put_entries n sum [] keyed = refl
put_entries n sum (row ∷ more) keyed = elim keyed.0 [
  | inl is ↦ entries_put n sum row more (value_cmp (rowid row) (rowid (row_of n sum))) is (put_entries n sum more keyed.1)
  | inr key ↦ before key.0 key.1
]
  where
    before : (m : ℕ) → column row 0 ≡ Int (pos m) → entries_in (map shown_row (put_row (row_of n sum) (row ∷ more))) ≡ entries_in (map shown_row (row ∷ more))
    before m is =
        let greater : value_cmp (rowid row) (rowid (row_of n sum)) ≡ Greater = rw is (value_cmp-Int (pos m) (negsuc n)) in
        rw greater refl

-- where a checksum goes, by its order
checksums_put : (P : Row → Type 0) (n : ℕ) (sum : List ℕ) (row : Row) (more : List Row) (order : Ordering) → P (shown_row (row_of n sum))
    → AllByRecursion P (checksums_in (map shown_row (row ∷ more)))
    → AllByRecursion P (checksums_in (map shown_row (put_row (row_of n sum) more)))
    → AllByRecursion P (checksums_in (map shown_row (match_ordering order (row ∷ put_row (row_of n sum) more) (row_of n sum ∷ more) (row_of n sum ∷ row ∷ more))))
checksums_put P n sum row more Less new all rest = elim (cases_Bool (is_checksum row)) [
  | inl is ↦ rw is ((rw is at all).0, rest)
  | inr is ↦ rw is rest
]
checksums_put P n sum row more Equal new all rest = elim (cases_Bool (is_checksum row)) [
  | inl is ↦ (new, (rw is at all).1)
  | inr is ↦ (new, rw is at all)
]
checksums_put P n sum row more Greater new all rest = (new, all)

-- what is so of the checksums is so of them and one more
put_checksums : (P : Row → Type 0) (n : ℕ) (sum : List ℕ) (rows : List Row) → P (shown_row (row_of n sum))
    → AllByRecursion P (checksums_in (map shown_row rows)) → AllByRecursion P (checksums_in (map shown_row (put_row (row_of n sum) rows)))
put_checksums P n sum [] new all = (new, tt)
put_checksums P n sum (row ∷ more) new all =
    checksums_put P n sum row more (value_cmp (rowid row) (rowid (row_of n sum))) new all (put_checksums P n sum more new (rest (cases_Bool (is_checksum row))))
  where
    rest : (is_checksum row ≡ true) ⊎ (is_checksum row ≡ false) → AllByRecursion P (checksums_in (map shown_row more))
    rest (inl is) = (rw is at all).1
    rest (inr is) = rw is at all

entries_keyed : (first : ℕ) (kept : List Record) → AllByRecursion IsKeyed (entries_from first kept)
entries_keyed first [] = tt
entries_keyed first (one ∷ more) = (inr (first, refl), entries_keyed (first + 1) more)

checksums_keyed : (rows : List Row) → AllByRecursion IsKeyed (checksums_in rows)
checksums_keyed [] = tt
checksums_keyed (row ∷ more) = elim (cases_Bool (is_checksum row)) [
  | inl is ↦ rw is (inl is, checksums_keyed more)
  | inr is ↦ rw is (checksums_keyed more)
]

shown_keyed : (rows : List Row) → AllByRecursion IsKeyed (map shown_row rows) → AllByRecursion IsKeyed rows
shown_keyed [] all = tt
shown_keyed (row ∷ more) all = (all.0, shown_keyed more all.1)

-- the keys of a database's rows
rows_keyed : (trees : Trees) (first : ℕ) (kept : List Record) → Holds trees first kept → AllByRecursion IsKeyed (trees 0)
rows_keyed trees first kept holds =
    let shown = map shown_row (trees 0) in
    shown_keyed (trees 0)
    (all_by_test IsKeyed is_checksum shown (checksums_keyed shown)
    (recursion_from_All IsKeyed (entries_in shown)
    (All-permutation IsKeyed (entries_from first kept) (entries_in shown) (IsPermutation-sym (entries_in shown) (entries_from first kept) holds.records)
    (All-from_recursion IsKeyed (entries_from first kept) (entries_keyed first kept)))))

-- the checksum of a record, among the rows
pub Holds-checksum : (old new : Trees) (first number : ℕ) (kept : List Record) (sum : List ℕ) → 1 ≤ number
    → HasChecksum first (checksums_from first no_checksum kept) (checksum_row number sum) → Holds old first kept
    → new 0 ≡ put_row (stored_cells (checksum_key number) 0 sum) (old 0) → Holds new first kept
Holds-checksum old new first zero kept sum some has holds is = absurd (omega (arith, some))
Holds-checksum old new first (suc n) kept sum some has holds is =
    let P = HasChecksum first (checksums_from first no_checksum kept) in
    record {
      records = subst (λ rows. IsPermutation (entries_in (map shown_row rows)) (entries_from first kept)) (sym is)
          (subst (λ rows. IsPermutation rows (entries_from first kept)) (sym (put_entries n sum (old 0) (rows_keyed old first kept holds))) holds.records);
      checksums = subst (λ rows. All P (checksums_in (map shown_row rows))) (sym is)
          (All-from_recursion P (checksums_in (map shown_row (put_row (row_of n sum) (old 0))))
          (put_checksums P n sum (old 0) has (recursion_from_All P (checksums_in (map shown_row (old 0))) holds.checksums)));
    }
