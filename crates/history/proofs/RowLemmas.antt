-- Numbered rows, and what one more does to them.
use Rattle.std.proofs.Common.{◌≡◌, ◌+◌, ◌<◌, ◌≤◌, ◌∙◌, All, Bool, Less, List, [], ◌∷◌, ◌++◌, ap, ap₂, append-nil, arith, filter, get_or, inl, inr, int_cmp, length, map, negsuc, not, pos, refl, subst, suc, sym, take, true, zero, ℕ, ℤ}
use Rattle.std.proofs.lemmas.Bool.{cases_Bool}
use Rattle.std.proofs.lemmas.Bool.Decides.{nat_tests}
use Rattle.std.proofs.lemmas.List.Elements.{All-from_recursion, All-weaker, filter-append, recursion_from_All}
use Rattle.std.proofs.lemmas.List.Sorted.{All-permutation, IsPermutation-append, IsPermutation-refl, IsPermutation-sym}
use Rattle.std.proofs.lemmas.List.{map-append, take_more}
use Rattle.std.specs.List.Sorted.{IsPermutation}
use Rattle.std.specs.List.{AllByRecursion}
use Rattle.kept_records.specs.Checksums.{checksum_from, checksum_of, checksums_from, no_checksum}
use Rattle.kept_records.specs.declared.record.Record.{Record}
use Rattle.sqlite.specs.Order.{Row, column}
use Rattle.sqlite.specs.Tree.{Trees, rowid}
use Rattle.sqlite.specs.declared.types.Value.TheVariants.{Blob, Int, Null, Real, Text}
use Rattle.sqlite.specs.declared.types.Value.{Value}
use Rattle.sqlite_trees.proofs.ListLemmas.{IsPermutation-filter}
use Rattle.sqlite_trees.specs.Tree.{put_row}
use Rattle.sqlite_value.proofs.OrderLemmas.{value_cmp-Int}
use Rattle.sqlite_value.specs.Order.{value_cmp}
use Rattle.history.proofs.ChecksumLemmas.{checksums_from-append, slice_get-longer}
use Rattle.history.specs.Holdings.{HasChecksum, Holds, IsNext, checksums_in, entries_in}
use Rattle.history.specs.Openings.{IsRead}
use Rattle.history.specs.Tables.{checksum_row, entries_from, entry_of, is_checksum, is_negative, shown_row, stored_row}

-- the entries of one more record
pub entries_from-append : (first : ℕ) (kept : List Record) (last : Record)
    → entries_from first (kept ++ last ∷ []) ≡ entries_from first kept ++ entry_of (first + length kept) last ∷ []
entries_from-append first [] last = ap (λ n. entry_of n last ∷ []) (omega arith)
entries_from-append first (one ∷ more) last =
    ap (λ rows. entry_of first one ∷ rows)
    (entries_from-append (first + 1) more last
    ∙ ap (λ n. entries_from (first + 1) more ++ entry_of n last ∷ []) (omega arith))

pub length-entries_from : (first : ℕ) (kept : List Record) → length (entries_from first kept) ≡ length kept
length-entries_from first [] = refl
length-entries_from first (one ∷ more) = ap suc (length-entries_from (first + 1) more)

-- one more row was read
pub entries_from-take : (first at : ℕ) (rows : List Row) (kept : List Record) (row : Row) (next : Record) → take at rows ≡ entries_from first kept
    → length kept ≡ at → at < length rows → row ≡ get_or rows at row → row ≡ entry_of (first + at) next
    → take (at + 1) rows ≡ entries_from first (kept ++ next ∷ [])
entries_from-take first at rows kept row next so_far counted within found is =
    take_more rows at row within
    ∙ ap (λ before. before ++ get_or rows at row ∷ []) so_far
    ∙ ap (λ last. entries_from first kept ++ last ∷ []) (sym found ∙ is ∙ ap (λ n. entry_of (first + n) next) (sym counted))
    ∙ sym (entries_from-append first kept next)

-- the entries of records are no checksums
pub entries_in-entries : (first : ℕ) (kept : List Record) → entries_in (entries_from first kept) ≡ entries_from first kept
entries_in-entries first [] = refl
entries_in-entries first (one ∷ more) = ap (λ rows. entry_of first one ∷ rows) (entries_in-entries (first + 1) more)

pub checksums_in-entries : (first : ℕ) (kept : List Record) → checksums_in (entries_from first kept) ≡ []
checksums_in-entries first [] = refl
checksums_in-entries first (one ∷ more) = checksums_in-entries (first + 1) more

-- a checksum of some records is one of more records
pub HasChecksum-more : (first : ℕ) (sums more : List (List ℕ)) (row : Row) → HasChecksum first sums row → HasChecksum first (sums ++ more) row
HasChecksum-more first sums more row has = (has.0, has.1, slice_get-longer sums more has.0 has.1 has.2, has.3)

-- the next record's row, after the others
pub Holds-append : (old new : Trees) (first : ℕ) (kept : List Record) (last : Record) → Holds old first kept
    → new 0 ≡ old 0 ++ stored_row (first + length kept) last ∷ [] → Holds new first (kept ++ last ∷ [])
Holds-append old new first kept last holds is =
    let row = stored_row (first + length kept) last in
    let rows : map shown_row (new 0) ≡ map shown_row (old 0) ++ shown_row row ∷ [] = ap (map shown_row) is ∙ map-append shown_row (old 0) (row ∷ []) in
    let entries : entries_in (map shown_row (new 0)) ≡ entries_in (map shown_row (old 0)) ++ shown_row row ∷ [] =
    ap entries_in rows ∙ filter-append (λ cells. not (is_checksum cells)) (map shown_row (old 0)) (shown_row row ∷ []) in
    let sums : checksums_in (map shown_row (new 0)) ≡ checksums_in (map shown_row (old 0)) =
    ap checksums_in rows ∙ filter-append is_checksum (map shown_row (old 0)) (shown_row row ∷ []) ∙ append-nil (checksums_in (map shown_row (old 0))) in
    let more = checksum_of (first + length kept) last (checksum_from first no_checksum kept) ∷ [] in
    record {
      records = subst (λ shown. IsPermutation shown (entries_from first (kept ++ last ∷ []))) (sym entries)
          (subst (IsPermutation (entries_in (map shown_row (old 0)) ++ shown_row row ∷ [])) (sym (entries_from-append first kept last))
          (IsPermutation-append (entries_in (map shown_row (old 0))) (entries_from first kept) (shown_row row ∷ []) (shown_row row ∷ []) holds.records
          (IsPermutation-refl (shown_row row ∷ []))));
      checksums = subst (λ all. All (HasChecksum first all) (checksums_in (map shown_row (new 0)))) (sym (checksums_from-append first no_checksum kept last))
          (subst (All (HasChecksum first (checksums_from first no_checksum kept ++ more))) (sym sums)
          (All-weaker (HasChecksum first (checksums_from first no_checksum kept)) (HasChecksum first (checksums_from first no_checksum kept ++ more))
          (HasChecksum-more first (checksums_from first no_checksum kept) more) (checksums_in (map shown_row (old 0))) holds.checksums));
    }

-- no rows are no records
pub Holds-nil : (trees : Trees) (first : ℕ) → trees 0 ≡ [] → Holds trees first []
Holds-nil trees first none = record {
  records = subst (λ rows. IsPermutation (entries_in (map shown_row rows)) []) (sym none) (IsPermutation-refl []);
  checksums = subst (λ rows. All (HasChecksum first []) (checksums_in (map shown_row rows))) (sym none) (All-from_recursion (HasChecksum first []) [] tt);
}

-- rows that were read are the records and checksums of the table
pub Holds-read : (trees : Trees) (rows : List Row) (first : ℕ) (kept : List Record) (sum : List ℕ) → IsPermutation (map shown_row (trees 0)) rows
    → IsRead rows first kept sum → Holds trees first kept
Holds-read trees rows first kept sum same read =
    let shown = map shown_row (trees 0) in
    let listed = entries_from first kept in
    let sums = recursion_from_All (HasChecksum first (checksums_from first no_checksum kept)) read.sums read.checked in
    record {
      records = subst (IsPermutation (entries_in shown))
          (ap entries_in read.is ∙ filter-append (λ cells. not (is_checksum cells)) read.sums listed
          ∙ ap₂ (λ (xs ys : List Row). xs ++ ys) (no_entries first read.numbered.0 (checksums_from first no_checksum kept) read.sums sums) (entries_in-entries first kept))
          (IsPermutation-filter (λ cells. not (is_checksum cells)) shown rows same);
      checksums = All-permutation (HasChecksum first (checksums_from first no_checksum kept)) (checksums_in rows) (checksums_in shown)
          (IsPermutation-sym (checksums_in shown) (checksums_in rows) (IsPermutation-filter is_checksum shown rows same))
          (subst (All (HasChecksum first (checksums_from first no_checksum kept)))
          (sym (ap checksums_in read.is ∙ filter-append is_checksum read.sums listed
          ∙ ap₂ (λ (xs ys : List Row). xs ++ ys) (all_sums first read.numbered.0 (checksums_from first no_checksum kept) read.sums sums) (checksums_in-entries first kept)
          ∙ append-nil read.sums))
          read.checked);
    }
  where
    is_sum : (first : ℕ) → 1 ≤ first → (sums : List (List ℕ)) (row : Row) → HasChecksum first sums row → is_checksum row ≡ true
    is_sum first above sums row has = ap is_checksum has.3 ∙ below (first + has.0) has.1 (omega (arith, above))
      where
        below : (number : ℕ) (sum : List ℕ) → 1 ≤ number → is_checksum (checksum_row number sum) ≡ true
        below zero sum some = absurd (omega (arith, some))
        below (suc n) sum some = refl

    no_entries : (first : ℕ) → 1 ≤ first → (sums : List (List ℕ)) (rows : List Row) → AllByRecursion (HasChecksum first sums) rows → entries_in rows ≡ []
    no_entries first above sums [] all = refl
    no_entries first above sums (row ∷ more) all = rw (is_sum first above sums row all.0) (no_entries first above sums more all.1)

    all_sums : (first : ℕ) → 1 ≤ first → (sums : List (List ℕ)) (rows : List Row) → AllByRecursion (HasChecksum first sums) rows → checksums_in rows ≡ rows
    all_sums first above sums [] all = refl
    all_sums first above sums (row ∷ more) all = rw (is_sum first above sums row all.0) (ap (λ rows. row ∷ rows) (all_sums first above sums more all.1))

-- the key of a row is below this number
abbrev pub IsBelow : ℕ → Row → Type 0
IsBelow number cells = (key : ℤ) × (column cells 0 ≡ Int key) × (int_cmp key (pos number) ≡ Less)

int_cmp-below : (m n : ℕ) → m < n → int_cmp (pos m) (pos n) ≡ Less
int_cmp-below m n below = grind (arith, nat_tests, below)

entries_below : (first : ℕ) (kept : List Record) (number : ℕ) → first + length kept ≤ number
    → AllByRecursion (IsBelow number) (entries_from first kept)
entries_below first [] number within = tt
entries_below first (one ∷ more) number within =
    ((pos first, refl, int_cmp-below first number (omega (arith, within))), entries_below (first + 1) more number (omega (arith, within)))

-- what is so of the rows that pass a test and of those that don't
pub all_by_test : (P : Row → Type 0) (p : Row → Bool) (rows : List Row) → AllByRecursion P (filter p rows)
    → AllByRecursion P (filter (λ row. not (p row)) rows) → AllByRecursion P rows
all_by_test P p [] passed left = tt
all_by_test P p (row ∷ more) passed left = elim (cases_Bool (p row)) [
  | inl is ↦ let it = rw is at passed in (it.0, all_by_test P p more it.1 (rw is at left))
  | inr is ↦ let it = rw is at left in (it.0, all_by_test P p more (rw is at passed) it.1)
]

-- a checksum's key is below 0
checksum_below : (number : ℕ) (row : Row) → is_checksum row ≡ true → IsBelow number row
checksum_below number row is = of_value (column row 0) is
  where
    of_value : (cell : Value) → is_negative cell ≡ true → (key : ℤ) × (cell ≡ Int key) × (int_cmp key (pos number) ≡ Less)
    of_value (Int (negsuc n)) is = (negsuc n, refl, refl)
    of_value (Int (pos n)) is = absurd cc
    of_value Null is = absurd cc
    of_value (Real x) is = absurd cc
    of_value (Text x) is = absurd cc
    of_value (Blob x) is = absurd cc

checksums_below : (number : ℕ) (rows : List Row) → AllByRecursion (IsBelow number) (checksums_in rows)
checksums_below number [] = tt
checksums_below number (row ∷ more) = elim (cases_Bool (is_checksum row)) [
  | inl is ↦ rw is (checksum_below number row is, checksums_below number more)
  | inr is ↦ rw is (checksums_below number more)
]

shown_below : (number : ℕ) (rows : List Row) → AllByRecursion (IsBelow number) (map shown_row rows)
    → AllByRecursion (IsBelow number) rows
shown_below number [] all = tt
shown_below number (row ∷ more) all = (all.0, shown_below number more all.1)

-- each row's key is below the next record's number
pub rows_below_next : (trees : Trees) (number : ℕ) → IsNext trees number → AllByRecursion (IsBelow number) (trees 0)
rows_below_next trees number next =
    let first = next.0 in
    let kept = next.1 in
    let shown = map shown_row (trees 0) in
    shown_below number (trees 0)
    (all_by_test (IsBelow number) is_checksum shown (checksums_below number shown)
    (recursion_from_All (IsBelow number) (entries_in shown)
    (All-permutation (IsBelow number) (entries_from first kept) (entries_in shown) (IsPermutation-sym (entries_in shown) (entries_from first kept) next.2.records)
    (All-from_recursion (IsBelow number) (entries_from first kept)
    (entries_below first kept number (omega (arith, next.3)))))))

-- a row whose number is above all others comes after them
pub put_row-last : (rows : List Row) (last : Row) (number : ℕ) → AllByRecursion (IsBelow number) rows
    → rowid last ≡ Int (pos number) → put_row last rows ≡ rows ++ last ∷ []
put_row-last [] last number below is = refl
put_row-last (row ∷ more) last number below is =
    let less : value_cmp (rowid row) (rowid last) ≡ Less =
    rw (below.0.1, is) (value_cmp-Int below.0.0 (pos number) ∙ below.0.2) in
    rw less (ap (λ rows. row ∷ rows) (put_row-last more last number below.1 is))

-- a row of three cells
pub three_cells : (row : Row) (a b c : Value) → length row ≡ 3 → a ≡ column row 0 → b ≡ column row 1 → c ≡ column row 2
    → row ≡ a ∷ b ∷ c ∷ []
three_cells [] a b c len one two three = absurd (omega (arith, len))
three_cells (x ∷ []) a b c len one two three = absurd (omega (arith, len))
three_cells (x ∷ y ∷ []) a b c len one two three = absurd (omega (arith, len))
three_cells (x ∷ y ∷ z ∷ []) a b c len one two three = rw (one, two, three) refl
three_cells (x ∷ y ∷ z ∷ other ∷ more) a b c len one two three = absurd (omega (arith, len))
