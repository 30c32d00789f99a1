-- A database holds one list of records.
use Rattle.std.proofs.Common.{◌≡◌, ◌≢◌, ◌<◌, ◌≤◌, ◌+◌, ◌∙◌, List, [], ◌∷◌, Some, ap, arith, length, map, pos, refl, slice_get, subst, suc, sym, zero, ℕ}
use Rattle.std.proofs.lemmas.List.Elements.{All-from_recursion, recursion_from_All}
use Rattle.std.proofs.lemmas.List.Sorted.{All-permutation, IsPermutation-sym, IsPermutation-trans, length_permutation}
use Rattle.std.specs.List.Sorted.{IsPermutation}
use Rattle.std.specs.List.{AllByRecursion}
use Rattle.kept_records.specs.Keeping.{number_of, record_of}
use Rattle.kept_records.specs.declared.record.Kind.TheVariants.{Profile, Raise, Script}
use Rattle.kept_records.specs.declared.record.Kind.{Kind}
use Rattle.kept_records.specs.declared.record.Record.{Record}
use Rattle.sqlite.specs.Order.{Row, column}
use Rattle.sqlite.specs.Tree.{Trees}
use Rattle.sqlite.specs.declared.types.Value.TheVariants.{Blob, Int}
use Rattle.history.proofs.RowLemmas.{length-entries_from}
use Rattle.history.specs.Holdings.{Holds, entries_in}
use Rattle.history.specs.Tables.{entries_from, entry_of, shown_row}

same_kind : (a b : Kind) → number_of a ≡ number_of b → a ≡ b
same_kind Profile Profile is = refl
same_kind Profile Script is = absurd (omega (arith, is))
same_kind Profile Raise is = absurd (omega (arith, is))
same_kind Script Profile is = absurd (omega (arith, is))
same_kind Script Script is = refl
same_kind Script Raise is = absurd (omega (arith, is))
same_kind Raise Profile is = absurd (omega (arith, is))
same_kind Raise Script is = absurd (omega (arith, is))
same_kind Raise Raise is = refl

same_number : (m n : ℕ) → Int (pos m) ≡ Int (pos n) → m ≡ n
same_number m n is = cc

same_bytes : (a b : List ℕ) → Blob a ≡ Blob b → a ≡ b
same_bytes a b is = cc

record_of-same : (k l : Kind) (a b : List ℕ) → k ≡ l → a ≡ b → record_of k a ≡ record_of l b
record_of-same k l a b kind bytes = cc

same_record : (a b : Record) → a.kind ≡ b.kind → a.bytes ≡ b.bytes → a ≡ b
same_record a b kind bytes = record_of-same a.kind b.kind a.bytes b.bytes kind bytes

plus_zero : (n : ℕ) → n + 0 ≡ n
plus_zero n = omega arith

-- an entry says its number and its record
entry_of-number : (m n : ℕ) (a b : Record) → entry_of m a ≡ entry_of n b → m ≡ n
entry_of-number m n a b is = same_number m n (ap (λ cells. column cells 0) is)

entry_of-record : (m n : ℕ) (a b : Record) → entry_of m a ≡ entry_of n b → a ≡ b
entry_of-record m n a b is =
    same_record a b
    (same_kind a.kind b.kind (same_number (number_of a.kind) (number_of b.kind) (ap (λ cells. column cells 1) is)))
    (same_bytes a.bytes b.bytes (ap (λ cells. column cells 2) is))

-- the row is one of these records, with its number
abbrev IsAmong : ℕ → List Record → Row → Type 0
IsAmong first kept row = (at : ℕ) × (one : Record) × (slice_get kept at ≡ Some one) × (row ≡ entry_of (first + at) one)

among_from : (first skipped : ℕ) (whole kept : List Record) → ((at : ℕ) → slice_get kept at ≡ slice_get whole (skipped + at))
    → AllByRecursion (IsAmong first whole) (entries_from (first + skipped) kept)
among_from first skipped whole [] each = tt
among_from first skipped whole (one ∷ more) each = (
  (skipped, one, sym (each 0 ∙ ap (slice_get whole) (omega arith)), refl),
  rw next (among_from first (skipped + 1) whole more (λ at. each (suc at) ∙ ap (slice_get whole) (omega arith))),
)
  where
    next : first + skipped + 1 ≡ first + (skipped + 1)
    next = omega arith

-- each row of the one list is among the other
among_other : (first other : ℕ) (kept others : List Record) → IsPermutation (entries_from first kept) (entries_from other others)
    → AllByRecursion (IsAmong other others) (entries_from first kept)
among_other first other kept others same =
    recursion_from_All (IsAmong other others) (entries_from first kept)
    (All-permutation (IsAmong other others) (entries_from other others) (entries_from first kept)
    (IsPermutation-sym (entries_from first kept) (entries_from other others) same)
    (All-from_recursion (IsAmong other others) (entries_from other others)
    (subst (λ n. AllByRecursion (IsAmong other others) (entries_from n others)) (plus_zero other)
    (among_from other 0 others others (λ at. ap (slice_get others) (omega arith))))))

same_places : (first skipped : ℕ) (kept others : List Record) → AllByRecursion (IsAmong first others) (entries_from (first + skipped) kept)
    → (at : ℕ) → at < length kept → slice_get kept at ≡ slice_get others (skipped + at)
same_places first skipped [] others all at within = absurd (omega (arith, within))
same_places first skipped (one ∷ more) others all zero within =
    let found = all.0 in
    let place : skipped ≡ found.0 = omega (arith, entry_of-number (first + skipped) (first + found.0) one found.1 found.3) in
    ap Some (entry_of-record (first + skipped) (first + found.0) one found.1 found.3) ∙ sym found.2
    ∙ ap (slice_get others) (omega (arith, place))
same_places first skipped (one ∷ more) others all (suc at) within =
    same_places first (skipped + 1) more others (rw next at all.1) at (omega (arith, within)) ∙ ap (slice_get others) (omega arith)
  where
    next : first + skipped + 1 ≡ first + (skipped + 1)
    next = omega arith

same_by_places : (kept others : List Record) → length kept ≡ length others
    → ((at : ℕ) → at < length kept → slice_get kept at ≡ slice_get others at) → kept ≡ others
same_by_places [] [] len each = refl
same_by_places [] (one ∷ more) len each = absurd (omega (arith, len))
same_by_places (one ∷ more) [] len each = absurd (omega (arith, len))
same_by_places (one ∷ more) (other ∷ others) len each =
    let head : Some one ≡ Some other = each 0 (omega arith) in
    let same : one ≡ other = cc in
    rw same (ap (λ rest. other ∷ rest) (same_by_places more others (omega (arith, len)) (λ at within. each (suc at) (omega (arith, within)))))

first_within : (first other : ℕ) (kept others : List Record) → kept ≢ [] → AllByRecursion (IsAmong other others) (entries_from first kept) → other ≤ first
first_within first other [] others some all = absurd (some refl)
first_within first other (one ∷ more) others some all =
    let found = all.0 in omega (arith, entry_of-number first (other + found.0) one found.1 found.3)

pub same_records : (trees : Trees) (first other : ℕ) (kept others : List Record) → Holds trees first kept → Holds trees other others
    → (kept ≡ others) × (kept ≢ [] → first ≡ other)
same_records trees first other kept others holds also =
    let shown = entries_in (map shown_row (trees 0)) in
    let there = IsPermutation-trans (entries_from first kept) shown (entries_from other others) (IsPermutation-sym shown (entries_from first kept) holds.records) also.records in
    let back = IsPermutation-sym (entries_from first kept) (entries_from other others) there in
    let len : length kept ≡ length others =
    sym (length-entries_from first kept) ∙ sym (length_permutation (entries_from first kept) (entries_from other others) there) ∙ length-entries_from other others in
    records_of kept others there back len
  where
    records_of : (kept others : List Record) → IsPermutation (entries_from first kept) (entries_from other others)
        → IsPermutation (entries_from other others) (entries_from first kept) → length kept ≡ length others
        → (kept ≡ others) × (kept ≢ [] → first ≡ other)
    records_of [] [] there back len = (refl, λ some. absurd (some refl))
    records_of [] (one ∷ more) there back len = absurd (omega (arith, len))
    records_of (one ∷ more) [] there back len = absurd (omega (arith, len))
    records_of (one ∷ more) (two ∷ others) there back len =
        let over = first_within first other (one ∷ more) (two ∷ others) (λ none. cc) (among_other first other (one ∷ more) (two ∷ others) there) in
        let under = first_within other first (two ∷ others) (one ∷ more) (λ none. cc) (among_other other first (two ∷ others) (one ∷ more) back) in
        let number : first ≡ other = omega (arith, over, under) in (
          same_by_places (one ∷ more) (two ∷ others) len
              (λ at within. same_places other 0 (one ∷ more) (two ∷ others) (subst (λ n. AllByRecursion (IsAmong other (two ∷ others)) (entries_from n (one ∷ more))) (number ∙ sym (plus_zero other))
              (among_other first other (one ∷ more) (two ∷ others) there)) at within ∙ ap (slice_get (two ∷ others)) (omega arith)),
          λ some. number,
        )
