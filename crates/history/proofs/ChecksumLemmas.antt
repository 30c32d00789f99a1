-- Checksums of one more record, and of the rows that a database holds.
use Rattle.std.proofs.Common.{◌≡◌, ◌+◌, ◌++◌, ◌∙◌, ◌<◌, All, IfNone, List, None, Option, [], ◌∷◌, Some, ap, ap₂, arith, get_or, length, refl, slice_get, subst, suc, sym, take, zero, ℕ}
use Rattle.std.proofs.lemmas.List.Elements.{All-append, All-from_recursion}
use Rattle.std.proofs.lemmas.List.{take_more}
use Rattle.kept_records.specs.Checksums.{checksum_from, checksum_of, checksums_from, no_checksum}
use Rattle.kept_records.specs.declared.record.Record.{Record}
use Rattle.history.specs.Holdings.{HasChecksum}
use Rattle.history.specs.Tables.{checksum_row}

-- the checksum of one more record
pub checksum_from-append : (first : ℕ) (before : List ℕ) (kept : List Record) (last : Record)
    → checksum_from first before (kept ++ last ∷ []) ≡ checksum_of (first + length kept) last (checksum_from first before kept)
checksum_from-append first before [] last = ap (λ n. checksum_of n last before) (omega arith)
checksum_from-append first before (one ∷ more) last =
    checksum_from-append (first + 1) (checksum_of first one before) more last
    ∙ ap (λ n. checksum_of n last (checksum_from (first + 1) (checksum_of first one before) more)) (omega arith)

-- the checksums of one more record
pub checksums_from-append : (first : ℕ) (before : List ℕ) (kept : List Record) (last : Record)
    → checksums_from first before (kept ++ last ∷ [])
    ≡ checksums_from first before kept ++ checksum_of (first + length kept) last (checksum_from first before kept) ∷ []
checksums_from-append first before [] last = ap (λ n. checksum_of n last before ∷ []) (omega arith)
checksums_from-append first before (one ∷ more) last =
    ap (λ sums. checksum_of first one before ∷ sums)
    (checksums_from-append (first + 1) (checksum_of first one before) more last
    ∙ ap (λ n. checksums_from (first + 1) (checksum_of first one before) more ++ checksum_of n last (checksum_from (first + 1) (checksum_of first one before) more) ∷ []) (omega arith))

pub length-checksums_from : (first : ℕ) (before : List ℕ) (kept : List Record) → length (checksums_from first before kept) ≡ length kept
length-checksums_from first before [] = refl
length-checksums_from first before (one ∷ more) = ap suc (length-checksums_from (first + 1) (checksum_of first one before) more)

-- what is found in a list is found there if the list is longer
pub slice_get-longer : {X : Type 0} (xs ys : List X) (at : ℕ) (x : X) → slice_get xs at ≡ Some x → slice_get (xs ++ ys) at ≡ Some x
slice_get-longer [] ys at x found = absurd cc
slice_get-longer (one ∷ more) ys zero x found = found
slice_get-longer (one ∷ more) ys (suc at) x found = slice_get-longer more ys at x found

-- what follows a list is found after it
pub slice_get-last : {X : Type 0} (xs : List X) (x : X) → slice_get (xs ++ x ∷ []) (length xs) ≡ Some x
slice_get-last [] x = refl
slice_get-last (one ∷ more) x = slice_get-last more x

-- one more element
pub All-take_next : {X : Type 0} (P : X → Type 0) (xs : List X) (at : ℕ) (one : X) → at < length xs → one ≡ get_or xs at one
    → All P (take at xs) → P one → All P (take (at + 1) xs)
All-take_next P xs at one within is all holds =
    subst (All P) (sym (take_more xs at one within ∙ ap (λ it. take at xs ++ it ∷ []) (sym is)))
    (All-append P (take at xs) (one ∷ []) all (All-from_recursion P (one ∷ []) (holds, tt)))

-- what is so of no value
pub IfNone-of : {X : Type 0} (found : Option X) (P : Type 0) → (found ≡ None → P) → IfNone found P
IfNone-of None P holds = holds refl
IfNone-of (Some one) P holds = tt

-- the last record's checksum is among the checksums
pub last_checksum : (first : ℕ) (kept : List Record) (last : Record)
    → slice_get (checksums_from first no_checksum (kept ++ last ∷ [])) (length kept)
    ≡ Some (checksum_of (first + length kept) last (checksum_from first no_checksum kept))
last_checksum first kept last =
    let sums = checksums_from first no_checksum kept in
    ap (λ all. slice_get all (length kept)) (checksums_from-append first no_checksum kept last)
    ∙ ap (λ n. slice_get (sums ++ checksum_of (first + length kept) last (checksum_from first no_checksum kept) ∷ []) n) (sym (length-checksums_from first no_checksum kept))
    ∙ slice_get-last sums (checksum_of (first + length kept) last (checksum_from first no_checksum kept))

-- the checksum after an append
pub next_checksum : (first len : ℕ) (kept : List Record) (last : Record) (before sum : List ℕ) → len ≡ length kept
    → before ≡ checksum_from first no_checksum kept → sum ≡ checksum_of (first + len) last before
    → sum ≡ checksum_of (first + length kept) last (checksum_from first no_checksum kept)
next_checksum first len kept last before sum counted summed is = is ∙ ap₂ (λ n (it : List ℕ). checksum_of (first + n) last it) counted summed

-- the row of the last record's checksum is one of the checksums
pub HasChecksum-last : (first len : ℕ) (kept : List Record) (last : Record) (sum : List ℕ) → len ≡ length kept
    → sum ≡ checksum_of (first + length kept) last (checksum_from first no_checksum kept)
    → HasChecksum first (checksums_from first no_checksum (kept ++ last ∷ [])) (checksum_row (first + len) sum)
HasChecksum-last first len kept last sum counted is =
    (length kept, sum, last_checksum first kept last ∙ ap Some (sym is), ap (λ n. checksum_row (first + n) sum) counted)

-- the row of the only record's checksum is one of the checksums
pub HasChecksum-only : (number : ℕ) (only : Record) (sum : List ℕ) → sum ≡ checksum_of number only no_checksum
    → HasChecksum number (checksums_from number no_checksum (only ∷ [])) (checksum_row number sum)
HasChecksum-only number only sum is = (0, sum, ap Some (sym is), ap (λ n. checksum_row n sum) (omega arith))
