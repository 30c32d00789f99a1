-- A version prints as its first number, and a dot before each other number that is shown.
use Rattle.std.proofs.Common.{◌≡◌, ℕ, ◌-◌, ◌≤◌, List, [], ◌∷◌, ◌++◌, length, get_or, take, drop, map, max, suc, sym, ap, ◌∙◌, arith}
use Rattle.std.specs.Fmt.{decimal}
use Rattle.std.specs.List.{flat_map, join_with_byte}
use Rattle.std.proofs.lemmas.List.{append-nil, take_all}
use Rattle.catalogue.specs.Versions.{printed, zeros_at_end}

-- a number after its dot
abbrev pub dotted : ℕ → List ℕ
dotted number = 46 ∷ decimal number

-- numbers joined by dots are the first, and each other after its dot
join_with_byte-decimals :
    (first : ℕ) (others : List ℕ) →
    join_with_byte 46 (map decimal (first ∷ others)) ≡ decimal first ++ flat_map dotted others
join_with_byte-decimals first [] = sym (append-nil (decimal first))
join_with_byte-decimals first (second ∷ others) =
    ap (λ rest. decimal first ++ (46 ∷ rest)) (join_with_byte-decimals second others)

-- the front of a list is its first number, and the front of the others
take-first :
    (numbers : List ℕ) (shown : ℕ) →
    1 ≤ length numbers →
    1 ≤ shown →
    take shown numbers ≡ get_or numbers 0 0 ∷ take (shown - 1) (drop 1 numbers)
take-first [] shown some more = absurd (omega arith)
take-first (first ∷ others) shown some more =
    let left : ℕ = shown - 1 in
    let above : shown ≡ suc left = omega arith in
    ap (λ count. take count (first ∷ others)) above

-- the first number, and all others that are shown after their dots, are the printed version
pub printed-from_dotted :
    (version : List ℕ) (shown index : ℕ) →
    length version ≡ 16 →
    shown ≡ max (16 - zeros_at_end version) 2 →
    length (take (shown - 1) (drop 1 version)) ≤ index →
    decimal (get_or version 0 0) ++ flat_map dotted (take index (take (shown - 1) (drop 1 version))) ≡ printed version
unfolding printed
printed-from_dotted version shown index sixteen count all =
    ap (λ others. decimal (get_or version 0 0) ++ flat_map dotted others) (take_all index (take (shown - 1) (drop 1 version)) all)
    ∙ sym (join_with_byte-decimals (get_or version 0 0) (take (shown - 1) (drop 1 version)))
    ∙ ap (λ numbers. join_with_byte 46 (map decimal numbers)) (sym (take-first version shown (omega arith) (omega arith)))
    ∙ ap (λ components. join_with_byte 46 (map decimal (take components version))) (count ∙ ap (λ kept. max (kept - zeros_at_end version) 2) (sym sixteen))
