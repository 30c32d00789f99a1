-- Lists that agree as far as they were compared.
use Rattle.std.proofs.Common.{◌≡◌, ℕ, ◌<◌, ◌≤◌, ◌+◌, List, [], ◌∷◌, ◌++◌, length, map, take, drop, get_or, sym, ap, ◌∙◌}
use Rattle.std.proofs.lemmas.List.{take_all, take_more, take-append-drop, get_or_append_left, get_or-map, length-map}

-- two lists that agree so far, and in the next item
pub take-more_same : {T : Type 0} (one other : List T) (index : ℕ) (d : T) → index < length one → index < length other
    → take index one ≡ take index other → get_or one index d ≡ get_or other index d
    → take (index + 1) one ≡ take (index + 1) other
take-more_same one other index d in_one in_other same item =
    take_more one index d in_one ∙ ap (λ start. start ++ get_or one index d ∷ []) same
    ∙ ap (λ last. take index other ++ last ∷ []) item ∙ sym (take_more other index d in_other)

-- a list that agrees with the whole of another begins with it
pub take-rest : {T : Type 0} (later earlier : List T) (count : ℕ) → length earlier ≤ count
    → take count later ≡ take count earlier
    → (rest : List T) × (later ≡ earlier ++ rest)
take-rest later earlier count all same =
    let start = same ∙ take_all count earlier all in
    (drop count later, sym (take-append-drop count later) ∙ ap (λ first. first ++ drop count later) start)

-- the value at an index, of an item that is there
pub get_or-value : {T U : Type 0} (value : T → U) (items : List T) (index : ℕ) (item : T) (d : U) → index < length items
    → item ≡ get_or items index item → get_or (map value items) index d ≡ value item
get_or-value value items index item d within is = get_or-map value items index item d within ∙ ap value (sym is)

-- an item of a list that begins with the values of another is the other's
pub value-beginning : {T U : Type 0} (value : T → U) (later earlier : List T) (rest : List U)
    (index : ℕ) (one other : T)
    → map value later ≡ map value earlier ++ rest → index < length later → index < length earlier
    → one ≡ get_or later index one → other ≡ get_or earlier index other → value one ≡ value other
value-beginning value later earlier rest index one other starts in_later in_earlier is_one is_other =
    let within : index < length (map value earlier) = rw (length-map earlier value) in_earlier in
    sym (get_or-value value later index one (value other) in_later is_one)
    ∙ ap (λ items. get_or items index (value other)) starts
    ∙ get_or_append_left (map value earlier) rest (value other) index within
    ∙ get_or-value value earlier index other (value other) in_earlier is_other
