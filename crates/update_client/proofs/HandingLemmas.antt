-- Bytes that are handed on from the front of those that wait.
use Rattle.std.proofs.Common.{◌≡◌, ℕ, ◌+◌, ◌-◌, ◌≤◌, List, ◌++◌, length, take, drop, min, sym, ap, ◌∙◌, arith}
use Rattle.std.proofs.lemmas.List.{take-append-drop, take-append-le, take_all, drop-drop, length-drop, length-take-le}

pub handed_on :
    (held copied rest : List ℕ) (at count : ℕ) →
    copied ≡ take count (drop at held) →
    count ≤ length (drop at held) →
    drop at held ≡ take count (copied ++ rest) ++ drop (at + count) held
handed_on held copied rest at count same fits =
    let long : length copied ≡ count = ap length same ∙ length-take-le count (drop at held) fits in
    let front : take count (copied ++ rest) ≡ copied =
    take-append-le count copied rest (omega (arith, long)) ∙ take_all count copied (omega (arith, long)) in
    sym (take-append-drop count (drop at held))
    ∙ ap (λ (text : List ℕ). text ++ drop count (drop at held)) (sym (front ∙ same))
    ∙ ap (λ (text : List ℕ). take count (copied ++ rest) ++ text) (drop-drop count at held)

-- the same for a slice up to the end of the bytes
pub handed_from :
    (held seen copied rest : List ℕ) (at count room : ℕ) →
    seen ≡ held →
    copied ≡ take count (take (length seen - at) (drop at seen)) →
    count ≡ min (length (take (length seen - at) (drop at seen))) room →
    drop at held ≡ take count (copied ++ rest) ++ drop (at + count) held
handed_from held seen copied rest at count room same copy least =
    let whole = take_all (length seen - at) (drop at seen) (omega (arith, length-drop at seen)) in
    let there : drop at seen ≡ drop at held = ap (drop at) same in
    handed_on held copied rest at count
    (copy ∙ ap (take count) (whole ∙ there))
    (omega (arith, least, ap length (whole ∙ there)))
