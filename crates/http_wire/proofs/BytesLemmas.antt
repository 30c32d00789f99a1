-- Parts of a buffer.
use Rattle.std.proofs.Common.{◌≡◌, ℕ, ◌+◌, ◌-◌, ◌≤◌, List, [], ◌++◌, length, take, drop, sym, ap, ◌∙◌, arith, zero-add, append_assoc}
use Rattle.std.proofs.Math.Seq.{paste}
use Rattle.std.proofs.lemmas.List.{append-nil, drop-take, take-append-le, length-take-le, length-drop}
use Rattle.std.proofs.lemmas.List.Edits.{take-paste}
use Rattle.std.proofs.Math.Seq.{take-append-add}

-- what is after the first bytes of the filled part moves to the front
pub take-moved :
    (cells : List ℕ) (filled count : ℕ) →
    count ≤ filled →
    filled ≤ length cells →
    take (filled - count) (paste cells 0 (drop count cells) (filled - count)) ≡ drop count (take filled cells)
take-moved cells filled count within fits =
    let long : filled - count ≤ length (drop count cells) = omega (arith, length-drop count cells) in
    let whole : count + (filled - count) ≡ filled = omega arith in
    ap (λ n. take n (paste cells 0 (drop count cells) (filled - count))) (sym (zero-add (filled - count)))
    ∙ take-paste cells 0 (drop count cells) (filled - count) (omega arith) long
    ∙ sym (drop-take count (filled - count) cells)
    ∙ ap (λ n. drop count (take n cells)) whole

-- bytes that are written after the filled part
pub take-filled :
    (cells bytes rest : List ℕ) (filled count : ℕ) →
    filled ≤ length cells →
    count ≤ length bytes →
    take (filled + count) (take filled cells ++ (bytes ++ rest)) ≡ take filled cells ++ take count bytes
take-filled cells bytes rest filled count fits enough =
    let long = length-take-le filled cells fits in
    ap (λ n. take (n + count) (take filled cells ++ (bytes ++ rest))) (sym long)
    ∙ take-append-add (take filled cells) (bytes ++ rest) count
    ∙ ap (λ (front : List ℕ). take filled cells ++ front) (take-append-le count bytes rest enough)

-- bytes that are read straight into a body, if none waits
pub body-more :
    (before bytes got taken waiting : List ℕ) →
    before ++ bytes ≡ taken ++ waiting →
    waiting ≡ [] →
    before ++ (bytes ++ got) ≡ (taken ++ got) ++ waiting
body-more before bytes got taken waiting cut none =
    let alone = cut ∙ ap (λ (rest : List ℕ). taken ++ rest) none ∙ append-nil taken in
    sym (append_assoc before bytes got) ∙ ap (λ (front : List ℕ). front ++ got) alone
    ∙ sym (ap (λ (rest : List ℕ). (taken ++ got) ++ rest) none ∙ append-nil (taken ++ got))
