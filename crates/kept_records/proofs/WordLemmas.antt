-- The first words of a message, as they are copied.
use Rattle.std.proofs.Common.{◌≡◌, ◌∙◌, ℕ, ◌<◌, ◌≤◌, List, ◌++◌, length, length-append, take, map, min, ap, sym, arith}
use Rattle.std.proofs.lemmas.List.{length-take, take-append-le, take_all, take_min}
use Rattle.kept_records.specs.Messages.{as_printable, words_of}

-- bytes that were copied to the front of others are the first words of the message
pub copied : (message kept rest : List ℕ) (count : ℕ) → count ≡ min (length message) 60 → kept ≡ take count message
    → map as_printable (take (min count 60) (kept ++ rest)) ≡ words_of message
copied message kept rest count is same =
    let long : length kept ≡ count = ap length same ∙ omega (arith, length-take count message) in
    ap (map as_printable) (
    take-append-le (min count 60) kept rest (omega arith)
    ∙ take_all (min count 60) kept (omega arith)
    ∙ same
    ∙ ap (λ (n : ℕ). take n message) (is ∙ omega arith)
    ∙ take_min 60 message)
