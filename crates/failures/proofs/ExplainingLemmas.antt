-- The first explanation of several.
use Rattle.std.proofs.Common.{◌≡◌, ◌∙◌, ap, ℕ, List, Option, Some, None}
use Rattle.std.specs.Borrow.{Bor}
use Rattle.std.specs.Option.{option_map, option_or}
use Rattle.failures.specs.Explanations.{string_in}

-- what was found, as a string
abbrev pub shown : Option (Bor (List ℕ)) → Option (List ℕ)
shown = option_map (λ text. text.now)

-- the first of two, as a string
pub first-shown : (one two : Option (Bor (List ℕ))) → {said found : Option (List ℕ)} →
    shown one ≡ said → shown two ≡ found → shown (option_or one two) ≡ option_or said found
first-shown None two {found = found} same next =
    next ∙ ap (λ (said : Option (List ℕ)). option_or said found) same
first-shown (Some text) two {found = found} same next =
    ap (λ (said : Option (List ℕ)). option_or said found) same

-- what was found in the same entries
pub said-by : (code : List ℕ) → {found : Option (List ℕ)} {entries table : List (List ℕ × List ℕ)} →
    found ≡ string_in entries code → entries ≡ table → found ≡ string_in table code
said-by code same is = same ∙ ap (λ (entries : List (List ℕ × List ℕ)). string_in entries code) is
