-- What is said of the codes and words that the program prints; this project's profile.
use Rattle.std.specs.Prelude.{ℕ, List, [], ◌∷◌, map, Option, Some, None, bytes_eq, if◌then◌else◌}
use Rattle.std.specs.Borrow.{Bor}
use Rattle.std.specs.Option.{option_or}
use Rattle.failures.specs.declared.explanations.budgets.TheConstants.{BUDGETS}
use Rattle.failures.specs.declared.explanations.certificate_codes.TheConstants.{CERTIFICATES}
use Rattle.failures.specs.declared.explanations.edits.TheConstants.{EDITS}
use Rattle.failures.specs.declared.explanations.lines.TheConstants.{LINES}
use Rattle.failures.specs.declared.explanations.profiles.TheConstants.{PROFILES}
use Rattle.failures.specs.declared.explanations.requests.TheConstants.{REQUESTS}
use Rattle.failures.specs.declared.explanations.walks.TheConstants.{WALKS}
use Rattle.failures.specs.declared.explanations.words.TheConstants.{WORDS}

-- what the first entry of a code says
abbrev pub string_in : List (List ℕ × List ℕ) → List ℕ → Option (List ℕ)
string_in [] code = None
string_in (entry ∷ entries) code = if bytes_eq entry.0 code then Some entry.1 else string_in entries code

-- the entries of a table
abbrev pub entries_of : List (Bor (List ℕ) × Bor (List ℕ)) → List (List ℕ × List ℕ)
entries_of table = map (λ entry. (entry.0.now, entry.1.now)) table

-- rule: Explanation of a code
-- what the code's entry says, which is in one of the tables; none if no table has one
abbrev pub explanation_of : List ℕ → Option (List ℕ)
explanation_of code =
    option_or (option_or (option_or (option_or (option_or (option_or (option_or
    (string_in (map (λ entry. (entry.0.now, entry.1.now)) EDITS) code)
    (string_in (map (λ entry. (entry.0.now, entry.1.now)) BUDGETS) code))
    (string_in (map (λ entry. (entry.0.now, entry.1.now)) PROFILES) code))
    (string_in (map (λ entry. (entry.0.now, entry.1.now)) REQUESTS) code))
    (string_in (map (λ entry. (entry.0.now, entry.1.now)) CERTIFICATES) code))
    (string_in (map (λ entry. (entry.0.now, entry.1.now)) WALKS) code))
    (string_in (map (λ entry. (entry.0.now, entry.1.now)) WORDS) code))
    (string_in (map (λ entry. (entry.0.now, entry.1.now)) LINES) code)
