-- A line without its carriage return.
use Rattle.std.proofs.Common.{◌≡◌, ◌≢◌, Bor, ℕ, ◌-◌, ◌<◌, cond, List, [], ◌∷◌, ◌++◌, arith, get_or, length, take, Option, None, Some, refl, sym, ap, ◌∙◌, inl, inr}
use Rattle.std.specs.Option.{MatchOption}
use Rattle.std.specs.Str.Lines.{strip_carriage_return}
use Rattle.std.proofs.lemmas.Bool.{cases_eq, eq-eqb, ne_eqb}
use Rattle.std.proofs.lemmas.Grind.{common_steps}
use Rattle.std.proofs.lemmas.List.{take_all, take_more}

abbrev last-of : List ℕ → ℕ
last-of line = get_or line (length line - 1) 0

before-last : (line : List ℕ) → 0 < length line → line ≡ take (length line - 1) line ++ last-of line ∷ []
before-last line some =
    sym (ap (λ (n : ℕ). take n line) (omega (arith, some)) ∙ take_all (length line) line (omega arith))
    ∙ take_more line (length line - 1) 0 (omega (arith, some))

stripped-Some : (line start : List ℕ) → line ≡ start ++ 13 ∷ [] → start ≡ strip_carriage_return line
stripped-Some line start is =
    let last : get_or line (length line - 1) 0 ≡ 13 = grind (arith, common_steps) in
    let front : take (length line - 1) line ≡ start = grind (arith, common_steps) in
    sym (ap (λ found. cond found (take (length line - 1) line) line) (eq-eqb _ 13 last) ∙ front)

stripped-None : (line : List ℕ) → ((front : List ℕ) → line ≢ front ++ 13 ∷ []) → line ≡ strip_carriage_return line
stripped-None [] never = refl
stripped-None (byte ∷ others) never =
    let line : List ℕ = byte ∷ others in
    elim (cases_eq (last-of line) 13) [
      | inl same ↦
          absurd (never (take (length line - 1) line)
          (before-last line (omega arith) ∙ ap (λ (n : ℕ). take (length line - 1) line ++ n ∷ []) same))
      | inr other ↦ sym (ap (λ found. cond found (take (length line - 1) line) line) (ne_eqb (last-of line) 13 other))
    ]

-- what is found before a carriage return at the end, else the line
pub stripped :
    (line : List ℕ) (found : Option (Bor (List ℕ))) →
    MatchOption found ((front : List ℕ) → line ≢ front ++ 13 ∷ []) (λ start. line ≡ start.now ++ 13 ∷ []) →
    MatchOption found (line ≡ strip_carriage_return line) (λ start. start.now ≡ strip_carriage_return line)
stripped line None never = stripped-None line never
stripped line (Some start) is = stripped-Some line start.now is
