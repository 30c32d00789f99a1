-- What is before a byte at the end of a string.
use Rattle.std.proofs.Common.{◌≡◌, ◌≢◌, Bor, ℕ, Bool, cond, List, [], ◌∷◌, ◌++◌, reverse, Option, None, Some, refl, sym, ap, ◌∙◌, inl, inr}
use Rattle.std.specs.Option.{MatchOption, option_map}
use Rattle.std.proofs.lemmas.Bool.{cases_eq, eq-eqb, ne_eqb}
use Rattle.std.proofs.lemmas.List.{reverse-append, reverse-reverse}
use Rattle.cohorts.specs.Pins.{after, before}

after-head : (byte : ℕ) (others : List ℕ) → after byte (byte ∷ others) ≡ Some (reverse others)
after-head byte others = ap (λ (same : Bool). cond same (Some (reverse others)) None) (eq-eqb byte byte refl)

before-Some : (byte : ℕ) (text start : List ℕ) → text ≡ start ++ byte ∷ [] → before byte text ≡ Some start
before-Some byte text start is =
    let backwards : reverse text ≡ byte ∷ reverse start = ap reverse is ∙ reverse-append start (byte ∷ []) in
    ap (after byte) backwards ∙ after-head byte (reverse start) ∙ ap Some (reverse-reverse start)

after-None :
    (byte : ℕ) (text backwards : List ℕ) → text ≡ reverse backwards →
    ((front : List ℕ) → text ≡ front ++ byte ∷ [] → ⊥) → after byte backwards ≡ None
after-None byte text [] is never = refl
after-None byte text (last ∷ others) is never =
    elim (cases_eq last byte) [
      | inl same ↦
          absurd (never (reverse others) (is ∙ reverse-append (last ∷ []) others ∙ ap (λ (n : ℕ). reverse others ++ n ∷ []) same))
      | inr other ↦ ap (λ (found : Bool). cond found (Some (reverse others)) None) (ne_eqb last byte other)
    ]

before-None : (byte : ℕ) (text : List ℕ) → ((front : List ℕ) → text ≡ front ++ byte ∷ [] → ⊥) → before byte text ≡ None
before-None byte text never = after-None byte text (reverse text) (sym (reverse-reverse text)) never

-- what is found before a byte at the end, if the string ends with it
pub before-found :
    (byte : ℕ) (text : List ℕ) (found : Option (Bor (List ℕ))) →
    MatchOption found ((front : List ℕ) → text ≢ front ++ byte ∷ []) (λ start. text ≡ start.now ++ byte ∷ []) →
    option_map (λ (start : Bor (List ℕ)). start.now) found ≡ before byte text
before-found byte text None never = sym (before-None byte text never)
before-found byte text (Some start) is = sym (before-Some byte text start.now is)
