-- Mirrors after a raise of a budget are mirrors that a profile may name.
use Rattle.std.proofs.Common.{◌≡◌, ◌∙◌, zero, suc, Result, Ok, Err, ◌<◌, ◌≤◌, ◌+◌, ◌&&◌, Bool, cond, ℕ, List, [], ◌∷◌, length, nat_le, true, ap, arith, get_or, refl, set, subst, sym}
use Rattle.std.specs.List.{count_by, list_all}
use Rattle.std.specs.Str.{bytes_eq}
use Rattle.std.proofs.lemmas.Bool.{and_parts}
use Rattle.std.proofs.lemmas.Bool.Decides.{nat_tests}
use Rattle.mirror_ledger.specs.Raising.{RaisesTo, raise_at}
use Rattle.mirror_ledger.specs.declared.raise_error.RaiseError.{RaiseError}
use Rattle.mirror_ledger.specs.declared.raise_error.RaiseError.TheVariants as fault
use Rattle.profile_toml.specs.Laws.{AreMirrors}
use Rattle.profile_toml.specs.Mirrors.{is_named, max_mirrors}
use Rattle.catalogue.specs.Forms.{is_cohort_name}
use Rattle.catalogue.specs.Mirrors.{is_codebase, is_mirror, max_budget}
use Rattle.catalogue.specs.declared.mirror.Mirror.{Mirror}
use Rattle.values.proofs.ChangedLemmas.{count_by-cons}

both-from : (a b : Bool) → a ≡ true → b ≡ true → (a && b) ≡ true
both-from a b one other = ap (λ c. c && b) one ∙ other

nat_le-from : (a b : ℕ) → a ≤ b → nat_le a b ≡ true
nat_le-from a b below = grind (arith, nat_tests)

-- the mirror at an index in place of itself, with another budget
pub raise_at-set : (mirrors : List Mirror) (index budget : ℕ) (mirror : Mirror) → mirror ≡ get_or mirrors index mirror →
    index < length mirrors →
    set mirrors index (record { name = mirror.name; codebase = mirror.codebase; budget = budget }) ≡ raise_at mirrors index budget
raise_at-set [] index budget mirror is below = absurd (omega (arith, below))
raise_at-set (first ∷ mirrors) zero budget mirror is below =
    ap (λ (m : Mirror). record { name = m.name; codebase = m.codebase; budget = budget } ∷ mirrors) is
raise_at-set (first ∷ mirrors) (suc index) budget mirror is below =
    ap (λ (rest : List Mirror). first ∷ rest) (raise_at-set mirrors index budget mirror is (omega (arith, below)))

-- a mirror with another budget
abbrev with-budget : Mirror → ℕ → Mirror
with-budget mirror budget = record { name = mirror.name; codebase = mirror.codebase; budget = budget }

-- it stays valid
is_mirror-raised : (mirror : Mirror) (budget : ℕ) → budget ≤ max_budget → is_mirror mirror ≡ true → is_mirror (with-budget mirror budget) ≡ true
is_mirror-raised mirror budget few valid =
    let outer = and_parts _ _ valid in
    both-from (is_cohort_name mirror.name && is_codebase mirror.codebase) _ outer.0 (nat_le-from budget max_budget few)

are_mirrors-raised : (mirrors : List Mirror) (index budget : ℕ) → budget ≤ max_budget → list_all is_mirror mirrors ≡ true →
    list_all is_mirror (raise_at mirrors index budget) ≡ true
are_mirrors-raised [] index budget few valid = refl
are_mirrors-raised (mirror ∷ mirrors) zero budget few valid =
    let parts = and_parts (is_mirror mirror) _ valid in
    ap (λ c. c && list_all is_mirror mirrors) (is_mirror-raised mirror budget few parts.0) ∙ parts.1
are_mirrors-raised (mirror ∷ mirrors) (suc index) budget few valid =
    let parts = and_parts (is_mirror mirror) _ valid in
    ap (λ c. c && list_all is_mirror (raise_at mirrors index budget)) parts.0 ∙ are_mirrors-raised mirrors index budget few parts.1

-- there are as many
length-raised : (mirrors : List Mirror) (index budget : ℕ) → length (raise_at mirrors index budget) ≡ length mirrors
length-raised [] index budget = refl
length-raised (mirror ∷ mirrors) zero budget = refl
length-raised (mirror ∷ mirrors) (suc index) budget = ap suc (length-raised mirrors index budget)

-- and as many of a name
count_named-raised : (name : List ℕ) (mirrors : List Mirror) (index budget : ℕ) →
    count_by (is_named name) (raise_at mirrors index budget) ≡ count_by (is_named name) mirrors
count_named-raised name [] index budget = refl
count_named-raised name (mirror ∷ mirrors) zero budget =
    count_by-cons (is_named name) (with-budget mirror budget) mirrors ∙ sym (count_by-cons (is_named name) mirror mirrors)
count_named-raised name (mirror ∷ mirrors) (suc index) budget =
    count_by-cons (is_named name) mirror (raise_at mirrors index budget)
    ∙ ap (λ n. cond (bytes_eq name mirror.name) 1 0 + n) (count_named-raised name mirrors index budget)
    ∙ sym (count_by-cons (is_named name) mirror mirrors)

AreMirrors-raised : (mirrors : List Mirror) (index budget : ℕ) → budget ≤ max_budget → AreMirrors mirrors → AreMirrors (raise_at mirrors index budget)
AreMirrors-raised mirrors index budget few are =
    let many = sym (length-raised mirrors index budget) in
    record {
      some = subst (λ n. 1 ≤ n) many are.some;
      few = subst (λ n. n ≤ max_mirrors) many are.few;
      formed = are_mirrors-raised mirrors index budget few are.formed;
      once = λ name. subst (λ n. n ≤ 1) (sym (count_named-raised name mirrors index budget)) (are.once name);
    }

-- also if the raise comes to a fault
pub AreMirrors-raises : (old new : List Mirror) (name : List ℕ) (budget : ℕ) (result : Result (Unit {0}) RaiseError) →
    RaisesTo old new name budget result → AreMirrors old → AreMirrors new
AreMirrors-raises old new name budget (Ok done) raises are =
    let (index, at, few, low, same) = raises in subst AreMirrors (sym same) (AreMirrors-raised old index budget few are)
AreMirrors-raises old new name budget (Err fault.UnknownMirror) raises are = subst AreMirrors (sym raises.1) are
AreMirrors-raises old new name budget (Err fault.TooHigh) raises are =
    let (some, high, same) = raises in subst AreMirrors (sym same) are
AreMirrors-raises old new name budget (Err (fault.Lower now)) raises are =
    let (index, at, few, low, is, same) = raises in subst AreMirrors (sym same) are
