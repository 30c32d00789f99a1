-- Mirrors that a profile may name are read as they are.
use Rattle.std.proofs.Common.{◌≡◌, ◌≤◌, not, nat_lt, List, [], ◌∷◌, ◌++◌, length, true, false, None, Ok, refl, ap, subst, arith}
use Rattle.std.specs.List.{list_all, list_any}
use Rattle.std.proofs.lemmas.Bool.{and_parts, or_from}
use Rattle.std.proofs.lemmas.Bool.Decides.{nat_tests}
use Rattle.std.proofs.lemmas.Slice.Eq.{bytes_eq-Decides}
use Rattle.catalogue.specs.Mirrors.{is_mirror}
use Rattle.catalogue.specs.declared.mirror.Mirror.{Mirror}
use Rattle.values.proofs.SplitLemmas.{list_any-before, split_next}
use Rattle.values.specs.Lists.{IsOnce}
use Rattle.profile_toml.specs.Laws.{AreMirrors}
use Rattle.profile_toml.specs.Mirrors.{first_invalid_after, valid_mirrors, is_invalid_after, is_named, max_mirrors}

first_invalid_after-none : (front back : List Mirror) → list_all is_mirror back ≡ true → IsOnce is_named (front ++ back)
    → first_invalid_after front back ≡ None
first_invalid_after-none front [] formed once = refl
first_invalid_after-none front (mirror ∷ back) formed once =
    let parts = and_parts (is_mirror mirror) (list_all is_mirror back) formed in
    let same = (bytes_eq-Decides mirror.name mirror.name).1 refl in
    let new = list_any-before is_named front mirror back once mirror.name same in
    let valid : not (is_mirror mirror) ≡ false = ap not parts.0 in
    let good : is_invalid_after front mirror ≡ false =
    or_from (not (is_mirror mirror)) (list_any (is_named mirror.name) front) valid new in
    let P : List Mirror → Type 0 = λ mirrors. IsOnce is_named mirrors in
    rw good (first_invalid_after-none (front ++ mirror ∷ []) back parts.1 (subst P (split_next front mirror back) once))

few-test : (mirrors : List Mirror) → length mirrors ≤ max_mirrors → nat_lt max_mirrors (length mirrors) ≡ false
few-test mirrors few = grind (arith, nat_tests)

pub valid_mirrors-AreMirrors : (mirrors : List Mirror) → AreMirrors mirrors → valid_mirrors mirrors ≡ Ok mirrors
valid_mirrors-AreMirrors [] are = let some = are.some in absurd (omega arith)
valid_mirrors-AreMirrors (mirror ∷ mirrors) are =
    rw (few-test (mirror ∷ mirrors) are.few, first_invalid_after-none [] (mirror ∷ mirrors) are.formed are.once) refl
