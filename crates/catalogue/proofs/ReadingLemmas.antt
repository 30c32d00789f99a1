-- How far the reading of a string's parts has come.
use Rattle.std.proofs.Common.{◌≡◌, ℕ, ◌+◌, ◌-◌, ◌<◌, ◌≤◌, ◌≢◌, List, [], ◌∷◌, ◌++◌, length, Some, suc, ap, sym, ◌∙◌, arith, length-append}
use Rattle.std.proofs.Math.ListN.{replicate, set}
use Rattle.std.proofs.Math.Seq.{append_snoc, set-append_seam}
use Rattle.catalogue.specs.declared.spelling.Form.{Form}
use Rattle.catalogue.specs.declared.spelling.Form.TheVariants.{Plain, Lenient}
use Rattle.catalogue.specs.Versions.{max_components, number_in, numbers_of, padded}
use Rattle.catalogue.proofs.SpellingLemmas.{numbers_of-push}

-- these numbers were read from the parts so far, and they and no others were kept
pub record HasRead (form : Form) (parts : List (List ℕ)) (components : List ℕ) (count : ℕ) (numbers : List ℕ) : Type 0 where
  pub spelled : numbers_of form parts ≡ Some numbers
  pub kept : components ≡ padded numbers
  pub counted : count ≡ length numbers
  pub passed : count ≡ length parts
  pub within : count ≤ max_components form

-- no form takes more components than a version has
pub max_components-le : (form : Form) → max_components form ≤ 16
max_components-le Plain = omega arith
max_components-le Lenient = omega arith

-- a number written after the others
padded-push :
    (numbers : List ℕ) (number : ℕ) →
    length numbers < 16 →
    set (padded numbers) (length numbers) number ≡ padded (numbers ++ number ∷ [])
padded-push numbers number short =
    let left : ℕ = 15 - length numbers in
    let before : 16 - length numbers ≡ suc left = omega arith in
    let after : 16 - length (numbers ++ number ∷ []) ≡ left = omega (arith, length-append numbers (number ∷ [])) in
    ap (λ zeros. set (numbers ++ replicate zeros 0) (length numbers) number) before
    ∙ set-append_seam numbers 0 (replicate left 0) number
    ∙ sym (append_snoc numbers number (replicate left 0))
    ∙ ap (λ zeros. (numbers ++ number ∷ []) ++ replicate zeros 0) (sym after)

-- one more part was read
pub HasRead-push :
    (form : Form) (parts : List (List ℕ)) (components : List ℕ) (count : ℕ) (numbers part : List ℕ) (number : ℕ) →
    HasRead form parts components count numbers →
    count ≢ max_components form →
    number_in form part ≡ Some number →
    HasRead form (parts ++ part ∷ []) (set components count number) (count + 1) (numbers ++ number ∷ [])
HasRead-push form parts components count numbers part number so_far more spells =
    let room : length numbers < 16 = omega (arith, max_components-le form, so_far.counted) in
    record {
      spelled = numbers_of-push form parts part numbers number so_far.spelled spells;
      kept = rw (so_far.kept, so_far.counted) (padded-push numbers number room);
      counted = omega (arith, so_far.counted, length-append numbers (number ∷ []));
      passed = omega (arith, so_far.passed, length-append parts (part ∷ []));
      within = omega (arith, so_far.within);
    }
