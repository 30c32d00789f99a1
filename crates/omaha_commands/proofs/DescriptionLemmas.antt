-- Descriptions of paths, one after the other.
use Rattle.std.proofs.Common.{◌≡◌, ◌<◌, ◌+◌, ℕ, List, [], ◌∷◌, ◌++◌, get_or, inl, inr, length, refl, sym, ap, ◌∙◌, subst, take, zero, suc, arith}
use Rattle.std.proofs.lemmas.List.{append-nil, append_assoc, take_more}
use Rattle.std.specs.Prelude.{Ok, Err}
use Rattle.package_files.specs.declared.describing.DescribeError.{DescribeError}
use Rattle.package_files.specs.Paths.{IsDescribed}
use Rattle.package_files.specs.Storages.{Storage}
use Rattle.omaha_commands.specs.Describing.{AreDescribed, IsFailureAt, IsFound}
use Rattle.failures.specs.declared.failure.Failure.{Failure}

-- one more file is described
AreDescribed-more :
    (storage : Storage) (paths : List (List ℕ)) (path text more : List ℕ) →
    AreDescribed storage paths text → IsDescribed storage path (Ok more) →
    AreDescribed storage (paths ++ path ∷ []) (text ++ more)
AreDescribed-more storage [] path text more none is =
    (more, [], is, ap (λ (t : List ℕ). t ++ more) none ∙ sym (append-nil more), refl)
AreDescribed-more storage (first ∷ paths) path text more (one, later, is, same, rest) last = (
  one,
  later ++ more,
  is,
  ap (λ (t : List ℕ). t ++ more) same ∙ append_assoc one later more,
  AreDescribed-more storage paths path later more rest last,
)

-- the file of the path at an index is described, too
pub AreDescribed-item :
    (storage : Storage) (paths : List (List ℕ)) (index : ℕ) (path text more after : List ℕ) →
    index < length paths → path ≡ get_or paths index path →
    AreDescribed storage (take index paths) text → IsDescribed storage path (Ok more) → after ≡ text ++ more →
    AreDescribed storage (take (index + 1) paths) after
AreDescribed-item storage paths index path text more after within here before is grown =
    let one : take (index + 1) paths ≡ take index paths ++ path ∷ [] =
    take_more paths index path within ∙ ap (λ (p : List ℕ). take index paths ++ p ∷ []) (sym here) in
    subst (λ (ps : List (List ℕ)). AreDescribed storage ps after) (sym one)
    (subst (λ (t : List ℕ). AreDescribed storage (take index paths ++ path ∷ []) t) (sym grown)
    (AreDescribed-more storage (take index paths) path text more before is))

-- a list around the item at an index
around :
    (paths : List (List ℕ)) (index : ℕ) (path : List ℕ) → index < length paths → path ≡ get_or paths index path →
    (after : List (List ℕ)) × (paths ≡ take index paths ++ path ∷ after)
around [] index path within here = absurd (omega (arith, within))
around (first ∷ rest) zero path within here = (rest, ap (λ (p : List ℕ). p ∷ rest) (sym here))
around (first ∷ rest) (suc index) path within here =
    let found = around rest index path (omega (arith, within)) here in
    (found.0, ap (λ (r : List (List ℕ)). first ∷ r) found.1)

-- the file of the path at an index is not described
pub IsFound-stop :
    (storage : Storage) (paths : List (List ℕ)) (index : ℕ) (path text : List ℕ) (reason : DescribeError) (refusal : Failure) →
    index < length paths → path ≡ get_or paths index path →
    AreDescribed storage (take index paths) text → IsDescribed storage path (Err reason) → IsFailureAt path reason refusal →
    IsFound storage paths (Err refusal)
IsFound-stop storage paths index path text reason refusal within here before is (inl memory) = inl memory
IsFound-stop storage paths index path text reason refusal within here before is (inr named) =
    let found = around paths index path within here in
    inr (path, reason, named, (take index paths, found.0, text, found.1, before, is))
