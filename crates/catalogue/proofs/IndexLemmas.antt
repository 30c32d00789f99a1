-- A clone of a map with string keys finds what the map finds.
use Rattle.std.proofs.Common.{◌≡◌, ℕ, List, Option, Some, None, String, string_bytes, ap}
use Rattle.std.specs.BTreeMap.{BTreeMap, IsClone, get_by_text, is_at}
use Rattle.std.specs.Option.{MatchOption, IsSomeAnd}
use Rattle.std.specs.Ordering.{nat_cmp}
use Rattle.std.specs.Cmp.Lexicographic.{slice_cmp}
use Rattle.std.specs.Map.{lookup}
use Rattle.std.proofs.lemmas.Map.Entries.{lookup_clone}

option-from_clone :
    {X : Type 0} (D : X → X → Type 0) →
    ((v w : X) → D v w → w ≡ v) →
    (found copied : Option X) →
    MatchOption found (copied ≡ None) (λ v. IsSomeAnd copied (D v)) →
    copied ≡ found
option-from_clone D exact None copied none = none
option-from_clone D exact (Some v) None none = absurd none
option-from_clone D exact (Some v) (Some w) cloned = ap Some (exact v w cloned)

pub get_by_text-clone :
    {Y X : Type 0} (D : X → X → Type 0) →
    ((v w : X) → D v w → w ≡ v) →
    (m n : BTreeMap (String Y) X) →
    IsClone (λ s t. string_bytes t ≡ string_bytes s) D m n →
    (name : List ℕ) →
    get_by_text n name ≡ get_by_text m name
get_by_text-clone {Y} D exact m n cloned name =
    let test = is_at (λ (k : String Y). slice_cmp nat_cmp name (string_bytes k)) in
    option-from_clone D exact (lookup test m.entries) (lookup test n.entries)
    (lookup_clone (λ s t. string_bytes t ≡ string_bytes s) D test (λ s t same. ap (λ (bytes : List ℕ). is_at (λ (k : List ℕ). slice_cmp nat_cmp name k) bytes) same) m.entries n.entries cloned)
