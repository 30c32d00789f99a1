-- What shards find under a name, when an empty one is added or the name's own is replaced.
use Rattle.std.proofs.Common.{◌≡◌, ℕ, zero, suc, ◌<◌, Bool, true, false, cond, inl, inr, List, [], ◌∷◌, ◌++◌, length, Option, None, Some, refl, sym, ap, ◌∙◌, subst}
use Rattle.std.proofs.Math.ListN.{set}
use Rattle.std.specs.List.{slice_get}
use Rattle.std.specs.Option.{option_and_then}
use Rattle.std.specs.Str.{bytes_eq}
use Rattle.std.proofs.lemmas.Bool.{cases_eq}
use Rattle.std.proofs.lemmas.List.{get_or-set_same, length-set}
use Rattle.std.proofs.lemmas.Option.{slice_get-get_or}
use Rattle.std.proofs.lemmas.Slice.Eq.{bytes_eq-Decides}
use Rattle.values.specs.declared.declared.Declared.{Declared}
use Rattle.catalogue.specs.PackageIndex.{found_among, found_in_shard, shard_of}
use Rattle.catalogue.specs.declared.package_index.Shard.{Shard}

read-push :
    {X Y : Type 0} (read : X → Option Y) (xs : List X) (x : X) → read x ≡ None → (i : ℕ) →
    option_and_then read (slice_get (xs ++ x ∷ []) i) ≡ option_and_then read (slice_get xs i)
read-push read [] x none zero = none
read-push read [] x none (suc i) = refl
read-push read (y ∷ xs) x none zero = refl
read-push read (y ∷ xs) x none (suc i) = read-push read xs x none i

-- a shard of no packages at the end changes nothing
pub found_among-push :
    (shards : List Shard) (shard : Shard) (name : List ℕ) → found_in_shard shard name ≡ None →
    found_among (shards ++ shard ∷ []) name ≡ found_among shards name
found_among-push shards shard name none =
    read-push (λ (it : Shard). found_in_shard it name) shards shard none (shard_of name)

slice_get-set_other :
    {X : Type 0} (xs : List X) (i j : ℕ) (x : X) → (j ≡ i → ⊥) → slice_get (set xs i x) j ≡ slice_get xs j
slice_get-set_other [] i j x other = refl
slice_get-set_other (y ∷ xs) zero zero x other = absurd (other refl)
slice_get-set_other (y ∷ xs) zero (suc j) x other = refl
slice_get-set_other (y ∷ xs) (suc i) zero x other = refl
slice_get-set_other (y ∷ xs) (suc i) (suc j) x other = slice_get-set_other xs i j x (λ same. other (ap suc same))

slice_get-set_same :
    {X : Type 0} (xs : List X) (i : ℕ) (x : X) → i < length xs → slice_get (set xs i x) i ≡ Some x
slice_get-set_same xs i x within =
    slice_get-get_or (set xs i x) i x (subst (λ n. i < n) (sym (length-set xs i x)) within)
    ∙ ap Some (get_or-set_same xs i x x within)

-- with a name's own shard replaced by one that finds the name too, so do the shards
pub found_among-set :
    (shards : List Shard) (shard old : Shard) (named : List ℕ) (declared : Declared) →
    slice_get shards (shard_of named) ≡ Some old →
    shard_of named < length shards →
    ((other : List ℕ) → found_in_shard shard other ≡ cond (bytes_eq named other) (Some declared) (found_in_shard old other)) →
    (other : List ℕ) →
    found_among (set shards (shard_of named) shard) other ≡ cond (bytes_eq named other) (Some declared) (found_among shards other)
found_among-set shards shard old named declared there within found other =
    elim (cases_eq (shard_of other) (shard_of named)) [
      | inl same ↦
          ap read (ap (slice_get (set shards (shard_of named) shard)) same ∙ slice_get-set_same shards (shard_of named) shard within)
          ∙ found other
          ∙ ap (cond (bytes_eq named other) (Some declared)) (sym (ap read (ap (slice_get shards) same ∙ there)))
      | inr apart ↦
          ap read (slice_get-set_other shards (shard_of named) (shard_of other) shard apart)
          ∙ unnamed (bytes_eq named other) refl apart
    ]
  where
    read : Option Shard → Option Declared
    read found = option_and_then (λ (it : Shard). found_in_shard it other) found

    unnamed :
        (named_so : Bool) → bytes_eq named other ≡ named_so → (shard_of other ≡ shard_of named → ⊥) →
        found_among shards other ≡ cond (bytes_eq named other) (Some declared) (found_among shards other)
    unnamed true same apart =
        let decides = bytes_eq-Decides named other in
        absurd (apart (sym (ap shard_of (decides.0 same))))
    unnamed false same apart = sym (ap (λ b. cond b (Some declared) (found_among shards other)) same)
