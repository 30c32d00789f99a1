-- The lines of pairs, one after the other.
use Rattle.std.proofs.Common.{◌≡◌, ◌<◌, ◌≤◌, ◌+◌, ◌++◌, ◌∙◌, ℕ, List, [], ◌∷◌, drop, flat_map, get_or, length, min, refl, suc, sym, zero, arith, ap}
use Rattle.std.proofs.lemmas.List.{append-nil, append_assoc, drop_all}
use Rattle.std.proofs.lemmas.Slice.Zip.{length-zip}
use Rattle.std.specs.List.{zip}

module _ {A B : Type 0} (line : A × B → List ℕ) where
  -- the lines from an index on are the one there and those after it
  lines-next :
      (keys : List A) (values : List B) (index : ℕ) (key : A) (value : B) → index < length keys → index < length values →
      flat_map line (drop index (zip keys values))
      ≡ line (get_or keys index key, get_or values index value) ++ flat_map line (drop (suc index) (zip keys values))
  lines-next [] values index key value left right = absurd (omega (arith, left))
  lines-next (first ∷ keys) [] index key value left right = absurd (omega (arith, right))
  lines-next (first ∷ keys) (second ∷ values) zero key value left right = refl
  lines-next (first ∷ keys) (second ∷ values) (suc index) key value left right =
      lines-next keys values index key value (omega (arith, left)) (omega (arith, right))

  pub zip-next :
      (text : List ℕ) (keys : List A) (values : List B) (index : ℕ) (key : A) (value : B) → index < length keys → index < length values →
      (text ++ line (get_or keys index key, get_or values index value)) ++ flat_map line (drop (index + 1) (zip keys values))
      ≡ text ++ flat_map line (drop index (zip keys values))
  zip-next text keys values index key value left right =
      let one : index + 1 ≡ suc index = omega arith in
      append_assoc text _ _
      ∙ ap (λ (k : ℕ). text ++ (line (get_or keys index key, get_or values index value) ++ flat_map line (drop k (zip keys values)))) one
      ∙ ap (λ (lines : List ℕ). text ++ lines) (sym (lines-next keys values index key value left right))

  pub zip-end :
      (text : List ℕ) (keys : List A) (values : List B) (index : ℕ) → min (length keys) (length values) ≤ index →
      text ++ flat_map line (drop index (zip keys values)) ≡ text
  zip-end text keys values index past =
      rw (drop_all index (zip keys values) (omega (arith, past, length-zip keys values))) (append-nil text)
