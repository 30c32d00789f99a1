-- What is read of the first item of a list that passes, where one item is put in.
use Rattle.std.proofs.Common.{◌≡◌, Bool, true, false, cond, ◌||◌, List, [], ◌∷◌, ◌++◌, find, Option, Some, None, refl, ap, sym, ◌∙◌}
use Rattle.std.specs.List.{list_any}
use Rattle.std.specs.Option.{option_map_or}
use Rattle.std.proofs.lemmas.Bool.{or_parts}
use Rattle.values.proofs.InsertionLemmas.{Inserts}
use Rattle.values.proofs.SplitLemmas.{find-nowhere}

-- what is read of the first item that passes, or the value if none does
abbrev pub read_found : {A B : Type 0} → (A → B) → B → (A → Bool) → List A → B
read_found read none p xs = option_map_or read (find p xs) none

module _ {A B : Type 0} (read : A → B) (none : B) (p : A → Bool) (item : A) (first : read item ≡ none) where
  read_found-put :
      (front back : List A) → (p item ≡ true → list_any p (front ++ back) ≡ false) →
      read_found read none p (front ++ item ∷ back) ≡ read_found read none p (front ++ back)
  read_found-put [] back fresh = cases (p item) refl
    where
      cases :
          (b : Bool) → p item ≡ b →
          option_map_or read (cond b (Some item) (find p back)) none ≡ option_map_or read (find p back) none
      cases true here =
          first ∙ sym (ap (λ (o : Option A). option_map_or read o none) (find-nowhere p back (fresh here)))
      cases false elsewhere = refl
  read_found-put (x ∷ front) back fresh =
      cases (p x) fresh (read_found-put front back)
    where
      cases :
          (b : Bool) → (p item ≡ true → (b || list_any p (front ++ back)) ≡ false) →
          ((p item ≡ true → list_any p (front ++ back) ≡ false) →
          read_found read none p (front ++ item ∷ back) ≡ read_found read none p (front ++ back)) →
          option_map_or read (cond b (Some x) (find p (front ++ item ∷ back))) none
          ≡ option_map_or read (cond b (Some x) (find p (front ++ back))) none
      cases true apart others = refl
      cases false apart others = others apart

  -- an item that is put in changes nothing, if what is read of it is the value, and if no other passes
  -- if it does
  pub read_found-Inserts :
      (old new : List A) → Inserts item old new → (p item ≡ true → list_any p old ≡ false) →
      read_found read none p new ≡ read_found read none p old
  read_found-Inserts old new h fresh =
      ap (read_found read none p) h.is
      ∙ read_found-put h.front h.back (λ here. ap (list_any p) (sym h.was) ∙ fresh here)
      ∙ ap (read_found read none p) (sym h.was)
