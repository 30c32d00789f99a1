-- The lines of totals, one after the other.
use Rattle.std.proofs.Common.{◌≡◌, ◌<◌, ◌≤◌, ◌+◌, ◌++◌, ◌∙◌, ℕ, List, [], ◌∷◌, drop, flat_map, get_or, length, min, refl, suc, sym, zero, arith, ap}
use Rattle.std.proofs.lemmas.List.{append-nil, append_assoc, drop_all, map-append}
use Rattle.std.proofs.lemmas.Slice.Zip.{length-zip}
use Rattle.std.specs.List.{zip}
use Rattle.catalogue.specs.declared.mirror.Mirror.{Mirror}
use Rattle.service_desks.specs.Totals.{names_of, total_line}

pub names_of-last : (mirrors : List Mirror) (mirror : Mirror) → names_of (mirrors ++ mirror ∷ []) ≡ names_of mirrors ++ mirror.name ∷ []
names_of-last mirrors mirror = map-append (λ (m : Mirror). m.name) mirrors (mirror ∷ [])

-- the lines from an index on are the one there and those after it
lines-next :
    (names : List (List ℕ)) (totals : List ℕ) (index : ℕ) (name : List ℕ) → index < length names → index < length totals →
    flat_map total_line (drop index (zip names totals))
    ≡ total_line (get_or names index name, get_or totals index 0) ++ flat_map total_line (drop (suc index) (zip names totals))
lines-next [] totals index name named summed = absurd (omega (arith, named))
lines-next (first ∷ names) [] index name named summed = absurd (omega (arith, summed))
lines-next (first ∷ names) (total ∷ totals) zero name named summed = refl
lines-next (first ∷ names) (total ∷ totals) (suc index) name named summed =
    lines-next names totals index name (omega (arith, named)) (omega (arith, summed))

pub totals-next :
    (text : List ℕ) (names : List (List ℕ)) (totals : List ℕ) (index : ℕ) (name : List ℕ) → index < length names → index < length totals →
    (text ++ total_line (get_or names index name, get_or totals index 0)) ++ flat_map total_line (drop (index + 1) (zip names totals))
    ≡ text ++ flat_map total_line (drop index (zip names totals))
totals-next text names totals index name named summed =
    let one : index + 1 ≡ suc index = omega arith in
    append_assoc text _ _
    ∙ ap (λ (k : ℕ). text ++ (total_line (get_or names index name, get_or totals index 0) ++ flat_map total_line (drop k (zip names totals)))) one
    ∙ ap (λ (lines : List ℕ). text ++ lines) (sym (lines-next names totals index name named summed))

pub totals-end :
    (text : List ℕ) (names : List (List ℕ)) (totals : List ℕ) (index : ℕ) → min (length names) (length totals) ≤ index →
    text ++ flat_map total_line (drop index (zip names totals)) ≡ text
totals-end text names totals index past =
    rw (drop_all index (zip names totals) (omega (arith, past, length-zip names totals))) (append-nil text)
