-- A reading has a row for each release.
use Rattle.std.proofs.Common.{◌≡◌, ℕ, ◌+◌, suc, List, [], ◌∷◌, length, Option, None, Some, Result, Ok, Err, refl, sym, ap, ◌∙◌}
use Rattle.catalogue.specs.declared.content.Release.{Release}
use Rattle.price_cert.specs.declared.row.Row.{Row}
use Rattle.certificates.specs.Reading.{line_split, on_line, read_row, read_rows, rows_after, with_row}
use Rattle.certificates.specs.declared.fault.Fault.{Fault}
use Rattle.certificates.specs.declared.fault.Flaw.{Flaw}

pub length-read_rows :
    (all releases : List Release) (n : ℕ) (text : List ℕ) (rows : List Row) →
    read_rows all releases n text ≡ Ok rows → length rows ≡ length releases
unfolding read_rows
length-read_rows all [] n [] rows read =
    let same : [] ≡ rows = ap (λ (r : Result (List Row) Fault). result_or r rows) read in
    sym (ap length same)
  where
    result_or : Result (List Row) Fault → List Row → List Row
    result_or (Ok found) other = found
    result_or (Err fault) other = other
length-read_rows all [] n (byte ∷ text) rows read = cc
length-read_rows all (release ∷ others) n text rows read =
    by_line (line_split text) (λ rest found is. length-read_rows all others (n + 1) rest found is) read
  where
    Counted : Type 0
    Counted = (rest : List ℕ) (found : List Row) → read_rows all others (n + 1) rest ≡ Ok found →
        length found ≡ length others

    result_or : Result (List Row) Fault → List Row → List Row
    result_or (Ok found) other = found
    result_or (Err fault) other = other

    by_rest :
        (row : Row) (rest : List ℕ) (found : Result (List Row) Fault) → Counted →
        read_rows all others (n + 1) rest ≡ found →
        with_row n (Ok row) found ≡ Ok rows → length rows ≡ suc (length others)
    by_rest row rest (Ok found) counted is read =
        let same : row ∷ found ≡ rows = ap (λ (r : Result (List Row) Fault). result_or r rows) read in
        sym (ap length same) ∙ ap suc (counted rest found is)
    by_rest row rest (Err fault) counted is read = cc

    by_row :
        (rest : List ℕ) (found : Result Row Flaw) → Counted →
        with_row n found (read_rows all others (n + 1) rest) ≡ Ok rows → length rows ≡ suc (length others)
    by_row rest (Ok row) counted read = by_rest row rest (read_rows all others (n + 1) rest) counted refl read
    by_row rest (Err flaw) counted read = cc

    by_line :
        (split : Option (List ℕ × List ℕ)) → Counted →
        on_line n split (λ line rest. with_row n (read_row all release.spelled line)
        (read_rows all others (n + 1) rest)) ≡ Ok rows →
        length rows ≡ suc (length others)
    by_line None counted read = cc
    by_line (Some parts) counted read = by_row parts.1 (read_row all release.spelled parts.0) counted read

-- so have the rows after the headings
pub length-rows_after :
    (releases : List Release) (headings : Result (List ℕ) Fault) (rows : List Row) →
    rows_after releases headings ≡ Ok rows → length rows ≡ length releases
length-rows_after releases (Ok text) rows read = length-read_rows releases releases 8 text rows read
length-rows_after releases (Err fault) rows read = cc
