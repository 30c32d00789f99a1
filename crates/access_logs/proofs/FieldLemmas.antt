-- The fields of a head, looked through one by one.
use Rattle.std.proofs.Common.{◌≡◌, ◌<◌, ℕ, suc, Bool, List, length, drop, map, Some, ap, if◌then◌else◌}
use Rattle.std.specs.Prelude.{slice_index_or}
use Rattle.std.specs.Char.{to_ascii_lowercase}
use Rattle.std.specs.Bool.{Decides}
use Rattle.std.proofs.Math.Seq.{drop-cons}
use Rattle.std.proofs.lemmas.Bool.Decides.{same_from_decides}
use Rattle.std.proofs.lemmas.Slice.Eq.{bytes_eq-Decides}
use Rattle.httparse.specs.Borrowed.{header_parts}
use Rattle.httparse.specs.declared.borrowed.Header.{Header}
use Rattle.access_logs.specs.Entries.{is_named, value_named}

-- the field at an index has the name, or not
pub value_named-at :
    (name : List ℕ) (fields : List Header) (i : ℕ) (d : Header) → i < length fields →
    value_named name (map header_parts (drop i fields))
    ≡ (if is_named name (header_parts (slice_index_or fields i d)) then Some (slice_index_or fields i d).value.now
    else value_named name (map header_parts (drop (suc i) fields)))
value_named-at name fields i d within =
    ap (λ (rest : List Header). value_named name (map header_parts rest)) (drop-cons fields i d within)

-- the test of a name, by what it decides
pub named_is :
    (name : List ℕ) (field : List ℕ × List ℕ) (is : Bool) →
    Decides is (map to_ascii_lowercase field.0 ≡ map to_ascii_lowercase name) → is_named name field ≡ is
named_is name field is test =
    same_from_decides (is_named name field) is
    (bytes_eq-Decides (map to_ascii_lowercase field.0) (map to_ascii_lowercase name)) test
