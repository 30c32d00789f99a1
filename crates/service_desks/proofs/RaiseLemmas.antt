-- What the digits of a raise spell.
use Rattle.std.proofs.Common.{◌≡◌, ◌^◌, ◌-◌, ◌<◌, ◌≤◌, ◌⊎◌, ℕ, List, length, true, Result, Ok, Err, arith, inl, inr, subst, sym}
use Rattle.std.specs.Char.{is_ascii_digit}
use Rattle.std.specs.List.{list_all}
use Rattle.std.specs.Result.{result_unwrap_or}
use Rattle.std.specs.Str.Parse.{ParsesUnsigned, digits_value}
use Rattle.std.proofs.lemmas.Bool.{and_parts, cases_lt, leb-true}
use Rattle.std.proofs.lemmas.Str.Parse.{IsNumeralModel, numerals_by_value, parse_digits, tells_all_ascii_digits}
use Rattle.mirror_ledger.specs.Raising.{RaisesTo}
use Rattle.mirror_ledger.specs.declared.raise_error.RaiseError.{RaiseError}
use Rattle.mirror_ledger.specs.declared.raise_error.RaiseError.TheVariants as fault
use Rattle.catalogue.specs.declared.mirror.Mirror.{Mirror}
use Rattle.service_desks.specs.Raises.{is_number}

-- the strings of ASCII digits are those of decimal digits
numerals : IsNumeralModel (λ digits. list_all is_ascii_digit digits ≡ true) (digits_value 10)
numerals = numerals_by_value _ tells_all_ascii_digits

-- what is true of a number's digits
record IsNumber (digits : List ℕ) : Type 0 where
  pub are_digits : list_all is_ascii_digit digits ≡ true
  pub some : 0 < length digits

IsNumber-is_number : (digits : List ℕ) → is_number digits ≡ true → IsNumber digits
IsNumber-is_number digits is =
    let outer = and_parts _ _ is in
    let inner = and_parts _ _ outer.0 in
    record { are_digits = inner.1; some = leb-true _ _ inner.0 }

-- what std's `parse` gives, or the greatest number, is what the digits spell, or above 2^60 as that is
pub record Spells (value read : ℕ) : Type 0 where
  pub same : read ≤ 2 ^ 60 → value ≡ read
  pub high : 2 ^ 60 < read → 2 ^ 60 < value

above : (value : ℕ) → (value < 2 ^ 64) ⊎ (2 ^ 64 ≤ value) → (value < 2 ^ 64 → ⊥) → 2 ^ 60 < value
above value (inl fits) never = absurd (never fits)
above value (inr high) never = omega (arith, high)

pub Spells-parse : {E : Type 0} (digits : List ℕ) (parsed : Result ℕ E) (read : ℕ) → ParsesUnsigned 64 10 digits parsed →
    is_number digits ≡ true → read ≡ result_unwrap_or parsed (2 ^ 64 - 1) → Spells (digits_value 10 digits) read
Spells-parse {E} digits (Ok value) read parses is at =
    let gives = parse_digits numerals {E = E} 64 digits (Ok value) parses (IsNumber-is_number digits is).are_digits in
    record { same = λ low. omega (arith, at, gives.1); high = λ high. omega (arith, at, gives.1) }
Spells-parse {E} digits (Err error) read parses is at =
    let number = IsNumber-is_number digits is in
    let gives = parse_digits numerals {E = E} 64 digits (Err error) parses number.are_digits in
    record {
      same = λ low. absurd (omega (arith, at, low));
      high = λ high. above (digits_value 10 digits) (cases_lt (digits_value 10 digits) (2 ^ 64)) (λ fits. gives (number.some, fits));
    }

-- what a raise to the number that is read comes to is what one to the number that is spelled comes to
pub RaisesTo-spells : (old new : List Mirror) (name : List ℕ) (value read : ℕ) (result : Result (Unit {0}) RaiseError) →
    Spells value read → RaisesTo old new name read result → RaisesTo old new name value result
RaisesTo-spells old new name value read (Ok done) spells raises =
    let (index, at, few, low, same) = raises in
    subst (λ (n : ℕ). RaisesTo old new name n (Ok done)) (sym (spells.same few)) raises
RaisesTo-spells old new name value read (Err fault.UnknownMirror) spells raises = raises
RaisesTo-spells old new name value read (Err fault.TooHigh) spells raises =
    let (some, high, same) = raises in (some, spells.high high, same)
RaisesTo-spells old new name value read (Err (fault.Lower now)) spells raises =
    let (index, at, few, below, is, same) = raises in
    subst (λ (n : ℕ). RaisesTo old new name n (Err (fault.Lower now))) (sym (spells.same few)) raises
