-- What is kept of the `Content-Length` fields, one field at a time.
use Rattle.std.proofs.Common.{◌≡◌, ℕ, ◌+◌, ◌*◌, ◌<◌, List, [], ◌∷◌, ◌++◌, length, get_or, take, min, refl, ap, ◌∙◌, arith}
use Rattle.std.specs.Prelude.{Ok, Err}
use Rattle.std.specs.Char.{digit_value}
use Rattle.std.specs.Str.Parse.{digits_value}
use Rattle.std.proofs.lemmas.Int.Digits.{digits_value_more}
use Rattle.http_wire.specs.Framing.{length_by, length_in}
use Rattle.http_wire.specs.Lengths.{IsLengthOf}
use Rattle.http_wire.specs.declared.heads.status.Status.{Status}
use Rattle.http_wire.specs.declared.heads.status.Status.TheVariants as status
use Rattle.http_wire.specs.declared.heads.body_length.Length.{Length}
use Rattle.http_wire.specs.declared.heads.body_length.Length.TheVariants as lengths

pub IsLengthOf-known :
    (values : List (List ℕ)) (value : List ℕ) (size : ℕ) →
    values ≡ [] →
    length_in value ≡ Ok size →
    IsLengthOf (lengths.Known size) (values ++ value ∷ [])
IsLengthOf-known values value size none known = (value, ap (λ (before : List (List ℕ)). before ++ value ∷ []) none, known)

pub IsLengthOf-refused :
    (values : List (List ℕ)) (value : List ℕ) (why : Status) →
    values ≡ [] →
    length_in value ≡ Err why →
    IsLengthOf (lengths.Refused why) (values ++ value ∷ [])
IsLengthOf-refused values value why none refused =
    let alone = ap (λ (before : List (List ℕ)). before ++ value ∷ []) none in
    (value, [], alone, λ method. ap (length_by method) alone ∙ refused)

two_refused :
    (method : List ℕ) (first : List ℕ) (more : List (List ℕ)) (last : List ℕ) →
    length_by method (first ∷ (more ++ last ∷ [])) ≡ Err status.BadRequest
two_refused method first [] last = refl
two_refused method first (second ∷ more) last = refl

one_more_refused :
    (values : List (List ℕ)) (first : List ℕ) (more : List (List ℕ)) (value : List ℕ) →
    values ≡ first ∷ more →
    IsLengthOf (lengths.Refused status.BadRequest) (values ++ value ∷ [])
one_more_refused values first more value some =
    let longer = ap (λ (before : List (List ℕ)). before ++ value ∷ []) some in
    (first, more ++ value ∷ [], longer, λ method. ap (length_by method) longer ∙ two_refused method first more value)

pub IsLengthOf-twice :
    (kept : Length) (values : List (List ℕ)) (value : List ℕ) →
    (kept ≡ lengths.Missing → ⊥) →
    IsLengthOf kept values →
    IsLengthOf (lengths.Refused status.BadRequest) (values ++ value ∷ [])
IsLengthOf-twice lengths.Missing values value some stands = absurd (some refl)
IsLengthOf-twice (lengths.Known size) values value some (first, alone, known) =
    one_more_refused values first [] value alone
IsLengthOf-twice (lengths.Refused why) values value some (first, more, several, refused) =
    one_more_refused values first more value several

-- a number that stops growing past a maximum, one digit on
pub min-digits :
    (value : List ℕ) (at number digit : ℕ) →
    at < length value →
    digit ≡ digit_value (get_or value at 0) →
    number ≡ min (digits_value 10 (take at value)) 262145 →
    min (number * 10 + digit) 262145 ≡ min (digits_value 10 (take (at + 1) value)) 262145
min-digits value at number digit inside is_digit kept =
    omega (arith, digits_value_more 10 value at inside)
