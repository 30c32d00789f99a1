-- How long the body of a message is (RFC 9112, section 6). Chunked bodies, and bodies of more than
-- 262144 bytes, are rejected; that two `Content-Length` fields are rejected even if they agree is
-- this project's profile.
use Rattle.std.specs.Prelude.{ℕ, Bool, ◌&&◌, List, [], ◌∷◌, length, Result, Ok, Err, if◌then◌else◌, nat_lt, nat_le, bytes_eq, codes}
use Rattle.std.specs.List.{list_all, list_any}
use Rattle.std.specs.Char.{is_ascii_digit}
use Rattle.std.specs.Str.Parse.{digits_value}
use Rattle.http_wire.specs.Fields.{Pair, is_named, values_named}
use Rattle.http_wire.specs.declared.heads.status.Status.{Status}
use Rattle.http_wire.specs.declared.heads.status.Status.TheVariants as status

-- one digit or more, and nothing else
abbrev pub is_number : List ℕ → Bool
is_number value = nat_lt 0 (length value) && list_all is_ascii_digit value

-- the number that the value writes, if it is small enough
abbrev pub length_in : List ℕ → Result ℕ Status
length_in value =
    if is_number value then
    (if nat_le (digits_value 10 value) 262144 then Ok (digits_value 10 value) else Err status.ContentTooLarge)
    else Err status.BadRequest

-- the length by the values of `Content-Length`: only a POST must have one, and nothing has two
abbrev pub length_by : List ℕ → List (List ℕ) → Result ℕ Status
length_by method [] = if bytes_eq method (codes "POST") then Err status.LengthRequired else Ok 0
length_by method (value ∷ []) = length_in value
length_by method (value ∷ another ∷ more) = Err status.BadRequest

-- rule: Length of a body
-- the length of the body, or the status that rejects the message
unfoldable pub framing_of : List ℕ → List Pair → Result ℕ Status
framing_of method fields =
    if list_any (is_named (codes "transfer-encoding")) fields then Err status.NotImplemented
    else length_by method (values_named (codes "content-length") fields)
