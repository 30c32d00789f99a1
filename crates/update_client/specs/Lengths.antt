-- How long the body of a reply is (RFC 9112, sections 6.1 and 6.3). That no transfer coding but `chunked` alone is accepted,
-- and no second length, even an equal one, is this project's profile.
use Rattle.std.specs.Prelude.{ℕ, Bool, ◌^◌, ◌&&◌, ◌==◌, nat_lt, List, [], ◌∷◌, Result, Ok, Err, if◌then◌else◌, codes, ⊤}
use Rattle.std.specs.Str.Parse.{digits_value}
use Rattle.http_wire.specs.Fields.{Pair, is_same_word, values_named}
use Rattle.http_wire.specs.Framing.{is_number}
use Rattle.update_client.specs.declared.heads.fault.LinkFault.{LinkFault}
use Rattle.update_client.specs.declared.heads.fault.LinkFault.TheVariants as fault
use Rattle.update_client.specs.declared.heads.length.BodyLength.{BodyLength}
use Rattle.update_client.specs.declared.heads.length.BodyLength.TheVariants as body

-- a fault of a head
abbrev pub IsHeadFault : LinkFault → Type 0
IsHeadFault fault.NoHead = ⊤
IsHeadFault fault.ManyFields = ⊤
IsHeadFault fault.TransferCoding = ⊤
IsHeadFault fault.TwoFramings = ⊤
IsHeadFault fault.NoLength = ⊤
IsHeadFault fault.TwoLengths = ⊤
IsHeadFault fault.BadLength = ⊤
IsHeadFault other = ⊥

-- the number that the value writes, if it is below 2^64
abbrev pub length_in : List ℕ → Result ℕ LinkFault
length_in value =
    if is_number value && nat_lt (digits_value 10 value) (2 ^ 64) then Ok (digits_value 10 value)
    else Err fault.BadLength

-- the length by the values of `Content-Length`: there is one
abbrev pub length_by : List (List ℕ) → Result ℕ LinkFault
length_by [] = Err fault.NoLength
length_by (value ∷ []) = length_in value
length_by (value ∷ another ∷ more) = Err fault.TwoLengths

-- a length as that of a body
abbrev pub body_of : Result ℕ LinkFault → Result BodyLength LinkFault
body_of (Ok size) = Ok (body.Known size)
body_of (Err why) = Err why

-- the length of a body without a transfer coding, by the values of `Content-Length`
abbrev pub known_length : List (List ℕ) → Result BodyLength LinkFault
known_length lengths = body_of (length_by lengths)

-- the coding is `chunked`, in any case, and that of a message of HTTP/1.1: in one of HTTP/1.0 it is faulty
abbrev pub is_chunked : ℕ → List ℕ → Bool
is_chunked minor coding = minor == 1 && is_same_word coding (codes "chunked")

-- the length of a chunked body, by the values of `Content-Length`: there is none
abbrev pub chunked_length : List (List ℕ) → Result BodyLength LinkFault
chunked_length [] = Ok body.Chunked
chunked_length (value ∷ more) = Err fault.TwoFramings

-- the length by the values of `Transfer-Encoding` and of `Content-Length`
abbrev pub length_with : ℕ → List (List ℕ) → List (List ℕ) → Result BodyLength LinkFault
length_with minor [] lengths = known_length lengths
length_with minor (coding ∷ []) lengths =
    if is_chunked minor coding then chunked_length lengths else Err fault.TransferCoding
length_with minor (coding ∷ another ∷ more) lengths = Err fault.TransferCoding

-- rule: Length of a reply
-- the length of the body in a reply of HTTP/1.`minor`, or why the reply is rejected
unfoldable pub body_length : ℕ → List Pair → Result BodyLength LinkFault
body_length minor fields =
    length_with minor (values_named (codes "transfer-encoding") fields) (values_named (codes "content-length") fields)
