-- Paths, in which no line ends: a key with a control character is there with its bytes escaped.
use Rattle.std.proofs.Common.{◌≡◌, ℕ, ◌/◌, ◌%◌, ◌||◌, not, List, [], ◌∷◌, ◌++◌, Bool, true, false, codes, refl, ap}
use Rattle.std.specs.Char.{is_ascii_control}
use Rattle.std.specs.Fmt.{digit_glyph}
use Rattle.percent_encoding.specs.AsciiSet.{should_percent_encode}
use Rattle.percent_encoding.specs.Percent.{encode_byte, percent_encode, percent_encode_byte}
use Rattle.streams.specs.Strings.{ascii_controls, begins_control, has_control, has_control_after, shown_string}
use Rattle.profile_toml.specs.TableLaws.{IsOneLine, ends_line, place_below}
use Rattle.profile_toml.specs.Paths.{indexed, path_of}
use Rattle.profile_toml.proofs.LineLemmas.{IsOneLine-append, IsOneLine-cond, IsOneLine-cons, IsOneLine-indexed, ends_line-apart, ends_line-digit_glyph}

IsOneLine-percent_encode_byte : (byte : ℕ) → IsOneLine (percent_encode_byte byte)
unfolding percent_encode_byte
IsOneLine-percent_encode_byte byte =
    let high = digit_glyph true (byte / 16 % 16) in
    let low = digit_glyph true (byte % 16) in
    IsOneLine-cons 37 (high ∷ low ∷ []) refl
    (IsOneLine-cons high (low ∷ []) (ends_line-digit_glyph true (byte / 16 % 16))
    (IsOneLine-cons low [] (ends_line-digit_glyph true (byte % 16)) refl))

-- of the bytes, those that end a line are escaped
ends_line-kept : (byte : ℕ) → should_percent_encode ascii_controls byte ≡ false → ends_line byte ≡ false
unfolding should_percent_encode
ends_line-kept byte kept =
    ends_line-apart (λ c. not (should_percent_encode ascii_controls c)) refl refl byte (ap not kept)

IsOneLine-encode_byte : (byte : ℕ) → IsOneLine (encode_byte ascii_controls byte)
IsOneLine-encode_byte byte =
    IsOneLine-cond (should_percent_encode ascii_controls byte) (percent_encode_byte byte) (byte ∷ [])
    (λ escaped. IsOneLine-percent_encode_byte byte)
    (λ kept. IsOneLine-cons byte [] (ends_line-kept byte kept) refl)

IsOneLine-percent_encode : (bytes : List ℕ) → IsOneLine (percent_encode ascii_controls bytes)
unfolding percent_encode
IsOneLine-percent_encode [] = refl
IsOneLine-percent_encode (byte ∷ bytes) =
    IsOneLine-append (encode_byte ascii_controls byte) (percent_encode ascii_controls bytes)
    (IsOneLine-encode_byte byte) (IsOneLine-percent_encode bytes)

none_of_three : (one other last : Bool) → (one || other || last) ≡ false → (one ≡ false) × (last ≡ false)
none_of_three false false false none = (refl, refl)
none_of_three true other last none = absurd (cc)
none_of_three false true last none = absurd (cc)
none_of_three false false true none = absurd (cc)

-- bytes among which there is no control character
IsOneLine-plain : (last : ℕ) (bytes : List ℕ) → has_control_after last bytes ≡ false → IsOneLine bytes
IsOneLine-plain last [] plain = refl
IsOneLine-plain last (byte ∷ bytes) plain =
    let none = none_of_three (is_ascii_control byte) (begins_control last byte) (has_control_after byte bytes) plain in
    IsOneLine-cons byte bytes
    (ends_line-apart (λ c. not (is_ascii_control c)) refl refl byte (ap not none.0))
    (IsOneLine-plain byte bytes none.1)

IsOneLine-shown_string : (string : List ℕ) → IsOneLine (shown_string string)
IsOneLine-shown_string [] = refl
IsOneLine-shown_string (byte ∷ bytes) =
    IsOneLine-cond (has_control (byte ∷ bytes)) (percent_encode ascii_controls (byte ∷ bytes)) (byte ∷ bytes)
    (λ odd. IsOneLine-percent_encode (byte ∷ bytes)) (IsOneLine-plain 0 (byte ∷ bytes))

-- the path of a key of a table whose place is one line
pub IsOneLine-path_of : (place key : List ℕ) → IsOneLine place → IsOneLine (path_of place key)
IsOneLine-path_of place key of_place =
    IsOneLine-append place (shown_string key) of_place (IsOneLine-shown_string key)

-- the place of an element of a list whose path is one line
pub IsOneLine-element : (list : List ℕ) (index : ℕ)
    → IsOneLine list → IsOneLine (indexed list index ++ codes ".")
IsOneLine-element list index of_list =
    IsOneLine-append (indexed list index) (codes ".") (IsOneLine-indexed list index of_list) refl

pub IsOneLine-place_below : (steps : List (List ℕ × ℕ)) → IsOneLine (place_below steps)
IsOneLine-place_below [] = refl
IsOneLine-place_below (step ∷ outer) =
    let of_list = IsOneLine-path_of (place_below outer) step.0 (IsOneLine-place_below outer) in
    IsOneLine-element (path_of (place_below outer) step.0) step.1 of_list
