-- The forms of strings and numbers that edits are tested for; this project's profile.
use Rattle.std.specs.Prelude.{ℕ, ◌==◌, ◌&&◌, ◌||◌, ◌^◌, not, nat_le, Bool, if◌then◌else◌, List, length, map, slice_index, Option, None, replicate, unwrap_or}
use Rattle.std.specs.Char.{is_ascii_digit, is_ascii_lowercase, is_ascii_alphanumeric, is_ascii_graphic, to_ascii_lowercase}
use Rattle.std.specs.List.{list_all}
use Rattle.std.specs.Result.{result_ok}
use Rattle.std.specs.Str.{bytes_eq}
use Rattle.hex.specs.Hex.{decode_sized}

-- the string has from `least` to `most` bytes
abbrev pub has_length : ℕ → ℕ → List ℕ → Bool
has_length least most text = nat_le least (length text) && nat_le (length text) most

-- rule: App identifier
-- an app's identifier: 1 to 256 visible ASCII bytes
abbrev pub is_app_id : List ℕ → Bool
is_app_id text = has_length 1 256 text && list_all is_ascii_graphic text

-- rule: Same app
-- two identifiers name one app: they are equal but for the case of ASCII letters
abbrev pub same_id : List ℕ → List ℕ → Bool
same_id left right = bytes_eq (map to_ascii_lowercase left) (map to_ascii_lowercase right)

-- a byte of a cohort's name: a lower-case letter, a digit or `-`
abbrev pub is_cohort_byte : ℕ → Bool
is_cohort_byte byte = is_ascii_lowercase byte || is_ascii_digit byte || byte == 45

-- rule: Cohort name
-- a cohort's name: 1 to 32 such bytes
abbrev pub is_cohort_name : List ℕ → Bool
is_cohort_name text = has_length 1 32 text && list_all is_cohort_byte text

-- a byte of a package's name: a letter, a digit, `.`, `_` or `-`
abbrev pub is_package_byte : ℕ → Bool
is_package_byte byte = is_ascii_alphanumeric byte || byte == 46 || byte == 95 || byte == 45

-- rule: Package name
-- a package's name: 1 to 128 such bytes, the first of them not `.`
abbrev pub is_package_name : List ℕ → Bool
is_package_name text = has_length 1 128 text && list_all is_package_byte text && not (slice_index text 0 == 46)

-- a lower-case hexadecimal digit
abbrev pub is_hash_digit : ℕ → Bool
is_hash_digit byte = is_ascii_digit byte || (nat_le 97 byte && nat_le byte 102)

-- rule: Hash
-- the 32 bytes that 64 lower-case hexadecimal digits spell, or none for any other string
unfoldable pub hash_of : List ℕ → Option (List ℕ)
hash_of text = if list_all is_hash_digit text then result_ok (decode_sized text 32) else None

-- the hash that a string spells, or 32 zeros if it spells none
abbrev pub hash_named : List ℕ → List ℕ
hash_named text = unwrap_or (hash_of text) (replicate 32 0)

-- a hash: 32 bytes
abbrev pub is_hash : List ℕ → Bool
is_hash hash = (length hash == 32) && list_all (λ byte. nat_le byte 255) hash

-- rule: Size
-- a package's bytes: 1 to 2^40
abbrev pub is_size : ℕ → Bool
is_size size = nat_le 1 size && nat_le size (2 ^ 40)
