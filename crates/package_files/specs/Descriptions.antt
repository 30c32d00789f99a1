-- What a profile says of a file; this project's profile.
use Rattle.std.specs.Prelude.{◌≡◌, ◌⊎◌, ⊤, ℕ, true, false, List, ◌++◌, codes, decimal, Option, None, Some, Result, Ok, Err}
use Rattle.hex.specs.Hex.{encode_lower}
use Rattle.http_desks.specs.Downloads.{Reads}
use Rattle.http_devices.specs.declared.entry.Entry.TheVariants as entry
use Rattle.catalogue.specs.Forms.{is_package_name, is_size}
use Rattle.http_devices.specs.Opening.{Opens}
use Rattle.package_files.specs.Hashing.{IsHashed}
use Rattle.package_files.specs.declared.describing.DescribeError.{DescribeError}
use Rattle.package_files.specs.declared.describing.DescribeError.TheVariants as error

-- the lines of a name, a size and the digits of a SHA-256; a package's name needs no escapes
abbrev pub description_string : List ℕ → ℕ → List ℕ → List ℕ
description_string name size digits =
    codes "name = \"" ++ name ++ codes "\"\nsize = " ++ decimal size ++ codes "\nsha256 = \"" ++ digits
    ++ codes "\"\n"

-- the file is opened, and has a size that a profile may have
abbrev pub IsSized : Opens → ℕ → Type 0
IsSized opens size = (is_size size ≡ true) × opens (entry.File size)

-- why there is no such file: it isn't there, it is no regular one, it has a size that no profile may have, it can't
-- be opened, or memory ran out
abbrev pub IsUnopened : Opens → DescribeError → Type 0
IsUnopened opens error.Name = ⊥
IsUnopened opens error.Missing = opens entry.Missing
IsUnopened opens error.NotRegular = opens entry.NotRegular
IsUnopened opens (error.Size size) = (is_size size ≡ false) × opens (entry.File size)
IsUnopened opens error.Unreadable = opens entry.Unreadable
IsUnopened opens error.Memory = ⊤

-- the file has such a size, and is hashed so
abbrev pub IsMeasured : Opens → Reads → ℕ → Option (List ℕ) → Type 0
IsMeasured opens reads size hash = IsSized opens size × IsHashed reads size hash

-- rule: Description of a file
-- the lines of the file's name, its size and its SHA-256; or the name is no package's, there is no such file, it is
-- no regular file, it has a size that no profile may have, it couldn't be read, or memory ran out
abbrev pub Describes : Opens → Reads → List ℕ → Result (List ℕ) DescribeError → Type 0
Describes opens reads name (Ok text) =
    (is_package_name name ≡ true)
    × ((size : ℕ) × (hash : List ℕ) × IsMeasured opens reads size (Some hash)
    × (text ≡ description_string name size (encode_lower hash)))
Describes opens reads name (Err error.Name) = is_package_name name ≡ false
Describes opens reads name (Err error.Missing) =
    (is_package_name name ≡ true) × IsUnopened opens error.Missing
Describes opens reads name (Err error.NotRegular) =
    (is_package_name name ≡ true) × IsUnopened opens error.NotRegular
Describes opens reads name (Err (error.Size size)) =
    (is_package_name name ≡ true) × IsUnopened opens (error.Size size)
Describes opens reads name (Err error.Unreadable) =
    (is_package_name name ≡ true)
    × (IsUnopened opens error.Unreadable ⊎ ((size : ℕ) × IsMeasured opens reads size None))
Describes opens reads name (Err error.Memory) = ⊤

-- why a file is not described, in a few words
abbrev pub error_string : DescribeError → List ℕ
error_string error.Name = codes "no package name"
error_string error.Missing = codes "missing"
error_string error.NotRegular = codes "not a regular file"
error_string (error.Size size) = codes "size " ++ decimal size ++ codes ", allowed 1 to 1099511627776"
error_string error.Unreadable = codes "unreadable"
error_string error.Memory = codes "memory"
