-- How findings print; this project's profile.
use Rattle.std.specs.Prelude.{ℕ, ◌+◌, ◌^◌, List, ◌++◌, codes, decimal}
use Rattle.percent_encoding.specs.Percent.{percent_encode}
use Rattle.percent_encoding.specs.declared.ascii_set.AsciiSet.{AsciiSet}
use Rattle.package_files.specs.declared.finding.Finding.{Finding}
use Rattle.package_files.specs.declared.finding.Mismatch.{Mismatch}
use Rattle.package_files.specs.declared.finding.Mismatch.TheVariants as mismatch

-- what differs
abbrev pub mismatch_string : Mismatch → List ℕ
mismatch_string mismatch.Missing = codes "missing"
mismatch_string mismatch.NotRegular = codes "not a regular file"
mismatch_string (mismatch.Size size declared) = codes "size " ++ decimal size ++ codes ", declared " ++ decimal declared
mismatch_string mismatch.Hash = codes "sha256 differs"
mismatch_string mismatch.Unreadable = codes "unreadable"

-- the bytes below 32, and 127
abbrev pub ascii_controls : AsciiSet
ascii_controls = record { mask = 2 ^ 127 + 0xffff_ffff }

-- rule: Printed finding
-- the name, with each control character and each byte outside ASCII as `%` and two hexadecimal digits, and
-- what differs
abbrev pub finding_string : Finding → List ℕ
finding_string finding =
    percent_encode ascii_controls finding.name ++ codes ": " ++ mismatch_string finding.mismatch
