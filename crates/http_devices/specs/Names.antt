-- The names of the files that a folder opens; this project's profile.
use Rattle.std.specs.Prelude.{ℕ, ◌==◌, ◌&&◌, not, nat_le, Bool, List, length, slice_index}
use Rattle.std.specs.List.{list_all}

-- a byte of a file's name: neither a slash nor NUL
abbrev pub is_name_byte : ℕ → Bool
is_name_byte byte = not (byte == 47) && not (byte == 0)

-- rule: Name of a file
-- a file's name: 1 to 255 such bytes, the first of them no dot; it names a file of the folder itself
abbrev pub is_file_name : List ℕ → Bool
is_file_name name =
    nat_le 1 (length name) && nat_le (length name) 255 && list_all is_name_byte name
    && not (slice_index name 0 == 46)
