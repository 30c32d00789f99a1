-- What opening the file of a package may find; this project's profile.
use Rattle.std.specs.Prelude.{ℕ, Option, None, Some}
use Rattle.http_devices.specs.declared.entry.Entry.{Entry}
use Rattle.http_devices.specs.declared.entry.Entry.TheVariants as entry

-- rule: Opening a package
-- what there may be under one name: a regular file of a size, or why there is none to open
abbrev pub Opens : Type 1
Opens = Entry → Type 0

-- the size of a regular file
abbrev pub size_of : Entry → Option ℕ
size_of (entry.File size) = Some size
size_of entry.Missing = None
size_of entry.NotRegular = None
size_of entry.Unreadable = None
