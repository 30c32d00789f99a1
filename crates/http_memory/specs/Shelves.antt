-- What is read of files in memory; this project's profile.
use Rattle.std.specs.Prelude.{◌+◌, ℕ, List, [], ◌∷◌, length, take, drop, replicate, bytes_eq, Option, None, Some, if◌then◌else◌, nat_le, min}
use Rattle.std.specs.Borrow.{Bor}
use Rattle.http_memory.specs.declared.shelf.Content.{Content}
use Rattle.http_memory.specs.declared.shelf.Content.TheVariants.{Bytes, Repeated}
use Rattle.http_memory.specs.declared.shelf.File.{File}

-- how many bytes there are
abbrev pub content_size : Content → ℕ
content_size (Bytes bytes) = length bytes.now
content_size (Repeated byte size) = size

-- so many bytes from a place on
abbrev pub part_of_content : Content → ℕ → ℕ → List ℕ
part_of_content (Bytes bytes) at count = take count (drop at bytes.now)
part_of_content (Repeated byte size) at count = replicate count byte

-- rule: File in memory
-- the same of a file, if all of them can be read
abbrev pub part_of_file : File → ℕ → ℕ → Option (List ℕ)
part_of_file file at count =
    if nat_le (at + count) (min (content_size file.content) file.readable) then Some (part_of_content file.content at count)
    else None

-- the first file of a name
abbrev pub find_in : List File → List ℕ → Option File
find_in [] name = None
find_in (file ∷ files) name = if bytes_eq file.name.now name then Some file else find_in files name

-- the file that a reference is to
abbrev pub found_file : Option (Bor File) → Option File
found_file None = None
found_file (Some file) = Some file.now

-- the size of a file that was found
abbrev pub size_found : Option File → Option ℕ
size_found None = None
size_found (Some file) = Some (content_size file.content)

-- what can be read of a file that was found
abbrev pub part_found : Option File → ℕ → ℕ → Option (List ℕ)
part_found None at count = None
part_found (Some file) at count = part_of_file file at count
