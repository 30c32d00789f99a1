-- What is sent of a package; this project's profile.
use Rattle.std.specs.Prelude.{◌≡◌, ◌+◌, ◌-◌, ◌*◌, ◌/◌, ◌<◌, ◌≤◌, ◌⊎◌, ⊤, ℕ, Bool, true, false, List, [], ◌∷◌, ◌++◌, length, flat_map, bytes_eq, Option, None, Some, Result, Ok, Err, if◌then◌else◌}
use Rattle.std.specs.Io.KnownBytes.{Appends}
use Rattle.sha2.specs.Sha256.{sha256}
use Rattle.http_wire.specs.Sending.{AppendsPart}
use Rattle.values.specs.declared.failed.Failed.{Failed}

-- the bytes, unless reading them failed
abbrev pub bytes_read : Result (Unit {0}) Failed → List ℕ → Option (List ℕ)
bytes_read (Ok done) bytes = Some bytes
bytes_read (Err failed) bytes = None

-- what may be read of one package: from a place on, so many bytes
abbrev pub Reads : Type 1
Reads = ℕ → ℕ → Option (List ℕ) → Type 0

-- how many blocks of 65536 bytes come before the last one
abbrev pub full_blocks : ℕ → ℕ
full_blocks size = (size - 1) / 65536

-- the blocks one after the other
abbrev pub joined_blocks : List (List ℕ) → List ℕ
joined_blocks blocks = flat_map (λ block. block) blocks

-- full blocks that were read in their order, the first of them at this index
abbrev pub ReadsFrom : Reads → ℕ → List (List ℕ) → Type 0
ReadsFrom reads index [] = ⊤
ReadsFrom reads index (block ∷ blocks) =
    reads (index * 65536) 65536 (Some block) × ReadsFrom reads (index + 1) blocks

-- a full block couldn't be read, or the read of the last one gave this
abbrev pub EndsRead : Reads → ℕ → List (List ℕ) → Option (List ℕ) → Type 0
EndsRead reads size blocks last =
    ((length blocks < full_blocks size) × (last ≡ None) × reads (length blocks * 65536) 65536 None)
    ⊎ ((length blocks ≡ full_blocks size)
    × reads (full_blocks size * 65536) (size - full_blocks size * 65536) last)

-- the blocks that were read, and then a full block that couldn't be read, or what the read of the
-- last one gave
pub record IsRead (reads : Reads) (size : ℕ) (blocks : List (List ℕ)) (last : Option (List ℕ)) : Type 0 where
  pub few : length blocks ≤ full_blocks size
  pub whole : ReadsFrom reads 0 blocks
  pub next : EndsRead reads size blocks last

-- the blocks and the last one have this digest
abbrev pub agrees : List ℕ → List (List ℕ) → Option (List ℕ) → Bool
agrees hash blocks None = false
agrees hash blocks (Some last) = bytes_eq (sha256 (joined_blocks blocks ++ last)) hash

-- rule: Download of a package
-- what is sent: the blocks, and the last one where the digest agrees
abbrev pub download : List ℕ → List (List ℕ) → Option (List ℕ) → List ℕ
download hash blocks None = joined_blocks blocks
download hash blocks (Some last) =
    if bytes_eq (sha256 (joined_blocks blocks ++ last)) hash then joined_blocks blocks ++ last
    else joined_blocks blocks

-- the download was written, and whether it is the whole package is reported; or a write failed, after
-- some blocks or at the last one, and a first part was written
abbrev pub Downloads :
    Reads → ℕ → List ℕ → Option (List ℕ) → Option (List ℕ) → Result Bool Failed → Type 0
Downloads reads size hash old new (Ok whole) =
    (blocks : List (List ℕ)) × (last : Option (List ℕ)) × IsRead reads size blocks last
    × (whole ≡ agrees hash blocks last) × Appends old new (download hash blocks last)
Downloads reads size hash old new (Err failed) =
    ((blocks : List (List ℕ)) × (length blocks ≤ full_blocks size) × ReadsFrom reads 0 blocks
    × AppendsPart old new (joined_blocks blocks))
    ⊎ ((blocks : List (List ℕ)) × (last : List ℕ) × IsRead reads size blocks (Some last)
    × (agrees hash blocks (Some last) ≡ true)
    × AppendsPart old new (joined_blocks blocks ++ last))
