-- The SHA-256 of a file that is read block by block; this project's profile.
use Rattle.std.specs.Prelude.{◌≡◌, ℕ, List, ◌++◌, Option, option_map}
use Rattle.sha2.specs.Sha256.{sha256}
use Rattle.http_desks.specs.Downloads.{IsRead, Reads, joined_blocks}

-- the SHA-256 of blocks and the last one, if that was read
abbrev pub hash_of_blocks : List (List ℕ) → Option (List ℕ) → Option (List ℕ)
hash_of_blocks blocks last = option_map (λ bytes. sha256 (joined_blocks blocks ++ bytes)) last

-- rule: Hash of a file
-- the SHA-256 of a file of this size, whose blocks were read in order; none if one couldn't be read
abbrev pub IsHashed : Reads → ℕ → Option (List ℕ) → Type 0
IsHashed reads size hash =
    (blocks : List (List ℕ)) × (last : Option (List ℕ)) × IsRead reads size blocks last
    × (hash ≡ hash_of_blocks blocks last)
