-- A package that is made block by block; this project's profile.
use Rattle.std.specs.Prelude.{◌≡◌, ◌+◌, ◌<◌, ◌≤◌, ⊤, ℕ, true, false, List, [], ◌∷◌, ◌++◌, length, take, Option, Some}
use Rattle.sha2.specs.Hashers.{Holds256}
use Rattle.http_desks.specs.Downloads.{IsRead, Reads, ReadsFrom, agrees, full_blocks, joined_blocks}
use Rattle.http_desks.specs.declared.transfer.NextBlock.{NextBlock}
use Rattle.http_desks.specs.declared.transfer.NextBlock.TheVariants as next
use Rattle.http_desks.specs.declared.transfer.Transfer.{Transfer}

-- the size of the package
abbrev pub package_size : Transfer → ℕ
package_size transfer = transfer.size

-- just these full blocks were made
pub record IsAt (blocks : List (List ℕ)) (transfer : Transfer) : Type 0 where
  pub many : transfer.index ≡ length blocks
  pub hashed : Holds256 transfer.hasher (joined_blocks blocks)

-- rule: Block of a package
-- after these blocks the next one, in these cells: a full one; the last one, with which the digest agrees; or no more,
-- since a block couldn't be read or the digest differs
abbrev pub Makes : Reads → ℕ → List ℕ → List (List ℕ) → List ℕ → NextBlock → Type 0
Makes reads size hash blocks cells (next.Full transfer) =
    IsAt (blocks ++ cells ∷ []) transfer × (length (blocks ++ cells ∷ []) ≤ full_blocks size)
    × ReadsFrom reads 0 (blocks ++ cells ∷ [])
Makes reads size hash blocks cells (next.Last count) =
    IsRead reads size blocks (Some (take count cells)) × (agrees hash blocks (Some (take count cells)) ≡ true)
Makes reads size hash blocks cells next.Cut =
    (last : Option (List ℕ)) × IsRead reads size blocks last × (agrees hash blocks last ≡ false)

-- a full block is one more of the same package; a last block has a byte or more, if the package has
abbrev pub Follows : Transfer → NextBlock → Type 0
Follows transfer (next.Full more) = (more.size ≡ transfer.size) × (more.index ≡ transfer.index + 1)
Follows transfer (next.Last count) = (count ≤ 65536) × (0 < transfer.size → 0 < count)
Follows transfer next.Cut = ⊤
