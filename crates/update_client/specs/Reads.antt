-- What a source gave of the bytes that are read of it; this project's profile.
use Rattle.std.specs.Prelude.{◌≡◌, ℕ, List, ◌++◌, Option, Result, Err, ⊤}
use Rattle.std.specs.Io.KnownBytes.{Consumes, IsAtEnd}
use Rattle.update_client.specs.declared.heads.fault.LinkFault.{LinkFault}
use Rattle.update_client.specs.declared.heads.fault.LinkFault.TheVariants as fault

-- a read failed, or memory ran out
abbrev pub IsBroken : LinkFault → Type 0
IsBroken fault.Read = ⊤
IsBroken fault.Memory = ⊤
IsBroken other = ⊥

-- how many reads failed
abbrev pub failed_reads : {A : Type 0} → Result A LinkFault → ℕ
failed_reads (Err fault.Read) = 1
failed_reads other = 0

-- bytes were read after those that waited; of them all the first were used, and the others wait
pub record Uses (old new : Option (List ℕ)) (before after used : List ℕ) : Type 0 where
  pub bytes : List ℕ
  pub consumed : Consumes old new bytes
  pub cut : before ++ bytes ≡ used ++ after

-- the bytes that waited and those that were read after them fail so; the fault is the input's end only if it has ended
abbrev pub Sees : Option (List ℕ) → Option (List ℕ) → List ℕ → (List ℕ → LinkFault → Type 0) → LinkFault → Type 0
Sees old new before fails fault.Ended =
    (bytes : List ℕ) × Consumes old new bytes × fails (before ++ bytes) fault.Ended × IsAtEnd new
Sees old new before fails fault.Memory = ⊤
Sees old new before fails fault.Read = ⊤
Sees old new before fails why = (bytes : List ℕ) × Consumes old new bytes × fails (before ++ bytes) why
