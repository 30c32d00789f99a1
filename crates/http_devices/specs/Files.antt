-- What a read of a file at an offset gives; this project's profile.
use Rattle.std.specs.Prelude.{◌≡◌, ℕ, List, Option, Some, IfSome}
use Rattle.std.specs.Io.KnownBytes.{Consumes}

-- rule: Read at an offset
-- the bytes are those that the file has left after a seek to the offset
abbrev pub ReadsAt :
    {F : Type 0} → (F → Option ℕ) → (F → Option (List ℕ)) → F → F → ℕ → List ℕ → Type 0
ReadsAt {F} position remaining old new at bytes =
    (sought : F) × IfSome (position old) (λ _. position sought ≡ Some at)
    × Consumes (remaining sought) (remaining new) bytes
