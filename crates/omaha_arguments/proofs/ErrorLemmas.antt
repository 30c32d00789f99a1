-- Why arguments ask for no command, by the error that `clap` has for them.
use Rattle.std.proofs.Common.{◌≡◌, inl, inr}
use Rattle.clap.specs.Words.{HasKind, IsAmong, Kinds, kind_of}
use Rattle.clap.specs.declared.error.Error.{Error}
use Rattle.clap.specs.declared.error.kind.ErrorKind.{ErrorKind}
use Rattle.clap.specs.declared.error.kind.ErrorKind.TheVariants as kind
use Rattle.omaha_arguments.specs.Errors.{IsOfKind, IsShown, IsWhy}
use Rattle.omaha_arguments.specs.declared.error.ArgumentError.{ArgumentError}
use Rattle.omaha_arguments.specs.declared.error.ArgumentError.TheVariants as argument

-- a kind other than a failed allocation is one of the arguments' own
among : (faults : Kinds) (error : Error) → HasKind faults error → (kind_of error ≡ kind.OutOfMemory → ⊥) → IsAmong (kind_of error) faults
among faults error (inl memory) other = absurd (other memory)
among faults error (inr found) other = found

shown_is_no_memory : (told : ErrorKind) → IsShown told → told ≡ kind.OutOfMemory → ⊥
shown_is_no_memory told (inl help) memory = cc
shown_is_no_memory told (inr version) memory = cc

pub IsWhy-of_kind : (faults : Kinds) (error : Error) (why : ArgumentError) → HasKind faults error → IsOfKind (kind_of error) why → IsWhy faults why
IsWhy-of_kind faults error (argument.Shown text) has is =
    (kind_of error, is, among faults error has (shown_is_no_memory (kind_of error) is))
IsWhy-of_kind faults error (argument.Invalid text) has is =
    (kind_of error, is.0, among faults error has is.1)
IsWhy-of_kind faults error argument.Memory has is = tt
