-- What the command `walk` does; this project's profile.
use Rattle.std.specs.Prelude.{◌≡◌, ◌⊎◌, ℕ, List, [], Result, Ok, Err}
use Rattle.streams.specs.Streams.{Known}
use Rattle.values.specs.declared.read_error.ReadError.{ReadError}
use Rattle.omaha_arguments.specs.declared.command.Walk.{Walk}
use Rattle.update_client.specs.Installed.{Installed}
use Rattle.update_client.specs.Walks.{Post}
use Rattle.update_client.specs.declared.fault.Fault.{Fault}
use Rattle.update_client.specs.declared.walking.Walk.{Walk as Walked}
use Rattle.update_client.specs.Lines.{done_line}
use Rattle.update_client.specs.Walking.{IsWalkOver}
use Rattle.failures.specs.Rejections.{failure_of_walk}
use Rattle.profiles.specs.Printing.{Prints}
use Rattle.profiles.specs.Streams.{Streams}
use Rattle.failures.specs.declared.failure.Failure.{Failure}
use Rattle.failures.specs.declared.failure.Failure.TheVariants as failure

-- the client of a walk; it asks for no cohort
abbrev pub client_of : Walk → Installed
client_of walk =
    record {
      app = walk.app;
      version = walk.version;
      fp = walk.fp;
      cohort = walk.cohort;
      hint = [];
      rollback = walk.rollback;
      session = walk.session;
      prefix = walk.prefix;
    }

-- the last line of a walk, unless memory runs out; after an error there is none
abbrev pub IsLastLine : Result Walked (ReadError Fault) → Result (List ℕ) Failure → Type 0
IsLastLine (Ok walked) (Ok line) = line ≡ done_line walked
IsLastLine (Ok walked) (Err refusal) = refusal ≡ failure.Memory
IsLastLine (Err error) line = line ≡ Err (failure_of_walk error)

-- the client walks along the offers of the server at its address, and what that prints is followed by the last line
pub record IsWalked (replies : List ℕ → List Post → Type 0) (walk : Walk) (old new : Streams) (result : Result (Unit {0}) Failure) : Type 0 where
  pub end : Installed
  pub walked : Result Walked (ReadError Fault)
  pub between : Known
  pub line : Result (List ℕ) Failure
  pub walks : IsWalkOver (replies walk.to) (client_of walk) end old.output between walked
  pub last : IsLastLine walked line
  pub printed : Prints line (record old { output = between }) new result

-- rule: Walk of the program
-- the client walks and that is printed, or memory ran out before; a walk reads no input
abbrev pub WalksOn : (List ℕ → List Post → Type 0) → Walk → Streams → Streams → Result (Unit {0}) Failure → Type 0
WalksOn replies walk old new result =
    IsWalked replies walk old new result ⊎ ((result ≡ Err failure.Memory) × (new ≡ old))
