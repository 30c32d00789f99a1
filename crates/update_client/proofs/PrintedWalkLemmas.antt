-- A walk that didn't begin.
use Rattle.std.proofs.Common.{ℕ, List, [], Err, inl, refl, sym, append-nil}
use Rattle.std.proofs.KnownBytes.{Appends-nil}
use Rattle.streams.specs.Streams.{Known}
use Rattle.values.specs.declared.read_error.ReadError.TheVariants as errors
use Rattle.update_client.specs.Installed.{Installed}
use Rattle.update_client.specs.Walks.{Post}
use Rattle.update_client.specs.Walking.{IsWalk}

pub walk_fails : (client : Installed) (old : List Post) (asked : List (List ℕ)) (received : List ℕ) (ended : Type 0) (before : Known)
    → IsWalk client client old old asked asked received ended before before (Err errors.Memory)
walk_fails client old asked received ended before = record {
  commits = [];
  walks = record { turns = []; follows = refl; committed = refl; ends = (inl (sym (append-nil old)), sym (append-nil asked)) };
  printed = Appends-nil before.bytes;
}
