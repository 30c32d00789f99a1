use Rattle.std.proofs.Common.{◌≡◌, map}
use Rattle.toml.specs.View.{members_view}
use Rattle.profile_toml.specs.Fields.{known, known_among}
use Rattle.profile_toml.specs.Readers.{placed}
use Rattle.profile_toml.proofs.tables.reader.TableReader.check_keys.Given as goal

abbrev pub invariant-loop-key : goal.invariant-loop-key
invariant-loop-key l =
    known_among (map (λ key. key.now) l.keys) (placed l.self).place (members_view l.key-iterator)
    ≡ known (map (λ key. key.now) l.keys) (placed l.self)
