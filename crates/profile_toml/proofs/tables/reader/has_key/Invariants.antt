use Rattle.std.proofs.Common.{◌≡◌, map, drop}
use Rattle.std.specs.List.{list_any}
use Rattle.std.specs.Str.{bytes_eq}
use Rattle.profile_toml.proofs.tables.reader.has_key.Given as goal

abbrev pub invariant-loop-known : goal.invariant-loop-known
invariant-loop-known l =
    list_any (bytes_eq l.key) (map (λ known. known.now) (drop l.known-index l.keys))
    ≡ list_any (bytes_eq l.key) (map (λ known. known.now) l.keys)
