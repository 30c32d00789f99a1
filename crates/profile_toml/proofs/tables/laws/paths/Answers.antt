use Rattle.profile_toml.specs.TableLaws.{place_below}
use Rattle.profile_toml.specs.Paths.{path_of}
use Rattle.profile_toml.proofs.LineLemmas.{IsOneLine-indexed}
use Rattle.profile_toml.proofs.PathLemmas.{IsOneLine-path_of, IsOneLine-place_below}
use Rattle.profile_toml.proofs.tables.laws.paths.Goals as goal

pub returns-clause-keys : goal.returns-clause-keys
returns-clause-keys c = λ steps key.
    IsOneLine-path_of (place_below steps) key (IsOneLine-place_below steps)

pub returns-clause-elements : goal.returns-clause-elements
returns-clause-elements c = λ steps key index.
    IsOneLine-indexed (path_of (place_below steps) key) index
    (IsOneLine-path_of (place_below steps) key (IsOneLine-place_below steps))
