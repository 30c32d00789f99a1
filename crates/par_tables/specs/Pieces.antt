-- The tracks that have a target, and how several threads divide them; this project's profile.
use Rattle.std.specs.Prelude.{◌≡◌, ℕ, ◌+◌, ◌*◌, ◌/◌, Bool, true, List, drop, length, take}
use Rattle.std.specs.List.{filter}
use Rattle.std.specs.Option.{is_some}
use Rattle.catalogue.specs.declared.content.App.{App}
use Rattle.payload_graph.specs.declared.payload.TrackKey.{TrackKey}
use Rattle.payload_graph.specs.Net.{net_among}
use Rattle.par_tables.specs.Tracks.{keys_of}

-- the track has a target
abbrev pub has_target : List App → TrackKey → Bool
has_target apps key = is_some (net_among apps key)

abbrev pub HasTarget : List App → TrackKey → Type 0
HasTarget apps key = has_target apps key ≡ true

-- the keys of the tracks that have a target, in order
abbrev pub tracks_of : List App → List TrackKey
tracks_of apps = filter (has_target apps) (keys_of apps)

-- how many of the tracks are before a piece
abbrev pub bound_of : ℕ → ℕ → ℕ → ℕ
bound_of count workers piece = piece * count / workers

-- rule: Piece of tables
-- the tracks of a piece: of `count` tracks those from `piece * count / workers` up to where the next piece begins
abbrev pub piece_of : List TrackKey → ℕ → ℕ → List TrackKey
piece_of keys workers piece =
    drop (bound_of (length keys) workers piece) (take (bound_of (length keys) workers (piece + 1)) keys)
