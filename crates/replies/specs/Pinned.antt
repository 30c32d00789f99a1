-- The keys of pinned clients of a request.
use Rattle.std.specs.Prelude.{◌≡◌, ◌≢◌, ℕ, ◌+◌, ◌<◌, ◌==◌, ◌⊎◌, if◌then◌else◌, List, [], ◌∷◌, ◌++◌, All, AllPairs, Any, Contains, IfSome, Option, None, Some, option_and_then}
use Rattle.catalogue.specs.declared.content.App.{App}
use Rattle.cohorts.specs.Offers.{is_any}
use Rattle.omaha_json.specs.declared.request.AppAsk.{AppAsk}
use Rattle.par_tables.specs.Pieces.{HasTarget}
use Rattle.payload_graph.specs.declared.payload.TrackKey.{TrackKey}
use Rattle.replies.specs.Plans.{pinned_key, wants_update}
use Rattle.replies.specs.declared.client.Assignment.{Assignment}

-- the key of an assignment, unless its pin allows any version
abbrev pub key_of_pin : Assignment → Option TrackKey
key_of_pin assignment = if is_any assignment.key.pin then None else Some assignment.key

-- the key of the client of an ask by its assignment, if it is pinned and wants an update
abbrev pub key_pinned : AppAsk → Option Assignment → Option TrackKey
key_pinned ask assigned = if wants_update ask then option_and_then key_of_pin assigned else None

-- the key was added: its track has a target, and it wasn't there
pub record IsAdded (apps : List App) (key : TrackKey) (old new : List TrackKey) : Type 0 where
  pub target : HasTarget apps key
  pub other : All (λ (known : TrackKey). known ≢ key) old
  pub added : new ≡ old ++ key ∷ []

-- the key was left out, since its track has no target or it is there
pub record IsLeftOut (apps : List App) (key : TrackKey) (old new : List TrackKey) : Type 0 where
  pub there : HasTarget apps key → Contains old key
  pub same : new ≡ old

-- a key, if there is one, was added if its track has a target and it wasn't there
abbrev pub AddsKey : List App → Option TrackKey → List TrackKey → List TrackKey → Type 0
AddsKey apps None old new = new ≡ old
AddsKey apps (Some key) old new = IsAdded apps key old new ⊎ IsLeftOut apps key old new

-- the key, if it is one of the app at an index
abbrev pub key_in : ℕ → Option TrackKey → Option TrackKey
key_in app key = option_and_then (λ (own : TrackKey). if own.app == app then Some own else None) key

-- the key of the ask's client is among some keys, if its app is one of the first and its track has a target
abbrev pub IsKept : List App → List ℕ → ℕ → List TrackKey → AppAsk → Type 0
IsKept apps session count keys ask =
    IfSome (pinned_key apps session ask) (λ key. key.app < count → HasTarget apps key → Contains keys key)

-- the keys of the pinned clients of a request, each once, if their tracks have targets: of those of the first apps, and
-- of the next one those of some first asks
pub record ArePinnedKeys (apps : List App) (session : List ℕ) (asks : List AppAsk) (app : ℕ) (first : List AppAsk)
    (keys : List TrackKey) : Type 0 where
  pub targets : All (HasTarget apps) keys
  pub once : AllPairs (λ (key other : TrackKey). key ≢ other) keys
  pub asked : All (λ (key : TrackKey). Any (λ (ask : AppAsk). pinned_key apps session ask ≡ Some key) asks) keys
  pub below : All (IsKept apps session app keys) asks
  pub each : All (IsKept apps session (app + 1) keys) first
