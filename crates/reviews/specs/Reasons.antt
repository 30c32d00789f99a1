-- Which releases of a track are stuck, and why; this project's profile.
use Rattle.std.specs.Prelude.{◌≡◌, ℕ, ◌<◌, ◌⊎◌, Bool, true, false, List, [], ◌∷◌, length, slice_index_or}
use Rattle.catalogue.specs.declared.content.App.{App}
use Rattle.payload_graph.specs.Chains.{IsChain}
use Rattle.payload_graph.specs.declared.payload.Payload.{Payload}
use Rattle.payload_graph.specs.declared.payload.TrackKey.{TrackKey}
use Rattle.payload_graph.specs.declared.place.Place.{Place}
use Rattle.payload_graph.specs.declared.place.Place.TheVariants.{At}
use Rattle.quotes.specs.Sums.{HasNoChain}
use Rattle.reviews.specs.Lifts.{lifted, lifted_key}
use Rattle.reviews.specs.declared.cause.Cause.{Cause}
use Rattle.reviews.specs.declared.cause.Cause.TheVariants.{Withdrawn, Audience, Stone, Floor, Downgrade}
use Rattle.reviews.specs.declared.cause.Reason.{Reason}
use Rattle.reviews.specs.declared.cause.Reason.TheVariants.{Alone, Several}

-- some chain of permitted payloads leads from a place to the target
abbrev pub HasChain : App → TrackKey → Place → Type 0
HasChain app key place = (payloads : List Payload) × IsChain app key place payloads

-- rule: Stuck release
-- no chain of permitted payloads leads from a release to the target
abbrev pub IsStuck : App → TrackKey → ℕ → Type 0
IsStuck app key release = HasNoChain app key (At release)

-- without a rule some chain leads from a release to the target
abbrev pub IsFreed : App → TrackKey → ℕ → Cause → Type 0
IsFreed app key release cause = HasChain (lifted cause app key) (lifted_key cause key) (At release)

-- without a rule the release is stuck all the same
abbrev pub StaysStuck : App → TrackKey → ℕ → Cause → Type 0
StaysStuck app key release cause = IsStuck (lifted cause app key) (lifted_key cause key) release

-- the first rule of a list that, lifted alone, frees a release; several rules if none does
abbrev pub IsFirst : App → TrackKey → ℕ → List Cause → Reason → Type 0
IsFirst app key release [] reason = reason ≡ Several
IsFirst app key release (cause ∷ causes) reason =
    (IsFreed app key release cause × (reason ≡ Alone cause))
    ⊎ (StaysStuck app key release cause × IsFirst app key release causes reason)

-- the rules that may leave clients stuck, in the order in which they are looked at
abbrev pub all_causes : List Cause
all_causes = Withdrawn ∷ Audience ∷ Stone ∷ Floor ∷ Downgrade ∷ []

-- rule: Reason of a stuck release
-- why a release is stuck: the first of the rules that, lifted alone, frees it
abbrev pub IsReason : App → TrackKey → ℕ → Reason → Type 0
IsReason app key release reason = IsFirst app key release all_causes reason

-- the reason of a release in a list
abbrev pub reason_at : List Reason → ℕ → Reason
reason_at reasons release = slice_index_or reasons release Several

-- each stuck release has the first rule of a list that frees it
pub record AreFirst (app : App) (key : TrackKey) (causes : List Cause) (reasons : List Reason) : Type 0 where
  pub sized : length reasons ≡ length app.releases
  pub first :
      (release : ℕ) → release < length app.releases → IsStuck app key release →
      IsFirst app key release causes (reason_at reasons release)

-- a flag says whether some chain leads from a release to the target
abbrev pub IsChainedAs : App → TrackKey → ℕ → Bool → Type 0
IsChainedAs app key release true = HasChain app key (At release)
IsChainedAs app key release false = IsStuck app key release

-- a flag says whether a release is freed without a rule
abbrev pub IsFreedAs : App → TrackKey → ℕ → Cause → Bool → Type 0
IsFreedAs app key release cause flag = IsChainedAs (lifted cause app key) (lifted_key cause key) release flag

-- so do the flags of all releases
pub record AreFreedAs (app : App) (key : TrackKey) (cause : Cause) (flags : List Bool) : Type 0 where
  pub sized : length flags ≡ length app.releases
  pub each : (release : ℕ) → release < length app.releases → IsFreedAs app key release cause (slice_index_or flags release false)

-- each stuck release has its reason in a list
abbrev pub Explains : App → TrackKey → List Reason → Type 0
Explains app key reasons =
    (release : ℕ) → release < length app.releases → IsStuck app key release → IsReason app key release (reason_at reasons release)
