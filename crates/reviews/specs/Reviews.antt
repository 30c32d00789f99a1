-- What is said of the clients of each track with a target; this project's profile.
use Rattle.std.specs.Prelude.{◌≡◌, ℕ, ◌<◌, All, Bool, false, true, IfSome, List, length, map, slice_get, slice_index_or, Some}
use Rattle.catalogue.specs.Versions.{zero_version}
use Rattle.catalogue.specs.declared.content.App.{App}
use Rattle.payload_graph.specs.Chains.{target_index}
use Rattle.payload_graph.specs.Net.{Net}
use Rattle.payload_graph.specs.declared.payload.TrackKey.{TrackKey}
use Rattle.payload_graph.specs.declared.place.Place.TheVariants.{At, Outside}
use Rattle.par_tables.specs.Tables.{nets_of}
use Rattle.par_tables.specs.Tracks.{keys_of}
use Rattle.price_cert.specs.declared.row.Row.{Row}
use Rattle.price_cert.specs.declared.row.Row.TheVariants as row
use Rattle.quotes.specs.Quotes.{IsQuote}
use Rattle.quotes.specs.declared.quote.Quote.{Quote}
use Rattle.quotes.specs.declared.quote.Quote.TheVariants as quote
use Rattle.reviews.specs.Largest.{IsLargest, sum_of}
use Rattle.reviews.specs.Reasons.{IsReason, IsStuck}
use Rattle.reviews.specs.Steps.{all_steps}
use Rattle.reviews.specs.declared.cause.Reason.{Reason}
use Rattle.reviews.specs.declared.outcome.Outcome.{Outcome}
use Rattle.reviews.specs.declared.outcome.Outcome.TheVariants.{Here, Next, Stuck}
use Rattle.reviews.specs.declared.review.TrackReview.{TrackReview}

-- a row has no price: no chain leads from its release to the target
abbrev pub is_unpriced : Row → Bool
is_unpriced row.Nothing = true
is_unpriced row.End = false
is_unpriced (row.Price price kind to) = false

-- what a quote says of a release, which is stuck for a reason if no chain leads from it
abbrev pub outcome_by : Reason → Quote → Outcome
outcome_by reason quote.Here = Here
outcome_by reason (quote.Next payload sum) = Next payload sum
outcome_by reason quote.NoChain = Stuck reason

-- whether the clients are stuck
abbrev pub is_stuck : Outcome → Bool
is_stuck Here = false
is_stuck (Next payload sum) = false
is_stuck (Stuck reason) = true

-- rule: Outcome of a release
-- where the clients at a release are: at the target; before a chain of the least sum, with its first payload; or stuck,
-- for a reason
abbrev pub IsOutcome : App → TrackKey → ℕ → Outcome → Type 0
IsOutcome app key release Here = IsQuote app key (At release) quote.Here
IsOutcome app key release (Next payload sum) = IsQuote app key (At release) (quote.Next payload sum)
IsOutcome app key release (Stuck reason) = IsStuck app key release × IsReason app key release reason

-- each release of an app has its outcome
pub record AreOutcomes (app : App) (key : TrackKey) (outcomes : List Outcome) : Type 0 where
  pub sized : length outcomes ≡ length app.releases
  pub each : (release : ℕ) (d : Outcome) → release < length app.releases → IsOutcome app key release (slice_index_or outcomes release d)

-- rule: Review of a track
-- the target of a track; the outcome and the steps of each release; the largest of the sums and of the steps; and what
-- clients outside of all releases are offered from version 0
pub record IsTrackReview (app : App) (review : TrackReview) : Type 0 where
  pub target : target_index app review.key ≡ Some review.target
  pub outcomes : AreOutcomes app review.key review.outcomes
  pub steps : review.steps ≡ all_steps app review.outcomes
  pub largest : IsLargest (map sum_of review.outcomes) review.largest
  pub longest : IsLargest review.steps review.longest
  pub newcomers : IsQuote app review.key (Outside zero_version) review.newcomers

-- the same of a content, which has the track's app
abbrev pub IsTrackReviewAmong : List App → TrackReview → Type 0
IsTrackReviewAmong apps review = IfSome (slice_get apps review.key.app) (λ app. IsTrackReview app review)

-- the keys of the tracks of a content that have a target, in the order of their tables
abbrev pub reviewed_keys : List App → List TrackKey
reviewed_keys apps = map (λ (net : Net). net.key) (nets_of apps (keys_of apps))

-- rule: Review of a catalogue
-- a review of each track with a target, in the order of their tables
pub record AreReviews (apps : List App) (reviews : List TrackReview) : Type 0 where
  pub tracks : map (λ (review : TrackReview). review.key) reviews ≡ reviewed_keys apps
  pub each : All (IsTrackReviewAmong apps) reviews
