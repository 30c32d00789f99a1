-- Reviews after a change that are those of before it; this project's profile.
use Rattle.std.specs.Prelude.{◌≡◌, ℕ, ◌<◌, Bool, true, false, List, length, IfSome, Option, None, slice_get, slice_index_or, Some}
use Rattle.catalogue.specs.declared.content.App.{App}
use Rattle.reviews.specs.Reviews.{IsTrackReviewAmong}
use Rattle.reviews.specs.declared.review.TrackReview.{TrackReview}

-- the app at an index is the same before a change and after it
abbrev pub IsKept : List App → List App → ℕ → Type 0
IsKept before after app = slice_get after app ≡ slice_get before app

-- a flagged app is the same before a change and after it
abbrev pub AreKept : List App → List App → List Bool → Type 0
AreKept before after kept = (app : ℕ) → slice_index_or kept app false ≡ true → IsKept before after app

-- a review after a change is the one at an index of those before it, and the change keeps its app
pub record IsCopy (before after : List App) (olds : List TrackReview) (new : TrackReview) (from : ℕ) : Type 0 where
  pub there : slice_get olds from ≡ Some new
  pub kept : IsKept before after new.key.app
  pub review : IsTrackReviewAmong after new

-- the review is such a copy if it has a source, the index of the review before the change
abbrev pub HasSource : List App → List App → List TrackReview → TrackReview → Option ℕ → Type 0
HasSource before after olds new source = IfSome source (IsCopy before after olds new)

-- so is each review, by the source at its index
abbrev pub HaveSources : List App → List App → List TrackReview → List TrackReview → List (Option ℕ) → Type 0
HaveSources before after olds news sources =
    (index : ℕ) (d : TrackReview) → index < length news →
    HasSource before after olds (slice_index_or news index d) (slice_index_or sources index None)
