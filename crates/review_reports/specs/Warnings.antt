-- Tracks whose target no client can reach; this project's profile.
use Rattle.std.specs.Prelude.{ℕ, ◌&&◌, ◌||◌, not, Bool, true, false, if◌then◌else◌, codes, List, [], ◌++◌, slice_get}
use Rattle.std.specs.List.{flat_map, list_any}
use Rattle.std.specs.Option.{option_map_or}
use Rattle.catalogue.specs.declared.content.App.{App}
use Rattle.quotes.specs.declared.quote.Quote.{Quote}
use Rattle.quotes.specs.declared.quote.Quote.TheVariants as quote
use Rattle.reviews.specs.Names.{cohort_name, spelled_at}
use Rattle.reviews.specs.declared.outcome.Outcome.{Outcome}
use Rattle.reviews.specs.declared.outcome.Outcome.TheVariants.{Here, Next, Stuck}
use Rattle.reviews.specs.declared.review.TrackReview.{TrackReview}

-- the clients at a release are before a chain
abbrev pub has_next : Outcome → Bool
has_next Here = false
has_next (Next payload sum) = true
has_next (Stuck reason) = false

-- no chain leads from a place
abbrev pub has_no_chain : Quote → Bool
has_no_chain quote.Here = false
has_no_chain (quote.Next payload sum) = false
has_no_chain quote.NoChain = true

-- rule: Target out of reach
-- no client can reach a track's target: none at another release, and none outside of all releases, from version 0
abbrev pub is_out_of_reach : TrackReview → Bool
is_out_of_reach review = not (list_any has_next review.outcomes) && has_no_chain review.newcomers

-- the line of a track whose target is out of reach
abbrev pub warning_line : App → TrackReview → List ℕ
warning_line app review =
    codes "warning: app " ++ (app.id ++ (codes ", cohort " ++ (cohort_name app review.key.cohort
    ++ (codes ": nothing leads to " ++ (spelled_at app review.target ++ codes "\n")))))

-- the line of a track, if it has one; clients who allow a downgrade have none of their own, since whatever leads the
-- others leads them, too
abbrev pub warning_of : App → TrackReview → List ℕ
warning_of app review = if review.key.rollback || not (is_out_of_reach review) then [] else warning_line app review

-- the same by the apps of a content
abbrev pub warning_among : List App → TrackReview → List ℕ
warning_among apps review = option_map_or (λ (app : App). warning_of app review) (slice_get apps review.key.app) []

-- rule: Printed warnings
-- the lines of all tracks whose target is out of reach, in their order
abbrev pub warnings_string : List App → List TrackReview → List ℕ
warnings_string apps reviews = flat_map (warning_among apps) reviews
