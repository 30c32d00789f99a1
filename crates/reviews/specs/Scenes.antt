-- What is drawn of an app: its releases, the targets of its cohorts, and the packages on the least chains; this project's
-- profile.
use Rattle.std.specs.Prelude.{ℕ, zero, suc, ◌==◌, ◌&&◌, not, Bool, true, false, if◌then◌else◌, List, [], ◌∷◌, ◌++◌, filter_map, fold, length, map, slice_get, Option, None, Some, option_and_then, option_map}
use Rattle.std.specs.List.{enumerate_from, list_any, range_with_len}
use Rattle.std.specs.Option.{option_map_or}
use Rattle.catalogue.specs.declared.content.App.{App}
use Rattle.catalogue.specs.declared.content.Release.{Release}
use Rattle.payload_graph.specs.declared.payload.Payload.{Payload}
use Rattle.payload_graph.specs.declared.payload.Payload.TheVariants.{Full, Differ}
use Rattle.reviews.specs.Reviews.{is_stuck}
use Rattle.reviews.specs.Steps.{release_to}
use Rattle.reviews.specs.declared.outcome.Outcome.{Outcome}
use Rattle.reviews.specs.declared.outcome.Outcome.TheVariants.{Here, Next, Stuck}
use Rattle.reviews.specs.declared.review.TrackReview.{TrackReview}
use Rattle.reviews.specs.declared.pictures.arrows.Arrow.{Arrow}
use Rattle.reviews.specs.declared.pictures.nodes.Goal.{Goal}
use Rattle.reviews.specs.declared.pictures.nodes.Node.{Node}
use Rattle.reviews.specs.declared.pictures.picture.Picture.{Picture}
use Rattle.reviews.specs.declared.pictures.view.View.{View}

-- the cohort is the chosen one, if one is chosen
abbrev pub is_of : Option ℕ → ℕ → Bool
is_of None cohort = true
is_of (Some chosen) cohort = chosen == cohort

-- the clients of a track are drawn: it is one of the app's, and of the chosen cohort
abbrev pub is_shown : View → TrackReview → Bool
is_shown view review = (view.app == review.key.app) && is_of view.cohort review.key.cohort

-- the release is the target of a track that is drawn
abbrev pub aims_at : View → ℕ → TrackReview → Bool
aims_at view release review = is_shown view review && (review.target == release)

-- the clients of a track at a release are stuck
abbrev pub is_stuck_at : TrackReview → ℕ → Bool
is_stuck_at review release = option_map_or is_stuck (slice_get review.outcomes release) false

-- the same of a track that is drawn
abbrev pub is_stuck_on : View → ℕ → TrackReview → Bool
is_stuck_on view release review = is_shown view review && is_stuck_at review release

-- the same of one of the tracks
abbrev pub is_goal : View → List TrackReview → ℕ → Bool
is_goal view reviews release = list_any (aims_at view release) reviews

abbrev pub has_stuck : View → List TrackReview → ℕ → Bool
has_stuck view reviews release = list_any (is_stuck_on view release) reviews

-- rule: Release of a picture
-- a release: whether it is a stone, whether it is withdrawn, whether it is the target of a track that is drawn, and
-- whether clients of one are stuck at it
abbrev pub node_of : View → List TrackReview → ℕ → Release → Node
node_of view reviews release there = record {
  release = release;
  stone = there.stone;
  withdrawn = there.withdrawn;
  goal = is_goal view reviews release;
  stuck = has_stuck view reviews release;
}

-- all releases of an app, by ascending version
abbrev pub nodes_of : App → View → List TrackReview → List Node
nodes_of app view reviews =
    map (λ (numbered : ℕ × Release). node_of view reviews numbered.0 numbered.1) (enumerate_from 0 app.releases)

-- rule: Target of a picture
-- the target of a track that is drawn; clients that allow a downgrade have the same target as the others
abbrev pub goal_of : View → TrackReview → Option Goal
goal_of view review =
    if is_shown view review && not review.key.rollback
    then Some (record { release = review.target; cohort = review.key.cohort; lane = review.key.lane }) else None

-- those of all tracks that are drawn
abbrev pub goals_of : View → List TrackReview → List Goal
goals_of view reviews = filter_map (goal_of view) reviews

-- two packages are both full, or both differentials
abbrev pub same_kind : Payload → Payload → Bool
same_kind (Full one) (Full other) = true
same_kind (Full one) (Differ other) = false
same_kind (Differ one) (Full other) = false
same_kind (Differ one) (Differ other) = true

-- two arrows are drawn alike: they have the same ends and kind
abbrev pub is_same_arrow : Arrow → Arrow → Bool
is_same_arrow one other = (one.from == other.from) && (one.to == other.to) && same_kind one.payload other.payload

-- an arrow that is drawn alike is there
abbrev pub has_arrow : List Arrow → Arrow → Bool
has_arrow arrows arrow = list_any (is_same_arrow arrow) arrows

-- one more arrow, unless it is there
abbrev pub with_arrow : List Arrow → Arrow → List Arrow
with_arrow arrows arrow = if has_arrow arrows arrow then arrows else arrows ++ arrow ∷ []

-- the first package of the chain from a release, by where its clients are
abbrev pub arrow_by : App → ℕ → Outcome → Option Arrow
arrow_by app from Here = None
arrow_by app from (Next payload sum) =
    option_map (λ to. record { from = from; to = to; payload = payload }) (release_to app payload)
arrow_by app from (Stuck reason) = None

-- rule: Package of a picture
-- the first package of the least chain from a release, if there is one
abbrev pub arrow_at : App → TrackReview → ℕ → Option Arrow
arrow_at app review from = option_and_then (arrow_by app from) (slice_get review.outcomes from)

-- those of all releases, by ascending version
abbrev pub all_arrows : App → TrackReview → List Arrow
all_arrows app review = filter_map (arrow_at app review) (range_with_len 0 (length review.outcomes))

-- the packages that follow a release, one after the other, and at most so many
abbrev pub chain_within : App → TrackReview → ℕ → ℕ → List Arrow
chain_within app review zero from = []
chain_within app review (suc more) from =
    option_map_or (λ (arrow : Arrow). arrow ∷ chain_within app review more arrow.to) (arrow_at app review from) []

-- rule: Chain of a picture
-- the packages that follow a release, one after the other; no release is met twice on the way, so there are fewer than
-- releases
abbrev pub chain_of : App → TrackReview → ℕ → List Arrow
chain_of app review from = chain_within app review (length review.outcomes) from

-- the chain of the release that is chosen; the first packages of all releases if none is
abbrev pub arrows_from : App → TrackReview → Option ℕ → List Arrow
arrows_from app review None = all_arrows app review
arrows_from app review (Some from) = chain_of app review from

-- the packages of a track that is drawn
abbrev pub arrows_on : App → View → TrackReview → List Arrow
arrows_on app view review = if is_shown view review then arrows_from app review view.from else []

-- those of one more track, unless they are there
abbrev pub with_arrows : App → View → List Arrow → TrackReview → List Arrow
with_arrows app view arrows review = fold with_arrow arrows (arrows_on app view review)

-- rule: Packages of a picture
-- those of all tracks that are drawn, each once
abbrev pub arrows_of : App → View → List TrackReview → List Arrow
arrows_of app view reviews = fold (with_arrows app view) [] reviews

-- rule: Picture of an app
-- the releases, the targets and the packages
abbrev pub picture_of : App → View → List TrackReview → Picture
picture_of app view reviews = record {
  nodes = nodes_of app view reviews;
  goals = goals_of view reviews;
  arrows = arrows_of app view reviews;
}
