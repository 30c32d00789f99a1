-- The stuck clients of an app, and how they are named; this project's profile.
use Rattle.std.specs.Prelude.{ℕ, ◌==◌, ◌-◌, Bool, if◌then◌else◌, codes, List, [], ◌++◌, filter_map, length, map, take, Option, None, Some}
use Rattle.std.specs.List.{enumerate_from, flat_map}
use Rattle.catalogue.specs.declared.content.App.{App}
use Rattle.cohorts.specs.declared.track.Lane.{Lane}
use Rattle.cohorts.specs.declared.track.Lane.TheVariants as lane
use Rattle.payload_graph.specs.declared.payload.TrackKey.{TrackKey}
use Rattle.reviews.specs.Names.{cohort_name, reason_string, spelled_at}
use Rattle.reviews.specs.declared.outcome.Outcome.{Outcome}
use Rattle.reviews.specs.declared.outcome.Outcome.TheVariants.{Here, Next, Stuck}
use Rattle.reviews.specs.declared.review.TrackReview.{TrackReview}
use Rattle.operator_pages.specs.declared.sights.StuckClients.{StuckClients}
use Rattle.operator_pages.specs.declared.sights.StuckList.{StuckList}
use Rattle.operator_pages.specs.declared.app_sights.stuck.StuckAt.{StuckAt}

-- whether the clients are held
abbrev pub held_words : Lane → List ℕ
held_words lane.Target = []
held_words lane.Held = codes ", held"

-- whether they allow a downgrade
abbrev pub downgrade_words : Bool → List ℕ
downgrade_words rollback = if rollback then codes ", with downgrades" else []

-- rule: Named clients
-- the clients of a track: their cohort, whether they are held, and whether they allow a downgrade
abbrev pub clients_string : App → TrackKey → List ℕ
clients_string app key = cohort_name app key.cohort ++ (held_words key.lane ++ downgrade_words key.rollback)

-- the clients of a track at a release, if they are stuck
abbrev pub stuck_at : TrackKey → ℕ → Outcome → Option StuckAt
stuck_at key release Here = None
stuck_at key release (Next payload sum) = None
stuck_at key release (Stuck reason) = Some (record { key = key; release = release; reason = reason })

-- the stuck clients of a track, by ascending version
abbrev pub stuck_on : TrackReview → List StuckAt
stuck_on review =
    filter_map (λ (numbered : ℕ × Outcome). stuck_at review.key numbered.0 numbered.1) (enumerate_from 0 review.outcomes)

-- those of a track of an app, none of another app's
abbrev pub stuck_if : ℕ → TrackReview → List StuckAt
stuck_if app review = if review.key.app == app then stuck_on review else []

-- rule: Stuck clients of an app
-- those of all tracks of an app, in the order of the reviews
abbrev pub stuck_in : ℕ → List TrackReview → List StuckAt
stuck_in app reviews = flat_map (stuck_if app) reviews

-- how stuck clients are shown: the version of their release, who they are, and why they are stuck
abbrev pub said_of : App → StuckAt → StuckClients
said_of app stuck = record {
  version = spelled_at app stuck.release;
  clients = clients_string app stuck.key;
  reason = reason_string stuck.reason;
}

-- the first twenty as they are shown, and how many others there are
abbrev pub list_of : App → List StuckAt → StuckList
list_of app stuck = record { first = map (said_of app) (take 20 stuck); others = length stuck - 20 }
