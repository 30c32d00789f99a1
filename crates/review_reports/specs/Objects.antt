-- How reviews are written as JSON objects, one on each line; this project's profile. Members are in byte order of their
-- names, as `serde_json` writes them.
use Rattle.std.specs.Prelude.{ℕ, ◌-◌, ◌^◌, if◌then◌else◌, codes, List, [], ◌++◌, length, nat_le, slice_get, Option, None, Some}
use Rattle.std.specs.List.{count_by, flat_map}
use Rattle.std.specs.Option.{option_map_or}
use Rattle.serde_json.specs.Data.{Data, boolean, member, no_members, null, number, object, string, unsigned}
use Rattle.serde_json.specs.Written.{compact_text}
use Rattle.catalogue.specs.declared.content.App.{App}
use Rattle.quotes.specs.declared.quote.Quote.{Quote}
use Rattle.quotes.specs.declared.quote.Quote.TheVariants as quote
use Rattle.review_reports.specs.Lines.{lane_word}
use Rattle.reviews.specs.Names.{cohort_name, reason_string, spelled_at}
use Rattle.review_reports.specs.ReviewLines.{bytes_from, clients_on, release_total, steps_from, stuck_of, stuck_total}
use Rattle.reviews.specs.Reviews.{is_stuck}
use Rattle.reviews.specs.declared.cause.Reason.{Reason}
use Rattle.review_reports.specs.declared.change.Clients.{Clients}
use Rattle.reviews.specs.declared.largest.Largest.{Largest}
use Rattle.reviews.specs.declared.review.TrackReview.{TrackReview}
use Rattle.review_reports.specs.declared.stuck.StuckRelease.{StuckRelease}

-- an object on a line of its own, with no space in it
unfoldable pub object_line : Data → List ℕ
object_line value = compact_text value ++ codes "\n"

-- a whole number
abbrev pub whole : ℕ → Data
whole amount = number (unsigned amount)

-- a total; one past the largest number of 64 bits is written as that
abbrev pub capped : ℕ → ℕ
capped total = if nat_le total (2 ^ 64 - 1) then total else 2 ^ 64 - 1

-- bytes, or `null` of clients who are stuck or weren't there
abbrev pub bytes_data : Option ℕ → Data
bytes_data None = null
bytes_data (Some bytes) = whole bytes

-- a track: its target, how many releases it has, and how many of them are stuck
abbrev pub track_data : App → TrackReview → Data
track_data app review =
    object
    (member (codes "app") (string app.id)
    (member (codes "cohort") (string (cohort_name app review.key.cohort))
    (member (codes "downgrade") (boolean review.key.rollback)
    (member (codes "kind") (string (codes "track"))
    (member (codes "lane") (string (lane_word review.key.lane))
    (member (codes "releases") (whole (length review.outcomes))
    (member (codes "stuck") (whole (count_by is_stuck review.outcomes))
    (member (codes "target") (string (spelled_at app review.target))
    no_members))))))))

-- a stuck release, and why it is stuck; its kind says whether it is newly stuck
abbrev pub stuck_data : App → List ℕ → Clients → ℕ → Reason → Data
stuck_data app kind clients release reason =
    object
    (member (codes "app") (string app.id)
    (member (codes "cohort") (string (cohort_name app clients.cohort))
    (member (codes "downgrade") (boolean clients.rollback)
    (member (codes "kind") (string kind)
    (member (codes "lane") (string (lane_word clients.lane))
    (member (codes "reason") (string (reason_string reason))
    (member (codes "version") (string (spelled_at app release))
    no_members)))))))

-- the line of a stuck release of a track
abbrev pub stuck_line : App → Clients → StuckRelease → List ℕ
stuck_line app clients one = object_line (stuck_data app (codes "stuck") clients one.release one.reason)

-- a line for each of some stuck releases of a track
abbrev pub stuck_objects : App → Clients → List StuckRelease → List ℕ
stuck_objects app clients stuck = flat_map (stuck_line app clients) stuck

-- the chain from a release of a track: its steps and its bytes
abbrev pub chain_data : App → List ℕ → TrackReview → Largest → Data
chain_data app kind review best =
    object
    (member (codes "app") (string app.id)
    (member (codes "bytes") (whole (bytes_from review best.from))
    (member (codes "cohort") (string (cohort_name app review.key.cohort))
    (member (codes "downgrade") (boolean review.key.rollback)
    (member (codes "from") (string (spelled_at app best.from))
    (member (codes "kind") (string kind)
    (member (codes "lane") (string (lane_word review.key.lane))
    (member (codes "steps") (whole (steps_from review best.from))
    no_members))))))))

-- its line; none if no release has a chain
abbrev pub chain_object : App → List ℕ → TrackReview → Option Largest → List ℕ
chain_object app kind review None = []
chain_object app kind review (Some best) = object_line (chain_data app kind review best)

-- the bytes that clients outside of all releases download, if they aren't stuck
abbrev pub newcomers_bytes : Quote → Option ℕ
newcomers_bytes quote.Here = Some 0
newcomers_bytes (quote.Next payload sum) = Some sum
newcomers_bytes quote.NoChain = None

-- the clients outside of all releases
abbrev pub newcomers_data : App → TrackReview → Data
newcomers_data app review =
    object
    (member (codes "app") (string app.id)
    (member (codes "bytes") (bytes_data (newcomers_bytes review.newcomers))
    (member (codes "cohort") (string (cohort_name app review.key.cohort))
    (member (codes "downgrade") (boolean review.key.rollback)
    (member (codes "kind") (string (codes "new"))
    (member (codes "lane") (string (lane_word review.key.lane))
    no_members))))))

-- the lines of the chains of a track: the largest, the longest, and that of clients outside of all releases
abbrev pub chain_objects : App → TrackReview → List ℕ
chain_objects app review =
    chain_object app (codes "largest") review review.largest
    ++ (chain_object app (codes "longest") review review.longest
    ++ object_line (newcomers_data app review))

-- rule: Objects of a track
-- the lines of a track: the track, each stuck release, and the chains
abbrev pub track_objects : App → TrackReview → List ℕ
track_objects app review =
    object_line (track_data app review)
    ++ (stuck_objects app (clients_on review.key) (stuck_of review.outcomes) ++ chain_objects app review)

-- the lines of a track of a content; none if its app isn't there
abbrev pub track_objects_among : List App → TrackReview → List ℕ
track_objects_among apps review =
    option_map_or (λ (app : App). track_objects app review) (slice_get apps review.key.app) []

-- the lines of some tracks
abbrev pub all_objects : List App → List TrackReview → List ℕ
all_objects apps reviews = flat_map (track_objects_among apps) reviews

-- how many tracks there are, how many releases they have, and how many of these are stuck
abbrev pub summary_data : List TrackReview → Data
summary_data reviews =
    object
    (member (codes "kind") (string (codes "summary"))
    (member (codes "releases") (whole (capped (release_total reviews)))
    (member (codes "stuck") (whole (capped (stuck_total reviews)))
    (member (codes "tracks") (whole (length reviews))
    no_members))))

-- rule: Review as JSON
-- the lines of each track, in their order, and the summary
abbrev pub review_objects : List App → List TrackReview → List ℕ
review_objects apps reviews = all_objects apps reviews ++ object_line (summary_data reviews)
