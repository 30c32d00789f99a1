-- How the review of a catalogue is printed; this project's profile.
use Rattle.std.specs.Prelude.{ℕ, ◌-◌, ◌==◌, if◌then◌else◌, codes, decimal, List, [], ◌++◌, filter_map, length, slice_get, sum_by, take, unwrap_or, Option, None, Some, option_and_then}
use Rattle.std.specs.List.{count_by, enumerate_from, flat_map}
use Rattle.std.specs.Option.{option_map_or}
use Rattle.catalogue.specs.declared.content.App.{App}
use Rattle.payload_graph.specs.declared.payload.TrackKey.{TrackKey}
use Rattle.quotes.specs.declared.quote.Quote.{Quote}
use Rattle.quotes.specs.declared.quote.Quote.TheVariants as quote
use Rattle.reviews.specs.Largest.{sum_of, value_at}
use Rattle.review_reports.specs.Lines.{largest_word, line_string, longest_word, new_word, stuck_release, stuck_word, track_string, track_word}
use Rattle.reviews.specs.Names.{spelled_at}
use Rattle.reviews.specs.Reviews.{is_stuck}
use Rattle.review_reports.specs.declared.change.Clients.{Clients}
use Rattle.reviews.specs.declared.largest.Largest.{Largest}
use Rattle.reviews.specs.declared.review.TrackReview.{TrackReview}
use Rattle.reviews.specs.declared.outcome.Outcome.{Outcome}
use Rattle.reviews.specs.declared.outcome.Outcome.TheVariants.{Here, Next, Stuck}
use Rattle.review_reports.specs.declared.stuck.StuckRelease.{StuckRelease}

-- the release at an index, if its clients are stuck
abbrev pub stuck_at : ℕ → Outcome → Option StuckRelease
stuck_at release Here = None
stuck_at release (Next payload sum) = None
stuck_at release (Stuck reason) = Some (record { release = release; reason = reason })

-- the stuck releases of a track, by ascending version
abbrev pub stuck_of : List Outcome → List StuckRelease
stuck_of outcomes =
    filter_map (λ (numbered : ℕ × Outcome). stuck_at numbered.0 numbered.1) (enumerate_from 0 outcomes)

-- the clients of a track
abbrev pub clients_on : TrackKey → Clients
clients_on key = record { app = key.app; cohort = key.cohort; lane = key.lane; rollback = key.rollback }

-- how many releases all tracks have, one for each track that it is on
abbrev pub release_total : List TrackReview → ℕ
release_total reviews = sum_by (λ (review : TrackReview). length review.outcomes) reviews

-- how many tracks there are, and how many releases they have
abbrev pub totals_string : List TrackReview → List ℕ
totals_string reviews =
    codes "total   " ++ (decimal (length reviews) ++ (codes " tracks, " ++ (decimal (release_total reviews) ++ codes " releases")))

-- rule: Number of stuck releases
-- how many releases are stuck, one for each track on which it is stuck
abbrev pub stuck_total : List TrackReview → ℕ
stuck_total reviews = sum_by (λ (review : TrackReview). count_by is_stuck review.outcomes) reviews

-- a track's target, how many releases it has, and how many of them are stuck
abbrev pub track_facts : App → TrackReview → List ℕ
track_facts app review =
    codes "target " ++ (spelled_at app review.target ++ (codes ", " ++ (decimal (length review.outcomes)
    ++ (codes " releases, " ++ (decimal (count_by is_stuck review.outcomes) ++ codes " stuck")))))

-- a line for each of some stuck releases
abbrev pub stuck_lines : App → List ℕ → List StuckRelease → List ℕ
stuck_lines app track stuck =
    flat_map (λ (one : StuckRelease). line_string stuck_word track (stuck_release app one.release one.reason)) stuck

-- a line that counts the stuck releases without a line, if there are any
abbrev pub more_line : List ℕ → ℕ → List ℕ
more_line track more = if more == 0 then [] else line_string stuck_word track (decimal more ++ codes " more")

-- the lines of the first stuck releases of a track, at most so many, and the number of the others
abbrev pub stuck_part : App → List ℕ → ℕ → List StuckRelease → List ℕ
stuck_part app track limit stuck = stuck_lines app track (take limit stuck) ++ more_line track (length stuck - limit)

-- the steps of the release at an index of a track; 0 if it has none
abbrev pub steps_from : TrackReview → ℕ → ℕ
steps_from review release = unwrap_or (value_at review.steps release) 0

-- its bytes up to the target; 0 if it has none
abbrev pub bytes_from : TrackReview → ℕ → ℕ
bytes_from review release = unwrap_or (option_and_then sum_of (slice_get review.outcomes release)) 0

-- rule: Printed chain
-- the chain from a release: its release, its steps and its bytes; or that there is none
abbrev pub chain_string : App → TrackReview → Option Largest → List ℕ
chain_string app review None = codes "none"
chain_string app review (Some best) =
    spelled_at app best.from ++ (codes ", " ++ (decimal (steps_from review best.from) ++ (codes " steps, "
    ++ (decimal (bytes_from review best.from) ++ codes " bytes"))))

-- what clients outside of all releases download, from version 0
abbrev pub newcomers_string : Quote → List ℕ
newcomers_string quote.Here = codes "0 bytes"
newcomers_string (quote.Next payload sum) = decimal sum ++ codes " bytes"
newcomers_string quote.NoChain = codes "stuck"

-- the lines of a track's largest and longest chains, and of clients outside of all releases
abbrev pub chain_lines : App → List ℕ → TrackReview → List ℕ
chain_lines app track review =
    line_string largest_word track (chain_string app review review.largest)
    ++ (line_string longest_word track (chain_string app review review.longest)
    ++ line_string new_word track (newcomers_string review.newcomers))

-- rule: Lines of a track
-- the lines of a track of that name
abbrev pub named_lines : App → List ℕ → ℕ → TrackReview → List ℕ
named_lines app track limit review =
    line_string track_word track (track_facts app review)
    ++ (stuck_part app track limit (stuck_of review.outcomes)
    ++ chain_lines app track review)

-- the lines of a track; none if its app isn't there
abbrev pub track_lines : List App → ℕ → TrackReview → List ℕ
track_lines apps limit review =
    option_map_or (λ (app : App). named_lines app (track_string app (clients_on review.key)) limit review)
    (slice_get apps review.key.app) []

-- the lines of some tracks
abbrev pub all_lines : List App → ℕ → List TrackReview → List ℕ
all_lines apps limit reviews = flat_map (track_lines apps limit) reviews

-- how many tracks there are, how many releases they have, and how many of these are stuck
abbrev pub review_counts : List TrackReview → List ℕ
review_counts reviews =
    totals_string reviews ++ (codes ", " ++ (decimal (stuck_total reviews) ++ codes " stuck\n"))

-- rule: Printed review
-- the lines of each track, in their order, with at most so many stuck releases each, and the line of counts
abbrev pub review_string : List App → ℕ → List TrackReview → List ℕ
review_string apps limit reviews = all_lines apps limit reviews ++ review_counts reviews
