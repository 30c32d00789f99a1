-- New clients, outside of all releases, whom a change cuts off; this project's profile.
use Rattle.std.specs.Prelude.{◌&&◌, not, if◌then◌else◌, List, [], ◌∷◌}
use Rattle.std.specs.List.{flat_map}
use Rattle.catalogue.specs.declared.content.App.{App}
use Rattle.review_reports.specs.Changes.{are_same_clients, clients_of, had_target}
use Rattle.review_reports.specs.Warnings.{has_no_chain}
use Rattle.review_reports.specs.declared.change.Clients.{Clients}
use Rattle.reviews.specs.declared.review.TrackReview.{TrackReview}

-- the new clients of a track before a change and of one after it, if they are the same clients and had a chain
abbrev pub cut_off_between : List TrackReview → List TrackReview → TrackReview → TrackReview → List Clients
cut_off_between olds news new old =
    if are_same_clients olds news old new && not (has_no_chain old.newcomers) then clients_of old.key new.key ∷ [] else []

-- those of a track without a chain, by the tracks that they were on; all of them if they had no target before
abbrev pub cut_off_from : List App → List TrackReview → List TrackReview → TrackReview → List Clients
cut_off_from before olds news new =
    if had_target before olds new.key then flat_map (cut_off_between olds news new) olds else clients_of new.key new.key ∷ []

-- those of a track after it, none if it has a chain for them
abbrev pub cut_off_on : List App → List TrackReview → List TrackReview → TrackReview → List Clients
cut_off_on before olds news new = if has_no_chain new.newcomers then cut_off_from before olds news new else []

-- those of some tracks after it
abbrev pub cut_off_among : List App → List TrackReview → List TrackReview → List TrackReview → List Clients
cut_off_among before olds news some = flat_map (cut_off_on before olds news) some

-- rule: New clients cut off
-- those whom no chain leads to their target after a change, and who had a chain or no target before it, by the tracks
-- after it in their order
abbrev pub cut_off_of : List App → List TrackReview → List TrackReview → List Clients
cut_off_of before olds news = cut_off_among before olds news news
