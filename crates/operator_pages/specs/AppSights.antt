-- What is seen of the releases of each app; this project's profile.
use Rattle.std.specs.Prelude.{◌≡◌, ℕ, ◌+◌, ◌&&◌, nat_lt, not, Bool, true, false, if◌then◌else◌, List, length, map, sum_by, Option, None, Some}
use Rattle.std.specs.List.{enumerate_from, list_any}
use Rattle.catalogue.specs.declared.content.App.{App}
use Rattle.reviews.specs.Reviews.{AreReviews}
use Rattle.reviews.specs.declared.review.TrackReview.{TrackReview}
use Rattle.reviews.specs.Scenes.{picture_of}
use Rattle.reviews.specs.Svg.{svg_string}
use Rattle.reviews.specs.declared.pictures.view.View.{View}
use Rattle.operator_pages.specs.declared.sights.AppSight.{AppSight}
use Rattle.operator_pages.specs.Clients.{list_of, stuck_in}

-- how many apps and releases there are
abbrev pub weight : List App → ℕ
weight apps = sum_by (λ (app : App). length app.releases + 1) apps

abbrev pub has_many_cohorts : App → Bool
has_many_cohorts app = nat_lt 16 (length app.cohorts)

-- rule: Small catalogue
-- a catalogue that is reviewed for a page: of at most 4096 apps and releases, and 16 cohorts for each app
abbrev pub is_small : List App → Bool
is_small apps = not (nat_lt 4096 (weight apps)) && not (list_any has_many_cohorts apps)

-- all clients of an app are drawn, at all of its releases
abbrev pub view_of : ℕ → View
view_of app = record { app = app; cohort = None; from = None }

-- rule: Drawing of an app
-- the SVG image of its picture; none of an app of more than 64 releases
abbrev pub drawing_of : List TrackReview → ℕ → App → Option (List ℕ)
drawing_of reviews index app =
    if nat_lt 64 (length app.releases) then None else Some (svg_string app (picture_of app (view_of index) reviews))

-- what is seen of the app at an index, by the reviews of the catalogue's tracks
abbrev pub sight_by : List TrackReview → ℕ → App → AppSight
sight_by reviews index app = record {
  stuck = Some (list_of app (stuck_in index reviews));
  drawing = drawing_of reviews index app;
}

-- the same of each app
abbrev pub sights_by : List TrackReview → List App → List AppSight
sights_by reviews apps =
    map (λ (numbered : ℕ × App). sight_by reviews numbered.0 numbered.1) (enumerate_from 0 apps)

-- what is seen of an app that wasn't looked at
abbrev pub unseen : App → AppSight
unseen app = record { stuck = None; drawing = None }

-- what is seen of each app, whether or not the catalogue is small
abbrev pub AreSightsIf : Bool → List App → List AppSight → Type 0
AreSightsIf true apps sights =
    (reviews : List TrackReview) × AreReviews apps reviews × (sights ≡ sights_by reviews apps)
AreSightsIf false apps sights = sights ≡ map unseen apps

-- rule: Sights of a catalogue
-- what is seen of each app: its stuck clients and its drawing, by reviews of the catalogue's tracks
abbrev pub AreSights : List App → List AppSight → Type 0
AreSights apps sights = AreSightsIf (is_small apps) apps sights
