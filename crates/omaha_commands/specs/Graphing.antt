-- What the command `graph` prints; this project's profile.
use Rattle.std.specs.Prelude.{◌≡◌, ◌⊎◌, ℕ, Bool, if◌then◌else◌, List, Option, None, Some, option_and_then, option_map, position, slice_get, Result, Ok, Err}
use Rattle.catalogue.specs.Versions.{version_of}
use Rattle.catalogue.specs.Lookups.{cohorts_at, is_app, is_cohort, is_release, releases_at}
use Rattle.catalogue.specs.declared.content.App.{App}
use Rattle.editions.specs.Editions.{content_of}
use Rattle.certificates.specs.declared.fault.Fault.TheVariants as fault
use Rattle.reviews.specs.Reviews.{AreReviews}
use Rattle.reviews.specs.declared.review.TrackReview.{TrackReview}
use Rattle.reviews.specs.Dot.{dot_string}
use Rattle.reviews.specs.Scenes.{picture_of}
use Rattle.reviews.specs.Svg.{svg_string}
use Rattle.reviews.specs.declared.pictures.picture.Picture.{Picture}
use Rattle.reviews.specs.declared.pictures.view.View.{View}
use Rattle.service_desks.specs.declared.services.service.Service.{Service}
use Rattle.profiles.specs.Profiles.{Files, IsServed}
use Rattle.profiles.specs.Printing.{Prints}
use Rattle.profiles.specs.Streams.{Streams}
use Rattle.omaha_arguments.specs.declared.command.Graph.{Graph}
use Rattle.failures.specs.declared.failure.Failure.{Failure}
use Rattle.failures.specs.declared.failure.Failure.TheVariants as failure

-- the index of the cohort that is named, if one is; nothing if the app has no such cohort
abbrev pub cohort_in : List App → ℕ → Option (List ℕ) → Option (Option ℕ)
cohort_in apps app None = Some None
cohort_in apps app (Some name) = option_map (λ cohort. Some cohort) (position (is_cohort name) (cohorts_at apps app))

-- the index of the release of a version as a publisher writes it
abbrev pub release_named : List App → ℕ → List ℕ → Option ℕ
release_named apps app name =
    option_and_then (λ (read : List ℕ × ℕ). position (is_release read.0) (releases_at apps app)) (version_of name)

-- the index of the release that is named, if one is; nothing if the app has no such release
abbrev pub release_in : List App → ℕ → Option (List ℕ) → Option (Option ℕ)
release_in apps app None = Some None
release_in apps app (Some name) = option_map (λ release. Some release) (release_named apps app name)

-- what is drawn of an app: a cohort and a release, if they are named
abbrev pub view_at : ℕ → Option ℕ → Option ℕ → View
view_at app cohort from = record { app = app; cohort = cohort; from = from }

-- what is drawn, if all that is named is there
abbrev pub view_in : List App → Graph → Option View
view_in apps asked =
    option_and_then (λ app.
    option_and_then (λ cohort. option_map (view_at app cohort) (release_in apps app asked.from)) (cohort_in apps app asked.cohort))
    (position (is_app asked.app) apps)

-- the app that is drawn, and what is drawn of it
abbrev pub subject_in : List App → Graph → Option (App × View)
subject_in apps asked =
    option_and_then (λ (view : View). option_map (λ (app : App). (app, view)) (slice_get apps view.app)) (view_in apps asked)

-- a picture as it is printed: a graph or an image
abbrev pub drawn_string : Bool → App → Picture → List ℕ
drawn_string dot app picture = if dot then dot_string app picture else svg_string app picture

-- the picture of an app by the reviews of a content, as it is printed
abbrev pub IsDrawn : List App → Bool → App → View → List ℕ → Type 0
IsDrawn apps dot app view text =
    (reviews : List TrackReview) × AreReviews apps reviews × (text ≡ drawn_string dot app (picture_of app view reviews))

-- rule: Drawn app
-- the picture of the app that is named; or there is no such app, cohort or release; or memory runs out
abbrev pub Draws : List App → Graph → Result (List ℕ) Failure → Type 0
Draws apps asked (Ok text) =
    (app : App) × (view : View) × (subject_in apps asked ≡ Some (app, view)) × IsDrawn apps asked.dot app view text
Draws apps asked (Err refusal) =
    ((refusal ≡ failure.Certificate fault.NoTrack) × (subject_in apps asked ≡ None)) ⊎ (refusal ≡ failure.Memory)

-- what follows from what was made of the profile: its edition's app is drawn, or the same failure
abbrev pub IsDrawnBy : Graph → Result Service Failure → Result (List ℕ) Failure → Type 0
IsDrawnBy asked (Ok service) found = Draws (content_of service.edition) asked found
IsDrawnBy asked (Err refusal) found = found ≡ Err refusal

-- the profile is read first, and what follows from it is drawn
pub record IsGraph (files : Files) (asked : Graph) (found : Result (List ℕ) Failure) : Type 0 where
  pub made : Result Service Failure
  pub served : IsServed files (Some asked.profile) made
  pub follows : IsDrawnBy asked made found

-- rule: Picture of a profile's app
-- the picture is found, and printed
pub record PrintsGraph (files : Files) (asked : Graph) (old new : Streams) (result : Result (Unit {0}) Failure) : Type 0 where
  pub found : Result (List ℕ) Failure
  pub is : IsGraph files asked found
  pub printed : Prints found old new result
