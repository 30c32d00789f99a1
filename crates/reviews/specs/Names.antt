-- What reasons, releases and cohorts are printed as; this project's profile.
use Rattle.std.specs.Prelude.{ℕ, codes, List, [], slice_get}
use Rattle.std.specs.Option.{option_map_or}
use Rattle.catalogue.specs.declared.content.App.{App}
use Rattle.catalogue.specs.declared.content.Cohort.{Cohort}
use Rattle.catalogue.specs.declared.content.Release.{Release}
use Rattle.reviews.specs.declared.cause.Cause.TheVariants.{Withdrawn, Audience, Stone, Floor, Downgrade}
use Rattle.reviews.specs.declared.cause.Reason.{Reason}
use Rattle.reviews.specs.declared.cause.Reason.TheVariants.{Alone, Several}

-- rule: Printed reason
-- what a reason is printed as
abbrev pub reason_string : Reason → List ℕ
reason_string (Alone Withdrawn) = codes "the target is withdrawn"
reason_string (Alone Audience) = codes "the target is closed to the cohort"
reason_string (Alone Stone) = codes "a stone can't be reached"
reason_string (Alone Floor) = codes "below a floor"
reason_string (Alone Downgrade) = codes "above the target without a downgrade"
reason_string Several = codes "several rules"

-- the version of a release as it was added; empty if there is no such release
abbrev pub spelled_at : App → ℕ → List ℕ
spelled_at app release = option_map_or (λ (there : Release). there.spelled) (slice_get app.releases release) []

-- the name of a cohort; empty if there is no such cohort
abbrev pub cohort_name : App → ℕ → List ℕ
cohort_name app index = option_map_or (λ (there : Cohort). there.name) (slice_get app.cohorts index) []
