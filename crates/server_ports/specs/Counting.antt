-- What a server counts for the apps of a catalogue; this project's profile.
use Rattle.std.specs.Prelude.{ℕ, List, length, map}
use Rattle.catalogue.specs.declared.content.App.{App}

-- how many cohorts each app has
abbrev pub cohort_counts : List App → List ℕ
cohort_counts apps = map (λ (app : App). length app.cohorts) apps
