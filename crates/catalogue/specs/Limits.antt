-- How many items there may be, and the bounds of numbers; this project's profile.
use Rattle.std.specs.Prelude.{ℕ}

-- apps of a catalogue
abbrev pub max_apps : ℕ
max_apps = 64

-- releases of an app
abbrev pub max_releases : ℕ
max_releases = 512

-- differentials of an app
abbrev pub max_diffs : ℕ
max_diffs = 16384

-- cohorts of an app, its default cohort among them
abbrev pub max_cohorts : ℕ
max_cohorts = 32

-- a cohort's share: all of 1000 clients
abbrev pub max_share : ℕ
max_share = 1000
