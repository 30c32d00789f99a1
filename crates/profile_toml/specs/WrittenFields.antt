-- The keys of each table of a content's profile, with their values; this project's profile, schema 2. What
-- reading assumes if a key is missing is left out. Versions are spelled as they were added, floors as they
-- print, and hashes as 64 lower-case digits.
use Rattle.std.specs.Prelude.{ℕ, ◌==◌, List, [], ◌∷◌, codes, map, if◌then◌else◌, Option, None, Some, option_map}
use Rattle.std.specs.Str.{bytes_eq}
use Rattle.hex.specs.Hex.{encode_lower}
use Rattle.catalogue.specs.Versions.{printed, zero_version}
use Rattle.catalogue.specs.Contents.{default_name, spelling_of}
use Rattle.catalogue.specs.Limits.{max_share}
use Rattle.catalogue.specs.declared.content.App.{App}
use Rattle.catalogue.specs.declared.content.Cohort.{Cohort}
use Rattle.catalogue.specs.declared.content.Diff.{Diff}
use Rattle.catalogue.specs.declared.content.Release.{Release}
use Rattle.catalogue.specs.declared.mirror.Mirror.{Mirror}
use Rattle.toml.specs.Data.{Members}
use Rattle.profile_toml.specs.WrittenTables.{Field, flag, natural, optional_natural, optional_string, optional_list, filled_table, tables, given_string}

-- rule: Written mirror
-- a mirror
abbrev pub mirror_fields : Mirror → List Field
mirror_fields mirror =
    (codes "name", given_string mirror.name)
    ∷ (codes "codebase", given_string mirror.codebase)
    ∷ (codes "budget", natural mirror.budget)
    ∷ []

-- the share of a cohort, but that of all clients
abbrev pub share_given : ℕ → Option ℕ
share_given share = if share == max_share then None else Some share

-- rule: Written cohort
-- a cohort of an app with these releases
abbrev pub cohort_fields : List Release → Cohort → List Field
cohort_fields releases cohort =
    (codes "name", given_string cohort.name)
    ∷ (codes "target", optional_string (option_map (spelling_of releases) cohort.target))
    ∷ (codes "held", optional_string (option_map (spelling_of releases) cohort.held))
    ∷ (codes "share", optional_natural (share_given cohort.share))
    ∷ (codes "rollback", flag cohort.rollback)
    ∷ (codes "open", flag cohort.hintable)
    ∷ []

-- the floor of a release, but 0
abbrev pub floor_given : List ℕ → Option (List ℕ)
floor_given floor = if bytes_eq floor zero_version then None else Some (printed floor)

-- rule: Written release
-- a release
abbrev pub release_fields : Release → List Field
release_fields release =
    (codes "version", given_string release.spelled)
    ∷ (codes "name", given_string release.name)
    ∷ (codes "size", natural release.size)
    ∷ (codes "sha256", given_string (encode_lower release.hash))
    ∷ (codes "stone", flag release.stone)
    ∷ (codes "withdrawn", flag release.withdrawn)
    ∷ (codes "audience", optional_list release.audience)
    ∷ (codes "floor", optional_string (floor_given release.floor))
    ∷ []

-- rule: Written differential
-- a differential of an app with these releases
abbrev pub diff_fields : List Release → Diff → List Field
diff_fields releases diff =
    (codes "from", given_string (spelling_of releases diff.from))
    ∷ (codes "to", given_string (spelling_of releases diff.to))
    ∷ (codes "name", given_string diff.name)
    ∷ (codes "size", natural diff.size)
    ∷ (codes "sha256", given_string (encode_lower diff.hash))
    ∷ []

-- their tables
abbrev pub mirror_table : Mirror → Members
mirror_table mirror = filled_table (mirror_fields mirror)

abbrev pub cohort_table : List Release → Cohort → Members
cohort_table releases cohort = filled_table (cohort_fields releases cohort)

abbrev pub release_table : Release → Members
release_table release = filled_table (release_fields release)

abbrev pub diff_table : List Release → Diff → Members
diff_table releases diff = filled_table (diff_fields releases diff)

-- rule: Written app
-- an app: all its cohorts, the default one first, its releases and its differentials
abbrev pub app_fields : App → List Field
app_fields app =
    (codes "id", given_string app.id)
    ∷ (codes "default", given_string (default_name app.cohorts))
    ∷ (codes "cohort", tables (map (cohort_table app.releases) app.cohorts))
    ∷ (codes "release", tables (map release_table app.releases))
    ∷ (codes "diff", tables (map (diff_table app.releases) app.diffs))
    ∷ []

abbrev pub app_table : App → Members
app_table app = filled_table (app_fields app)

-- rule: Written tables
-- a content with its mirrors
abbrev pub profile_fields : List App → List Mirror → List Field
profile_fields apps mirrors =
    (codes "schema", natural 2)
    ∷ (codes "mirror", tables (map mirror_table mirrors))
    ∷ (codes "app", tables (map app_table apps))
    ∷ []

abbrev pub profile_table : List App → List Mirror → Members
profile_table apps mirrors = filled_table (profile_fields apps mirrors)
