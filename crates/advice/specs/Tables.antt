-- The tables of profiles and scripts: their headers, their keys and what a key holds; this project's profile.
use Rattle.std.specs.Prelude.{ℕ, ◌==◌, Bool, true, false, if◌then◌else◌, List, [], ◌∷◌, codes, unwrap_or, Option, Some, None}
use Rattle.std.specs.List.{list_any, slice_split}
use Rattle.std.specs.Map.{lookup}
use Rattle.std.specs.Str.{bytes_eq}
use Rattle.advice.specs.declared.tables.Kind.{Kind}
use Rattle.advice.specs.declared.tables.Kind.TheVariants as kind

-- what a table of a kind begins with; a document has no such line
abbrev pub header_of : Kind → List ℕ
header_of kind.Profile = codes "[["
header_of kind.Script = codes "[["
header_of kind.Mirror = codes "[[mirror]]"
header_of kind.App = codes "[[app]]"
header_of kind.Cohort = codes "[[app.cohort]]"
header_of kind.Release = codes "[[app.release]]"
header_of kind.Diff = codes "[[app.diff]]"
header_of kind.Edit = codes "[[edit]]"

-- a table of a kind, as it is printed
abbrev pub kind_words : Kind → List ℕ
kind_words kind.Profile = codes "a profile"
kind_words kind.Script = codes "a script"
kind_words kind.Mirror = codes "a mirror"
kind_words kind.App = codes "an app"
kind_words kind.Cohort = codes "a cohort"
kind_words kind.Release = codes "a release"
kind_words kind.Diff = codes "a diff"
kind_words kind.Edit = codes "this edit"

-- the kinds of tables that a document has, and those that an app has, by the keys that hold them
abbrev pub outer_kinds : List (List ℕ × Kind)
outer_kinds = (codes "mirror", kind.Mirror) ∷ (codes "app", kind.App) ∷ (codes "edit", kind.Edit) ∷ []

abbrev pub inner_kinds : List (List ℕ × Kind)
inner_kinds = (codes "cohort", kind.Cohort) ∷ (codes "release", kind.Release) ∷ (codes "diff", kind.Diff) ∷ []

abbrev pub outer_kind : List ℕ → Option Kind
outer_kind name = lookup (bytes_eq name) outer_kinds

abbrev pub inner_kind : List ℕ → Option Kind
inner_kind name = lookup (bytes_eq name) inner_kinds

-- the keys of an edit by the word after `do =`, with a space between two
abbrev pub edit_keys : List (List ℕ × List ℕ)
edit_keys =
    (codes "add_app", codes "do app default")
    ∷ (codes "add_release", codes "do app version name size sha256")
    ∷ (codes "add_cohort", codes "do app cohort")
    ∷ (codes "set_target", codes "do app cohort target held")
    ∷ (codes "set_share", codes "do app cohort share")
    ∷ (codes "set_open", codes "do app cohort on")
    ∷ (codes "add_diff", codes "do app from to name size sha256")
    ∷ (codes "set_stone", codes "do app version on")
    ∷ (codes "set_withdrawn", codes "do app version on")
    ∷ (codes "set_audience", codes "do app version cohorts")
    ∷ (codes "set_rollback", codes "do app cohort on")
    ∷ (codes "set_floor", codes "do app version floor")
    ∷ []

-- the keys of all edits
abbrev pub all_edit_keys : List ℕ
all_edit_keys = codes "do app cohort share target held version on cohorts floor name size sha256 from to default"

-- rule: Keys of a table
-- the keys that a table of a kind may have; of an edit, by the word after `do =`
abbrev pub keys_of : Kind → List ℕ → List ℕ
keys_of kind.Profile verb = codes "schema mirror app"
keys_of kind.Script verb = codes "schema base edit"
keys_of kind.Mirror verb = codes "name codebase budget"
keys_of kind.App verb = codes "id default cohort release diff"
keys_of kind.Cohort verb = codes "name target held share rollback open"
keys_of kind.Release verb = codes "version name size sha256 stone withdrawn audience floor"
keys_of kind.Diff verb = codes "from to name size sha256"
keys_of kind.Edit verb = unwrap_or (lookup (bytes_eq verb) edit_keys) all_edit_keys

-- a space
abbrev pub is_space : ℕ → Bool
is_space byte = byte == 32

-- the parts of a string between spaces
abbrev pub words_of : List ℕ → List (List ℕ)
words_of keys = slice_split is_space keys

-- the tables of these kinds hold tables under these keys
abbrev pub holds_tables : Kind → List ℕ → Bool
holds_tables kind.Profile key = list_any (bytes_eq key) (codes "mirror" ∷ codes "app" ∷ [])
holds_tables kind.Script key = bytes_eq key (codes "edit")
holds_tables kind.App key = list_any (bytes_eq key) (codes "cohort" ∷ codes "release" ∷ codes "diff" ∷ [])
holds_tables other key = false

-- what a key holds that is no string and no table
abbrev pub forms : List (List ℕ × List ℕ)
forms =
    (codes "schema", codes "1 or 2, without quotes")
    ∷ (codes "base", codes "the number of the published edition, without quotes")
    ∷ (codes "share", codes "a number from 0 to 1000, without quotes")
    ∷ (codes "size", codes "a number of bytes, without quotes")
    ∷ (codes "budget", codes "a number of bytes, without quotes")
    ∷ (codes "stone", codes "true or false, without quotes")
    ∷ (codes "withdrawn", codes "true or false, without quotes")
    ∷ (codes "rollback", codes "true or false, without quotes")
    ∷ (codes "open", codes "true or false, without quotes")
    ∷ (codes "on", codes "true or false, without quotes")
    ∷ (codes "audience", codes "a list of cohorts, as [\"stable\"]")
    ∷ (codes "cohorts", codes "a list of cohorts, as [\"stable\"]")
    ∷ (codes "do", codes "one of \"add_app\", \"add_release\", \"add_cohort\", \"add_diff\", \"set_target\", \"set_share\", \"set_open\", \"set_stone\", \"set_withdrawn\", \"set_audience\", \"set_rollback\" and, in schema 2, \"set_floor\"")
    ∷ []

-- what a key holds, by whether that is tables
abbrev pub form_by : Bool → List ℕ → List ℕ
form_by true key = codes "one table after the other, each below its own [[..]]"
form_by false key = unwrap_or (lookup (bytes_eq key) forms) (codes "a string in quotes")

-- what a key of a table of a kind holds if not each string will do
abbrev pub strict_form : Kind → List ℕ → Option (List ℕ)
strict_form kind.Cohort key =
    if bytes_eq key (codes "name") then Some (codes "a name in quotes that no other cohort of the app has") else None
strict_form kind.Release key =
    if bytes_eq key (codes "floor") then Some (codes "a version in quotes, and schema = 2 at the top: schema 1 has no floors") else None
strict_form other key = None

-- rule: Form of a key
-- what a key of a table holds
abbrev pub form_of : Kind → List ℕ → List ℕ
form_of kind key = unwrap_or (strict_form kind key) (form_by (holds_tables kind key) key)
