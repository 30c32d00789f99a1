-- The arguments of the commands that report on a profile; this project's profile.
use Rattle.std.specs.Prelude.{ℕ, ◌&&◌, not, Bool, true, false, if◌then◌else◌, List, [], ◌∷◌, codes, is_some, Option, None, Some, unwrap_or}
use Rattle.std.specs.Option.{option_map, option_map_or}
use Rattle.std.specs.Str.{bytes_eq}
use Rattle.clap.specs.Words.{App, Kinds, Row, first_of, new_app, new_rule, with_rule}
use Rattle.clap.specs.declared.error.kind.ErrorKind.TheVariants.{ValueValidation}
use Rattle.cohorts.specs.declared.names.TrackNames.{TrackNames}
use Rattle.cohorts.specs.declared.track.Lane.{Lane}
use Rattle.cohorts.specs.declared.track.Lane.TheVariants.{Target, Held}
use Rattle.omaha_arguments.specs.Options.{flag_in, flag_named, option_named, string_in, wanted, wanted_list, workers_in}
use Rattle.omaha_arguments.specs.declared.command.Comparison.{Comparison}
use Rattle.omaha_arguments.specs.declared.command.Question.{Question}
use Rattle.omaha_arguments.specs.declared.command.Question.TheVariants.{Check, Warn, Script, Certify, Verify}
use Rattle.omaha_arguments.specs.declared.command.Report.{Report}

-- the commands `check F`, with its options, `certify F APP COHORT LANE ROLLBACK` and `verify F CERT`
abbrev pub check_app : App
check_app =
    with_rule
    (with_rule
    (with_rule (with_rule (with_rule (new_app (codes "check")) (wanted (codes "F"))) (option_named (codes "packages")))
    (option_named (codes "workers")))
    (flag_named (codes "warn")))
    (option_named (codes "script"))

abbrev pub certify_app : App
certify_app =
    with_rule
    (with_rule
    (with_rule
    (with_rule (with_rule (new_app (codes "certify")) (wanted (codes "F"))) (wanted (codes "APP")))
    (wanted (codes "COHORT")))
    (wanted (codes "LANE")))
    (wanted (codes "ROLLBACK"))

abbrev pub verify_app : App
verify_app = with_rule (with_rule (new_app (codes "verify")) (wanted (codes "F"))) (wanted (codes "CERT"))

-- the command `explain [CODE]`
abbrev pub explain_app : App
explain_app = with_rule (new_app (codes "explain")) (new_rule (codes "CODE"))

-- the command `describe FILE..`
abbrev pub describe_app : App
describe_app = with_rule (new_app (codes "describe")) (wanted_list (codes "FILE"))

-- the lane of a word, if it is one
abbrev pub lane_of : List ℕ → Option Lane
lane_of word =
    if bytes_eq word (codes "target") then Some Target
    else (if bytes_eq word (codes "held") then Some Held else None)

-- what `yes` or `no` says
abbrev pub yes_or_no : List ℕ → Option Bool
yes_or_no word =
    if bytes_eq word (codes "yes") then Some true
    else (if bytes_eq word (codes "no") then Some false else None)

-- the names of a track, with such a lane and rollback
abbrev pub names_of : Lane → Bool → List Row → TrackNames
names_of lane rollback options =
    record {
      app = string_in (codes "APP") options;
      cohort = string_in (codes "COHORT") options;
      lane = lane;
      rollback = rollback;
    }

-- the names of a track
abbrev pub names_in : List Row → TrackNames
names_in options =
    names_of (unwrap_or (lane_of (string_in (codes "LANE") options)) Target)
    (unwrap_or (yes_or_no (string_in (codes "ROLLBACK") options)) false) options

-- the question of `check` without a script
abbrev pub plain_question_in : List Row → Question
plain_question_in options = if flag_in (codes "warn") options then Warn else Check

-- the question of `check`, perhaps with a script
abbrev pub question_with : Option (List ℕ) → List Row → Question
question_with script options = option_map_or (λ path. Script path) script (plain_question_in options)

-- the question of `check`
abbrev pub check_question_in : List Row → Question
check_question_in options = question_with (first_of (codes "script") options) options

-- the question of the command of a name
abbrev pub question_in : List ℕ → List Row → Question
question_in name options =
    if bytes_eq name (codes "check") then check_question_in options
    else (if bytes_eq name (codes "certify") then Certify (names_in options)
    else Verify (string_in (codes "CERT") options))

-- what is asked about a profile, with so many threads and such a question
abbrev pub report_on : ℕ → Question → List Row → Report
report_on workers question options =
    record { profile = string_in (codes "F") options; workers = workers; question = question }

-- rule: Arguments of a report
-- what the command of a name asks about a profile, with so many threads
abbrev pub report_in : List ℕ → ℕ → List Row → Report
report_in name workers options = report_on workers (question_in name options) options

-- rule: Arguments of a comparison
-- what `check` is asked to compare: the packages of the profile with the files of the folder, if one is given
abbrev pub comparison_in : ℕ → List Row → Option Comparison
comparison_in workers options =
    option_map (λ packages. record { profile = string_in (codes "F") options; packages = packages; workers = workers })
    (first_of (codes "packages") options)

-- `--warn` and `--packages` aren't given together
abbrev pub is_one_check : List Row → Bool
is_one_check options = not (flag_in (codes "warn") options && is_some (first_of (codes "packages") options))

-- `--script`, if it is given, is without `--warn` and `--packages`
abbrev pub is_script_alone : List Row → Bool
is_script_alone options =
    if is_some (first_of (codes "script") options)
    then not (flag_in (codes "warn") options) && not (is_some (first_of (codes "packages") options))
    else true

-- what is wrong with the options of `check`
abbrev pub faults_of_check : List Row → Kinds
faults_of_check options =
    if is_some (workers_in options) && is_one_check options && is_script_alone options then []
    else ValueValidation ∷ []

-- LANE and ROLLBACK are such words
abbrev pub faults_of_certify : List Row → Kinds
faults_of_certify options =
    if is_some (lane_of (string_in (codes "LANE") options)) && is_some (yes_or_no (string_in (codes "ROLLBACK") options))
    then [] else ValueValidation ∷ []

-- what is wrong with the arguments of the command of a name
abbrev pub faults_of_report : List ℕ → List Row → Kinds
faults_of_report name options =
    if bytes_eq name (codes "certify") then faults_of_certify options else []
