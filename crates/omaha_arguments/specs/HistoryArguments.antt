-- The arguments of the command `history`; this project's profile.
use Rattle.std.specs.Prelude.{ℕ, ◌-◌, ◌==◌, ◌&&◌, not, if◌then◌else◌, List, [], ◌∷◌, codes, is_some, length, slice_index_or, Option, None, Some, unwrap_or}
use Rattle.std.specs.Option.{option_and_then}
use Rattle.std.specs.Str.{bytes_eq}
use Rattle.clap.specs.Words.{App, Kinds, Row, new_app, with_rule}
use Rattle.clap.specs.declared.error.kind.ErrorKind.TheVariants.{ValueValidation}
use Rattle.etcd_records.specs.declared.paths.fault.EtcdPathFault.{EtcdPathFault}
use Rattle.omaha_arguments.specs.HistoryPaths.{history_fault}
use Rattle.omaha_arguments.specs.Options.{option_named, strings_in, wanted_list}
use Rattle.omaha_arguments.specs.ServeArguments.{limit_in}
use Rattle.omaha_arguments.specs.declared.command.HistoryAction.{HistoryAction}
use Rattle.omaha_arguments.specs.declared.command.HistoryAction.TheVariants as action
use Rattle.omaha_arguments.specs.declared.command.HistoryAsked.{HistoryAsked}

-- the command `history [export|compact] F [--edition N]`
abbrev pub history_app : App
history_app =
    with_rule (with_rule (new_app (codes "history")) (option_named (codes "edition"))) (wanted_list (codes "F"))

-- what is asked for, unless an edition is named
abbrev pub without_edition : Option ℕ → HistoryAction → Option HistoryAction
without_edition None asked = Some asked
without_edition (Some edition) asked = None

-- what a word asks for: an edition is that of an export
abbrev pub action_named : List ℕ → Option ℕ → Option HistoryAction
action_named word edition =
    if bytes_eq word (codes "export") then Some (action.Export edition)
    else (if bytes_eq word (codes "compact") then without_edition edition action.Compact else None)

-- what some words ask for: one is the path alone, and of two the first one says what to do
abbrev pub action_in : List (List ℕ) → Option ℕ → Option HistoryAction
action_in words edition =
    if length words == 1 then without_edition edition action.List
    else (if length words == 2 then action_named (slice_index_or words 0 []) edition else None)

-- the last of some words, or nothing
abbrev pub last_of : List (List ℕ) → List ℕ
last_of words = slice_index_or words (length words - 1) []

-- the edition of `--edition`; none if that is no number
abbrev pub edition_in : List Row → Option (Option ℕ)
edition_in options = limit_in (codes "edition") options

-- what to do, if the arguments say so
abbrev pub action_asked : List Row → Option HistoryAction
action_asked options = option_and_then (action_in (strings_in (codes "F") options)) (edition_in options)

-- what the arguments ask for
abbrev pub asked_in : List Row → HistoryAsked
asked_in options = record {
  path = last_of (strings_in (codes "F") options);
  action = unwrap_or (action_asked options) action.List;
}

-- what the arguments F ask for, with an edition
abbrev pub asked_by : List (List ℕ) → Option ℕ → HistoryAsked
asked_by words edition = record { path = last_of words; action = unwrap_or (action_in words edition) action.List }

-- what is wrong with the path among some words
abbrev pub path_fault : List (List ℕ) → Option EtcdPathFault
path_fault words = history_fault (last_of words)

-- what is wrong with the arguments F
abbrev pub faults_by : List (List ℕ) → Option ℕ → Kinds
faults_by words edition =
    if is_some (action_in words edition) && not (is_some (path_fault words)) then [] else ValueValidation ∷ []

-- what is wrong with them
abbrev pub faults_of_history : List Row → Kinds
faults_of_history options =
    if is_some (action_asked options) && not (is_some (path_fault (strings_in (codes "F") options)))
    then []
    else ValueValidation ∷ []
