-- The options of the command `serve`; this project's profile.
use Rattle.std.specs.Prelude.{ℕ, ◌&&◌, ◌||◌, ◌==◌, not, Bool, bytes_eq, if◌then◌else◌, List, [], ◌∷◌, codes, is_some, length, nat_eq, nat_lt, slice_index, true, false, Option, None, Some, unwrap_or}
use Rattle.std.specs.List.{after_first, before_first, ends_with, starts_with}
use Rattle.std.specs.Option.{option_map, option_map_or}
use Rattle.clap.specs.Words.{App, Kinds, Row, first_of, new_app, with_rule}
use Rattle.clap.specs.declared.error.kind.ErrorKind.TheVariants.{MissingRequiredArgument, ValueValidation}
use Rattle.etcd_records.specs.Paths.{is_etcd_path}
use Rattle.etcd_records.specs.declared.paths.fault.EtcdPathFault.{EtcdPathFault}
use Rattle.omaha_arguments.specs.HistoryPaths.{history_fault}
use Rattle.omaha_arguments.specs.Options.{flag_in, flag_named, number_in, number_of, number_within, option_named, seconds_in, string_in, wanted_option, workers_in}
use Rattle.omaha_arguments.specs.declared.command.Serve.{Serve}
use Rattle.omaha_arguments.specs.declared.serve_arguments.Bounds.{Bounds}
use Rattle.omaha_arguments.specs.declared.serve_arguments.Counts.{Counts}
use Rattle.omaha_arguments.specs.declared.serve_arguments.Files.{Files}
use Rattle.omaha_arguments.specs.declared.serve_arguments.Places.{Places}

-- the command with the options of what it serves and where
abbrev pub with_places : App → App
with_places app =
    with_rule
    (with_rule
    (with_rule
    (with_rule
    (with_rule
    (with_rule
    (with_rule
    (with_rule (with_rule app (option_named (codes "profile"))) (option_named (codes "history")))
    (option_named (codes "history-limit")))
    (option_named (codes "follow")))
    (wanted_option (codes "packages")))
    (flag_named (codes "packages-must-exist")))
    (wanted_option (codes "listen")))
    (option_named (codes "operator")))
    (flag_named (codes "operator-anywhere"))

-- the command with the options of how much it serves, and of the log
abbrev pub with_limits : App → App
with_limits app =
    with_rule
    (with_rule
    (with_rule
    (with_rule
    (with_rule
    (with_rule
    (with_rule (with_rule app (option_named (codes "workers"))) (option_named (codes "sessions")))
    (option_named (codes "edits")))
    (option_named (codes "timeout")))
    (option_named (codes "idle")))
    (option_named (codes "connections")))
    (option_named (codes "pinned-tables")))
    (option_named (codes "log"))

-- the command `serve`, with its seventeen options and flags
abbrev pub serve_app : App
serve_app = with_limits (with_places (new_app (codes "serve")))

-- the number of sessions that a string says, if it is a number
abbrev pub limit_of : List ℕ → Option (Option ℕ)
limit_of text = option_map Some (number_of text)

-- how many sessions an option says; none without the option: there is no end
abbrev pub limit_in : List ℕ → List Row → Option (Option ℕ)
limit_in name options = option_map_or limit_of (first_of name options) (Some None)

-- the number of `--connections`, 1 to 1048576, 16384 without the option
abbrev pub connections_in : List Row → Option ℕ
connections_in options = number_within (codes "connections") 16384 1048576 options

-- the numbers of workers and sessions, and the time limit of a message, are valid
unfoldable pub has_counts : List Row → Bool
has_counts options =
    is_some (workers_in options) && is_some (limit_in (codes "sessions") options)
    && is_some (limit_in (codes "edits") options) && is_some (seconds_in (codes "timeout") 30 options)

-- those numbers
unfoldable pub counts_of : List Row → Counts
counts_of options =
    record {
      workers = unwrap_or (workers_in options) 0;
      sessions = unwrap_or (limit_in (codes "sessions") options) None;
      edits = unwrap_or (limit_in (codes "edits") options) None;
      timeout = unwrap_or (seconds_in (codes "timeout") 30 options) 0;
    }

-- those numbers, if they are valid
abbrev pub counts_in : List Row → Option Counts
counts_in options = if has_counts options then Some (counts_of options) else None

-- the milliseconds of `--follow`, 1 to 60000, 500 without the option
abbrev pub follow_in : List Row → Option ℕ
follow_in options = number_within (codes "follow") 500 60000 options

-- the time limits between messages and between looks, and the numbers of connections, tables and bytes, are valid
unfoldable pub has_bounds : List Row → Bool
has_bounds options =
    is_some (seconds_in (codes "idle") 60 options) && is_some (follow_in options) && is_some (connections_in options)
    && is_some (number_in (codes "pinned-tables") 256 options)
    && is_some (number_in (codes "history-limit") 67108864 options)

-- those numbers
unfoldable pub bounds_of : List Row → Bounds
bounds_of options =
    record {
      idle = unwrap_or (seconds_in (codes "idle") 60 options) 0;
      follow = unwrap_or (follow_in options) 0;
      connections = unwrap_or (connections_in options) 0;
      pinned_tables = unwrap_or (number_in (codes "pinned-tables") 256 options) 0;
      history_limit = unwrap_or (number_in (codes "history-limit") 67108864 options) 0;
    }

-- those numbers, if they are valid
abbrev pub bounds_in : List Row → Option Bounds
bounds_in options = if has_bounds options then Some (bounds_of options) else None

-- the files that the server reads and writes
abbrev pub files_in : List Row → Files
files_in options =
    record {
      profile = first_of (codes "profile") options;
      history = first_of (codes "history") options;
      log = first_of (codes "log") options;
    }

-- the folder that it sends, and the addresses that it listens on
abbrev pub places_in : List Row → Places
places_in options =
    record {
      packages = string_in (codes "packages") options;
      listen = string_in (codes "listen") options;
      operator = first_of (codes "operator") options;
    }

-- what the options of `serve` ask for, with such numbers
abbrev pub serve_with : Counts → Bounds → List Row → Serve
serve_with counts bounds options =
    record {
      profile = first_of (codes "profile") options;
      history = first_of (codes "history") options;
      history_limit = bounds.history_limit;
      follow = bounds.follow;
      packages = string_in (codes "packages") options;
      packages_must_exist = flag_in (codes "packages-must-exist") options;
      listen = string_in (codes "listen") options;
      operator = first_of (codes "operator") options;
      workers = counts.workers;
      sessions = counts.sessions;
      edits = counts.edits;
      timeout = counts.timeout;
      idle = bounds.idle;
      connections = bounds.connections;
      pinned_tables = bounds.pinned_tables;
      log = first_of (codes "log") options;
    }

-- rule: Options of the server
-- what the options of `serve` ask for
abbrev pub serve_in : List Row → Serve
serve_in options = serve_with (counts_of options) (bounds_of options) options

-- a profile or a history is named
unfoldable pub is_named : List Row → Bool
is_named options = is_some (first_of (codes "profile") options) || is_some (first_of (codes "history") options)

-- the digits begin with a zero that could be left out; some programs read them as an octal number
abbrev pub has_leading_zero : List ℕ → Bool
has_leading_zero text = nat_lt 1 (length text) && slice_index text 0 == 48

-- a decimal number below 256 without leading zeros
unfoldable pub is_octet : List ℕ → Bool
is_octet text = option_map_or (λ number. nat_lt number 256 && not (has_leading_zero text)) (number_of text) false

-- the string before the first such byte, or all of it
abbrev pub before : ℕ → List ℕ → List ℕ
before mark text = before_first (λ byte. byte == mark) text

-- the string after the first such byte, or nothing
abbrev pub after : ℕ → List ℕ → List ℕ
after mark text = after_first (λ byte. byte == mark) text

-- three such numbers, with dots between them
unfoldable pub are_three_octets : List ℕ → Bool
are_three_octets text =
    is_octet (before 46 text) && is_octet (before 46 (after 46 text)) && is_octet (after 46 (after 46 text))

-- the host is of 127.0.0.0/8 (RFC 1122, section 3.2.1.3): 127 and three numbers
unfoldable pub is_loopback_host : List ℕ → Bool
is_loopback_host host = bytes_eq (before 46 host) (codes "127") && are_three_octets (after 46 host)

-- the address is of the loopback: it begins with `[::1]:`, or the host before its colon is of 127.0.0.0/8; a name never is
abbrev pub is_loopback : List ℕ → Bool
is_loopback address =
    if starts_with nat_eq address (codes "[::1]:") then true else is_loopback_host (before 58 address)

-- the address is a path in the file system
abbrev pub is_path : List ℕ → Bool
is_path address = starts_with nat_eq address (codes "unix:")

-- only this machine reaches the address
abbrev pub is_local : List ℕ → Bool
is_local address = is_path address || is_loopback address

-- there is no operator, or its address is local
abbrev pub is_operator_local : List Row → Bool
is_operator_local options = option_map_or is_local (first_of (codes "operator") options) true

-- rule: Address of an operator
-- there is no operator, or its address is local or may be any
unfoldable pub is_operator_allowed : List Row → Bool
is_operator_allowed options = flag_in (codes "operator-anywhere") options || is_operator_local options

-- the history is in etcd
abbrev pub is_shared : List Row → Bool
is_shared options = option_map_or is_etcd_path (first_of (codes "history") options) false

-- the system doesn't choose the port of an address
abbrev pub has_known_port : List ℕ → Bool
has_known_port address = not (ends_with nat_eq address (codes ":0"))

-- there is an operator whose address can be asked
abbrev pub is_operator_known : List Row → Bool
is_operator_known options = option_map_or has_known_port (first_of (codes "operator") options) false

-- rule: Address that is asked for records
-- a server of a shared history has an operator's address that can be asked
unfoldable pub is_followed : List Row → Bool
is_followed options = not (is_shared options) || is_operator_known options

-- what is wrong with the history's path
abbrev pub history_fault_in : List Row → Option EtcdPathFault
history_fault_in options = option_map_or history_fault (first_of (codes "history") options) None

-- what is wrong with the options of `serve`
abbrev pub faults_of_serve : List Row → Kinds
faults_of_serve options =
    if has_counts options && has_bounds options && not (is_some (history_fault_in options))
    then (if is_named options && is_operator_allowed options && is_followed options then [] else MissingRequiredArgument ∷ [])
    else ValueValidation ∷ []
