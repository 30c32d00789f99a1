-- What the command `serve` does; this project's profile.
use Rattle.std.specs.Prelude.{◌≡◌, ◌⊎◌, ℕ, Bool, true, false, max, min, List, Option, None, Some, Result, Ok, Err, IfErr, IfOk}
use Rattle.std.specs.Option.{is_some}
use Rattle.streams.specs.Streams.{Known}
use Rattle.omaha_arguments.specs.declared.command.Serve.{Serve}
use Rattle.omaha_arguments.specs.declared.command_line.TheConstants.{VERSION}
use Rattle.etcd_records.specs.Paths.{is_etcd_path}
use Rattle.systems.specs.Edges.{Edges}
use Rattle.omaha_server.specs.Checks.{IsStockedFor}
use Rattle.server_ports.specs.Logging.{AreLogged, IsLoggedHere, LogsElsewhere}
use Rattle.server_ports.specs.Passages.{Passages}
use Rattle.server_ports.specs.Errors.{IsEarly}
use Rattle.omaha_server.specs.Serving.{IsLogged, Serves}
use Rattle.server_ports.specs.declared.error.ServerError.{ServerError}
use Rattle.server_ports.specs.declared.error.ServerError.TheVariants as server
use Rattle.server_ports.specs.declared.place.Place.{Place}
use Rattle.service_desks.specs.States.{store}
use Rattle.profiles.specs.Profiles.{Files}
use Rattle.profiles.specs.Streams.{Streams}
use Rattle.failures.specs.declared.failure.Failure.{Failure}
use Rattle.failures.specs.declared.failure.Failure.TheVariants as failure
use Rattle.omaha_histories.specs.Histories.{Beginning, IsBegun, Stored}

-- the failure of a server whose log can't be opened; naming its file takes memory
abbrev pub IsUnopened : Option (List ℕ) → Failure → Type 0
IsUnopened (Some path) named = (named ≡ failure.File path) ⊎ (named ≡ failure.Memory)
IsUnopened None named = named ≡ failure.Memory

-- the failure of a server whose operator's address can't be bound; naming it takes memory
abbrev pub IsUnbound : Option (List ℕ) → Failure → Type 0
IsUnbound (Some address) named = (named ≡ failure.Net address) ⊎ (named ≡ failure.Memory)
IsUnbound None named = named ≡ failure.Memory

-- how the command ends by the error of its server; naming the address or the folder takes memory
abbrev pub EndsBy : ServerError → Serve → Result (Unit {0}) Failure → Type 0
EndsBy server.Net serve result = (result ≡ Err (failure.Net serve.listen)) ⊎ (result ≡ Err failure.Memory)
EndsBy server.Log serve result = (named : Failure) × IsUnopened serve.log named × (result ≡ Err named)
EndsBy server.Folder serve result = (result ≡ Err (failure.File serve.packages)) ⊎ (result ≡ Err failure.Memory)
EndsBy (server.Package name what) serve result = result ≡ Err (failure.Package name what)
EndsBy server.OperatorNet serve result = (named : Failure) × IsUnbound serve.operator named × (result ≡ Err named)
EndsBy server.NoPlace serve result = result ≡ Err failure.NoPlace
EndsBy server.Thread serve result = result ≡ Err failure.Thread
EndsBy server.RoomLeft serve result = result ≡ Err failure.RoomLeft
EndsBy server.Unpublished serve result = result ≡ Err failure.Unpublished
EndsBy server.EndedEarly serve result = result ≡ Err failure.EndedEarly
EndsBy server.Write serve result = result ≡ Err failure.Write
EndsBy server.Memory serve result = result ≡ Err failure.Memory

-- how it ends by the end of its server
abbrev pub EndsAs : {A : Type 0} → Result A ServerError → Serve → Result (Unit {0}) Failure → Type 0
EndsAs (Ok served) serve result = result ≡ Ok tt
EndsAs (Err error) serve result = EndsBy error serve result

-- the server writes nothing on the standard error: it isn't verbose, and logs no reply there
abbrev pub IsQuiet : Bool → Option (List ℕ) → Type 0
IsQuiet verbose log = LogsElsewhere log × (verbose ≡ false)

-- rule: Name of what is served
-- what is served, by its name, if the server is verbose: the path of the profile, or that of the history
abbrev pub served_name : Bool → Option (List ℕ) → Option (List ℕ) → Option (List ℕ)
served_name false profile history = None
served_name true (Some profile) history = Some profile
served_name true None history = history

-- the operator's address, if the path of the history is one of etcd
abbrev pub asked_at : Bool → Option (List ℕ) → Option (List ℕ)
asked_at true operator = operator
asked_at false operator = None

-- the operator's address of a server that shares its history
abbrev pub followed_at : Option (List ℕ) → Option (List ℕ) → Option (List ℕ)
followed_at None operator = None
followed_at (Some history) operator = asked_at (is_etcd_path history) operator

-- the place that the arguments name: the addresses, the folder, the workers, the sessions, the log and the seconds
pub record IsPlaceOf (serve : Serve) (verbose : Bool) (place : Place) : Type 0 where
  pub address : place.address ≡ serve.listen
  pub operator : place.operator ≡ serve.operator
  pub packages : place.packages ≡ serve.packages
  pub workers : place.workers ≡ min (max serve.workers 1) 8
  pub sessions : place.sessions ≡ serve.sessions
  pub edits : place.edits ≡ serve.edits
  pub log : place.log ≡ serve.log
  pub seconds : place.seconds ≡ max serve.timeout 1
  pub idle : place.idle ≡ max serve.idle 1
  pub connections : place.connections ≡ serve.connections
  pub pinned_tables : place.pinned_tables ≡ serve.pinned_tables
  pub packages_must_exist : place.packages_must_exist ≡ serve.packages_must_exist
  pub named : place.named ≡ served_name verbose serve.profile serve.history
  pub version : place.version ≡ VERSION.now

-- what a server began with was served at a place to its end, or to an error; what is kept begins with its records. What
-- was sent to the log for each port is the lines of its replies; and after what was there, the standard error has them, if
-- that is the log. It is as it was if the server ended before a line was sent.
pub record IsHostedBy (edges : Edges) (place : Place) (begins : Beginning) (serve : Serve) (old new before after : Known)
    (result : Result (Unit {0}) Failure) : Type 0 where
  pub ended : Result Passages ServerError
  pub serves : Serves edges place begins.service (store begins.first begins.records None) old new ended
  pub logged : IsLogged edges place.log ended
  pub sents : List (List ℕ)
  pub replies : IfOk ended (λ passages. AreLogged (is_some place.log) passages sents)
  pub lines : IfOk ended (λ _. IsLoggedHere place sents before after)
  pub early : IfErr ended (λ error. IsEarly error → after ≡ before)
  pub stocked : IsStockedFor edges place begins.service.edition old new ended
  pub ends : EndsAs ended serve result

-- so at the place that the arguments name
pub record IsHostedAt (edges : Edges) (verbose : Bool) (begins : Beginning) (serve : Serve) (old new before after : Known)
    (result : Result (Unit {0}) Failure) : Type 0 where
  pub place : Place
  pub placed : IsPlaceOf serve verbose place
  pub hosted : IsHostedBy edges place begins serve old new before after result

-- a server that shares its history had no thread that looks for records of others: nothing was served, nor printed
abbrev pub IsAlone : Serve → Known → Known → Known → Known → Result (Unit {0}) Failure → Type 0
IsAlone serve old new before after result =
    ((address : List ℕ) × (followed_at serve.history serve.operator ≡ Some address))
    × (result ≡ Err failure.Thread) × (new ≡ old) × (after ≡ before)

-- the same, or there was no such thread, or memory ran out before
abbrev pub IsHosted : Edges → Bool → Beginning → Serve → Known → Known → Known → Known → Result (Unit {0}) Failure → Type 0
IsHosted edges verbose begins serve old new before after result =
    IsHostedAt edges verbose begins serve old new before after result
    ⊎ IsAlone serve old new before after result
    ⊎ ((result ≡ Err failure.Memory) × (new ≡ old) × (after ≡ before))

-- what follows from what the server begins with
abbrev pub IsServedBy : Edges → Bool → Result Beginning Failure → Serve → Streams → Streams → Known → Known → Result (Unit {0}) Failure → Type 0
IsServedBy edges verbose (Ok begins) serve old new before after result =
    IsHosted edges verbose begins serve old.output new.output before after result × (new.input ≡ old.input)
IsServedBy edges verbose (Err refusal) serve old new before after result =
    (result ≡ Err refusal) × (new ≡ old) × (after ≡ before)

-- rule: Service over HTTP
-- what a server begins with is opened first: that of the history that is named, or of the profile; its service is served,
-- with the standard error that was before and is after it
pub record ServesOn (files : Files) (stored : Stored) (edges : Edges) (verbose : Bool) (serve : Serve) (old new : Streams)
    (before after : Known) (result : Result (Unit {0}) Failure) : Type 0 where
  pub made : Result Beginning Failure
  pub begun : IsBegun files stored serve.history serve.profile made
  pub follows : IsServedBy edges verbose made serve old new before after result
