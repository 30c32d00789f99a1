-- What the command `once` does with a profile and a request; this project's profile.
use Rattle.std.specs.Prelude.{◌≡◌, ℕ, true, List, Result, Ok, Err}
use Rattle.std.specs.Io.KnownBytes.{Appends}
use Rattle.streams.specs.Reading.{IsLonger, IsWhole}
use Rattle.streams.specs.Streams.{Known}
use Rattle.streams.specs.Writing.{Breaks}
use Rattle.omaha_json.specs.RequestReading.{request_of_bytes}
use Rattle.omaha_json.specs.declared.fault.RequestFault.{RequestFault}
use Rattle.service_desks.specs.declared.services.service.Service.{Service}
use Rattle.omaha_arguments.specs.declared.command.Once.{Once}
use Rattle.profiles.specs.Profiles.{Files, IsServed}
use Rattle.profiles.specs.Streams.{Streams}
use Rattle.failures.specs.declared.failure.Failure.{Failure}
use Rattle.failures.specs.declared.failure.Failure.TheVariants as failure
use Rattle.omaha_commands.specs.Answering.{IsAnswerTo}

-- rule: Maximum of the input
-- how many bytes a request may have
abbrev pub max_input : ℕ
max_input = 262144

-- the bytes are a reply to the input
pub record IsReplyTo (service : Service) (moment : ℕ) (held : Known) (reply : List ℕ) : Type 0 where
  pub input : List ℕ
  pub read : IsWhole held max_input input
  pub answered : IsAnswerTo service moment input reply

-- the input is no request, for that reason
abbrev pub HasFault : Known → RequestFault → Type 0
HasFault held fault =
    (input : List ℕ) × IsWhole held max_input input × (request_of_bytes input ≡ Err fault)

-- What a service replies: the reply is written and nothing else; or the writer failed within it; or
-- nothing is written, since the input can't be read, is too long or has the fault, there is no view of the edition, or
-- memory ran out.
abbrev pub Replies : Service → ℕ → Streams → Streams → Result (Unit {0}) Failure → Type 0
Replies service moment old new (Ok done) =
    (reply : List ℕ)
    × IsReplyTo service moment old.input reply × Appends old.output.bytes new.output.bytes reply
Replies service moment old new (Err failure.Write) =
    (reply : List ℕ) × IsReplyTo service moment old.input reply × Breaks old.output new.output reply
Replies service moment old new (Err failure.Read) =
    (new.input.failed ≡ true) × (new.output ≡ old.output)
Replies service moment old new (Err failure.TooLong) =
    IsLonger old.input max_input × (new.output ≡ old.output)
Replies service moment old new (Err (failure.Request fault)) =
    HasFault old.input fault × (new.output ≡ old.output)
Replies service moment old new (Err failure.NoPlace) = new.output ≡ old.output
Replies service moment old new (Err failure.Closed) = new.output ≡ old.output
Replies service moment old new (Err failure.Memory) = new.output ≡ old.output
Replies service moment old new (Err failure.Thread) = ⊥
Replies service moment old new (Err failure.RoomLeft) = ⊥
Replies service moment old new (Err failure.Unpublished) = ⊥
Replies service moment old new (Err failure.EndedEarly) = ⊥
Replies service moment old new (Err (failure.File path)) = ⊥
Replies service moment old new (Err (failure.Undescribed path reason)) = ⊥
Replies service moment old new (Err (failure.Packages count)) = ⊥
Replies service moment old new (Err (failure.Profile fault)) = ⊥
Replies service moment old new (Err (failure.Edit refused)) = ⊥
Replies service moment old new (Err (failure.Script fault)) = ⊥
Replies service moment old new (Err (failure.Stale number)) = ⊥
Replies service moment old new (Err failure.HistoryFull) = ⊥
Replies service moment old new (Err (failure.Stuck count)) = ⊥
Replies service moment old new (Err (failure.Certificate error)) = ⊥
Replies service moment old new (Err (failure.Code code)) = ⊥
Replies service moment old new (Err (failure.Net address)) = ⊥
Replies service moment old new (Err (failure.Stopping address)) = ⊥
Replies service moment old new (Err (failure.Walk fault)) = ⊥
Replies service moment old new (Err (failure.Declined reply)) = ⊥
Replies service moment old new (Err (failure.Unexpected address status)) = ⊥
Replies service moment old new (Err (failure.Package name what)) = ⊥
Replies service moment old new (Err (failure.History path fault)) = ⊥

-- what follows from what was made of the profile: the service replies; without one nothing is read
-- or written
abbrev pub Follows : Result Service Failure → ℕ → Streams → Streams → Result (Unit {0}) Failure → Type 0
Follows (Ok service) moment old new result = Replies service moment old new result
Follows (Err refusal) moment old new result = (result ≡ Err refusal) × (new ≡ old)

-- rule: Response of the program
-- the profile is opened first, and what follows from it is done
pub record Responds (files : Files) (once : Once) (old new : Streams) (result : Result (Unit {0}) Failure) : Type 0 where
  pub made : Result Service Failure
  pub served : IsServed files once.profile made
  pub follows : Follows made once.moment old new result
