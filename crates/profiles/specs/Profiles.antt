-- What a profile's file makes the program reply from; this project's profile.
use Rattle.std.specs.Prelude.{◌≡◌, ◌⊎◌, ⊤, ℕ, true, List, Option, Some, None, Result, Ok, Err}
use Rattle.streams.specs.Reading.{IsLonger, IsWhole}
use Rattle.streams.specs.Streams.{Known}
use Rattle.service_desks.specs.Builtin.{builtin_service}
use Rattle.service_desks.specs.Services.{Profile, service_of}
use Rattle.service_desks.specs.declared.services.service.Service.{Service}
use Rattle.profile_toml.specs.Reading.{profile_of_bytes}
use Rattle.profile_toml.specs.declared.fault.ProfileFault.{ProfileFault}
use Rattle.catalogue.specs.declared.fault.Refused.{Refused}
use Rattle.failures.specs.declared.failure.Failure.{Failure}
use Rattle.failures.specs.declared.failure.Failure.TheVariants as failure

-- rule: Maximum of a profile
-- how many bytes a profile may have: 256 MiB
abbrev pub max_profile : ℕ
max_profile = 268435456

-- what is known of each file, by its path
abbrev pub Files : Type 0
Files = List ℕ → Known

-- the service of a profile's edits and mirrors, or its first edit that is rejected as the failure
abbrev pub or_edit : Result Service Refused → Result Service Failure
or_edit (Ok service) = Ok service
or_edit (Err refused) = Err (failure.Edit refused)

-- the service of a profile that was read, or its fault
abbrev pub service_by : Result Profile ProfileFault → Result Service Failure
service_by (Ok profile) = or_edit (service_of profile)
service_by (Err fault) = Err (failure.Profile fault)

-- rule: Service of a profile
-- the service of a profile's bytes; its first fault, or the first of its edits that is rejected
abbrev pub service_of_bytes : List ℕ → Result Service Failure
service_of_bytes text = service_by (profile_of_bytes text)

-- what is made of a profile, unless memory ran out
abbrev pub IsMade : Result Service Failure → Result Service Failure → Type 0
IsMade made (Ok service) = made ≡ Ok service
IsMade made (Err failure.Memory) = ⊤
IsMade made (Err refusal) = made ≡ Err refusal

-- the file's bytes make this service, or have this fault
abbrev pub IsOfFile : Known → Result Service Failure → Type 0
IsOfFile file made = (bytes : List ℕ) × IsWhole file max_profile bytes × (service_of_bytes bytes ≡ made)

-- the file can't be read, or has too many bytes
abbrev pub IsUnreadable : Known → Type 0
IsUnreadable file = (file.failed ≡ true) ⊎ IsLonger file max_profile

-- why a file isn't read: it can't be, or has too many bytes; or memory ran out
abbrev pub IsUnread : Files → List ℕ → Failure → Type 0
IsUnread files path refusal =
    ((refusal ≡ failure.File path) × IsUnreadable (files path)) ⊎ (refusal ≡ failure.Memory)

-- what requests are replied to from: the built-in catalogue without a path, else that of the file; or
-- why there is nothing to reply from
abbrev pub IsServed : Files → Option (List ℕ) → Result Service Failure → Type 0
IsServed files None (Ok service) = service ≡ builtin_service
IsServed files None (Err refusal) = refusal ≡ failure.Memory
IsServed files (Some path) (Ok service) = IsOfFile (files path) (Ok service)
IsServed files (Some path) (Err (failure.File named)) = (named ≡ path) × IsUnreadable (files path)
IsServed files (Some path) (Err (failure.Profile fault)) =
    IsOfFile (files path) (Err (failure.Profile fault))
IsServed files (Some path) (Err (failure.Edit refused)) =
    IsOfFile (files path) (Err (failure.Edit refused))
IsServed files (Some path) (Err failure.Memory) = ⊤
IsServed files (Some path) (Err refusal) = ⊥
