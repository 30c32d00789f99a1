-- What a profile makes the program reply from; this project's profile.
use Rattle.std.specs.Prelude.{List, [], ◌∷◌, Result, Ok, Err}
use Rattle.catalogue.specs.Batches.{outcome}
use Rattle.catalogue.specs.declared.content.App.{App}
use Rattle.catalogue.specs.declared.mirror.Mirror.{Mirror}
use Rattle.catalogue.specs.declared.edit.Edit.{Edit}
use Rattle.catalogue.specs.declared.fault.Refused.{Refused}
use Rattle.service_desks.specs.declared.services.service.Service.{Service}

-- a profile: its edits and its mirrors
abbrev pub Profile : Type 0
Profile = List Edit × List Mirror

-- the service of a profile whose edits led to some content: the edition of its one batch
abbrev pub service_if : Profile → Result (List App) Refused → Result Service Refused
service_if profile (Ok apps) = Ok (record { edition = profile.0 ∷ []; mirrors = profile.1 })
service_if profile (Err refused) = Err refused

-- the service of a profile's edits and mirrors, or its first edit that is rejected
abbrev pub service_of : Profile → Result Service Refused
service_of profile = service_if profile (outcome profile.0 [])
