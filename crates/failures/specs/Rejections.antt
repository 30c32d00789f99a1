-- A reader's error as a failure of the program.
use Rattle.catalogue.specs.declared.fault.Refused.{Refused}
use Rattle.profile_toml.specs.declared.fault.ProfileFault.{ProfileFault}
use Rattle.certificates.specs.declared.fault.Fault.{Fault as CertificateFault}
use Rattle.streams.specs.declared.reading.ReadFailure.{ReadFailure}
use Rattle.streams.specs.declared.reading.ReadFailure.TheVariants as input
use Rattle.update_client.specs.declared.fault.Fault.{Fault}
use Rattle.values.specs.declared.read_error.ReadError.{ReadError}
use Rattle.values.specs.declared.read_error.ReadError.TheVariants as errors
use Rattle.failures.specs.declared.failure.Failure.{Failure}
use Rattle.failures.specs.declared.failure.Failure.TheVariants as failure

abbrev pub failure_of_input : ReadFailure → Failure
failure_of_input input.Broken = failure.Read
failure_of_input input.TooLong = failure.TooLong
failure_of_input input.Memory = failure.Memory

abbrev pub failure_of_profile : ReadError ProfileFault → Failure
failure_of_profile errors.Memory = failure.Memory
failure_of_profile (errors.Fault fault) = failure.Profile fault

abbrev pub failure_of_edit : ReadError Refused → Failure
failure_of_edit errors.Memory = failure.Memory
failure_of_edit (errors.Fault refused) = failure.Edit refused

abbrev pub failure_of_certificate : ReadError CertificateFault → Failure
failure_of_certificate errors.Memory = failure.Memory
failure_of_certificate (errors.Fault fault) = failure.Certificate fault

abbrev pub failure_of_walk : ReadError Fault → Failure
failure_of_walk errors.Memory = failure.Memory
failure_of_walk (errors.Fault fault) = failure.Walk fault
