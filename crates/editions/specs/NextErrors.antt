-- The error of an edition that a catalogue's error is.
use Rattle.catalogue.specs.declared.fault.Refused.{Refused}
use Rattle.editions.specs.declared.fault.NextError.{NextError}
use Rattle.editions.specs.declared.fault.NextError.TheVariants as error
use Rattle.values.specs.declared.read_error.ReadError.{ReadError}
use Rattle.values.specs.declared.read_error.ReadError.TheVariants as errors

-- the same rejected edit, or out of memory
abbrev pub next_error_of : ReadError Refused → NextError
next_error_of (errors.Fault refused) = error.Refused refused
next_error_of errors.Memory = error.Memory
