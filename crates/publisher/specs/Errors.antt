-- The error of a publish that an error of the next edition is.
use Rattle.editions.specs.declared.fault.NextError.{NextError}
use Rattle.editions.specs.declared.fault.NextError.TheVariants as next
use Rattle.publisher.specs.declared.fault.PublishError.{PublishError}
use Rattle.publisher.specs.declared.fault.PublishError.TheVariants as publishing

-- the same rejected edit, that the history is full, or out of memory
abbrev pub publish_error_of : NextError → PublishError
publish_error_of (next.Refused refused) = publishing.Refused refused
publish_error_of next.HistoryFull = publishing.HistoryFull
publish_error_of next.Memory = publishing.Memory
