-- What a restored service is seen as.
use Rattle.omaha_histories.specs.Restarting.{Found}
use Rattle.omaha_histories.specs.declared.restarts.restoring.Restored.{Restored}

-- the history of its edition, and its mirrors
abbrev pub found_of : Restored → Found
found_of restored = record { history = restored.edition; mirrors = restored.mirrors.items }
