-- What a log is written to.
use Rattle.std.specs.Prelude.{IsFalse}
use Rattle.access_logs.specs.declared.queues.page.Page.{Page}

-- it ends in a whole line, or has none
abbrev pub IsUncut : {W : Type 0} → Page W → Type 0
IsUncut page = IsFalse page.is_cut
