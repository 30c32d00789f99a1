use Rattle.std.proofs.Common.{subst, sym}
use Rattle.sqlite.proofs.Callers.{finds_again}
use Rattle.history.specs.Holdings.{Holds}
use Rattle.history.specs.Logs.{Log}
use Rattle.history.specs.Openings.{IsClosed}
use Rattle.history.proofs.history.History+FileStore+D.close.Goals as goal

pub returns-in-Ok-clause-kept : goal.returns-in-Ok-clause-kept
returns-in-Ok-clause-kept g c =
    let files = c.in-Ok.files in
    let was = c.self.inside in
    subst (λ (log : Log _). IsClosed log files) c.self.view_is (λ again finds keeps.
    subst (λ trees. Holds trees was.first was.marks) (sym (finds_again was.conn again files c.in-Ok.ensures.copied finds)) keeps.committed)
