use Rattle.std.proofs.Common.{rules}
use denote.Exit.{unseen}
use denote.Param.Send.{Quiet-if}
use mir.Syntax.{of_param}
use Rattle.omaha_server.proofs.jobs.run_jobs.Goals as goal

-- the closure hands on a port and a page that nothing is seen of afterwards
pub scoped-made-requires : goal.scoped-made-requires
scoped-made-requires g c =
    record {
      at = λ scope. (
        c.requires.manned,
        (
          c.requires.opened,
          (
            record {
              owned = c.type_bounds.send-P.owned;
              leaving = λ k. Quiet-if (k (of_param 0)) unseen unseen (λ x w. tt) (λ x w. tt);
            },
            record {
              owned = c.type_bounds.send-F.owned;
              leaving = λ k. Quiet-if (k (of_param 3)) unseen unseen (λ x w. tt) (λ x w. tt);
            },
            search rules,
            search rules,
            search rules,
          ),
        ),
      );
    }
