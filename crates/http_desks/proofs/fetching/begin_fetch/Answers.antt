use Rattle.std.proofs.Common.{Ok, Err, append-nil, arith, refl, sym, ◌∙◌}
use Rattle.http_desks.proofs.ReplyLemmas.{empty_then, head_bytes-lines, head_failed, head_alone, head_then, sized_as}
use Rattle.http_desks.proofs.fetching.begin_fetch.Goals as goal

pub returns-in-Err-clause-fetches : goal.returns-in-Err-clause-fetches
returns-in-Err-clause-fetches g c =
    head_failed (g.P.Packages.sizes c.args.packages.now c.args.name.now) (g.P.Packages.reads c.args.packages.now c.args.name.now)
    c.args.declared.now c.args.closes c.size-size.result _ _ c.in-Err.error c.size-size.ensures
    (rw head_bytes-lines at c.in-Err.ensures.sends)

pub returns-then-ne-clause-fetches : goal.returns-then-ne-clause-fetches
returns-then-ne-clause-fetches g c =
    head_alone (g.P.Packages.sizes c.args.packages.now c.args.name.now) (g.P.Packages.reads c.args.packages.now c.args.name.now)
    c.args.declared.now c.args.closes c.size-size.result _ _ c.size-size.ensures (sym c.if-ne.true ∙ c.ne.ensures)
    (rw head_bytes-lines at c.in-Ok.ensures.sends)

pub returns-then-declared-gt0-clause-fetches : goal.returns-then-declared-gt0-clause-fetches
returns-then-declared-gt0-clause-fetches g c = (
  refl,
  refl,
  c.if-declared-gt0.true,
  sized_as (g.P.Packages.sizes c.args.packages.now c.args.name.now) c.size-size.result c.args.declared.now.size
      c.size-size.ensures (sym c.if-ne.false ∙ c.ne.ensures),
  rw head_bytes-lines at c.in-Ok.ensures.sends,
)

pub returns-in-Ok-send_rest-clause-fetches : goal.returns-in-Ok-send_rest-clause-fetches
returns-in-Ok-send_rest-clause-fetches g c =
    empty_then (g.P.Packages.sizes c.args.packages.now c.args.name.now) (g.P.Packages.reads c.args.packages.now c.args.name.now)
    c.args.declared.now c.args.closes _ _ (Ok c.in-Ok-send_rest.handled) (omega (arith, c.if-declared-gt0.false)) (
    head_then (g.P.Packages.sizes c.args.packages.now c.args.name.now) (g.P.Packages.reads c.args.packages.now c.args.name.now)
    c.args.declared.now c.args.closes _ _ _ (Ok c.in-Ok-send_rest.handled)
    (sized_as (g.P.Packages.sizes c.args.packages.now c.args.name.now) c.size-size.result c.args.declared.now.size
    c.size-size.ensures (sym c.if-ne.false ∙ c.ne.ensures))
    (rw (head_bytes-lines, append-nil) at c.in-Ok.ensures.sends) c.in-Ok-send_rest.ensures.rests)

pub returns-in-Err-send_rest-clause-fetches : goal.returns-in-Err-send_rest-clause-fetches
returns-in-Err-send_rest-clause-fetches g c =
    empty_then (g.P.Packages.sizes c.args.packages.now c.args.name.now) (g.P.Packages.reads c.args.packages.now c.args.name.now)
    c.args.declared.now c.args.closes _ _ (Err c.in-Err-send_rest.error) (omega (arith, c.if-declared-gt0.false)) (
    head_then (g.P.Packages.sizes c.args.packages.now c.args.name.now) (g.P.Packages.reads c.args.packages.now c.args.name.now)
    c.args.declared.now c.args.closes _ _ _ (Err c.in-Err-send_rest.error)
    (sized_as (g.P.Packages.sizes c.args.packages.now c.args.name.now) c.size-size.result c.args.declared.now.size
    c.size-size.ensures (sym c.if-ne.false ∙ c.ne.ensures))
    (rw (head_bytes-lines, append-nil) at c.in-Ok.ensures.sends) c.in-Err-send_rest.ensures.rests)
