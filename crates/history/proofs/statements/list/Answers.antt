use Rattle.std.proofs.Common.{subst, sym, arith}
use Rattle.std.proofs.lemmas.Result.{IfOk-weaker}
use Rattle.sqlite.proofs.Callers.{IsPlain, never_commits}
use Rattle.sqlite.specs.Held.{state}
use Rattle.sqlite.specs.Listing.{understood}
use Rattle.sqlite.specs.State.{HasCleanDisk}
use Rattle.history.proofs.StatementLemmas.{Survives-leaves, listed_rows, shown_unchanged}
use Rattle.history.proofs.Texts.{list_plain, list_text}
use Rattle.history.proofs.statements.list.Goals as goal

pub returns-clause-rows : goal.returns-clause-rows
returns-clause-rows g c clean =
    let old = state g.S.Store c.args.conn.now in
    let new = state g.S.Store c.query_all.new.self in
    let early : HasCleanDisk old = omega (arith, clean, c.query_all.ensures.survives.clean) in
    IfOk-weaker c.query_all.result _ _ (λ found shown. listed_rows old new found.items (c.requires.ready early) shown)
    (c.query_all.ensures.ok clean)

pub returns-clause-same : goal.returns-clause-same
returns-clause-same g c clean =
    let old = state g.S.Store c.args.conn.now in
    let new = state g.S.Store c.query_all.new.self in
    let early : HasCleanDisk old = omega (arith, clean, c.query_all.ensures.survives.clean) in
    let plain : IsPlain (understood old.now.schema list_text) = subst (λ s. IsPlain (understood s list_text)) (sym (c.requires.ready early)) list_plain in
    IfOk-weaker c.query_all.result _ _ (λ found shown. shown_unchanged list_text _ old new found.items plain shown)
    (c.query_all.ensures.ok clean)

pub returns-clause-leaves : goal.returns-clause-leaves
returns-clause-leaves g c =
    let old = state g.S.Store c.args.conn.now in
    Survives-leaves old (state g.S.Store c.query_all.new.self) _ _
    (λ early db made. never_commits list_text _ old db (subst (λ s. IsPlain (understood s list_text)) (sym (c.requires.ready early)) list_plain) made)
    c.query_all.ensures.survives
