use Rattle.std.proofs.Common.{◌≡◌, true, false, refl, rules, sym, subst}
use Rattle.http_desks.specs.Begins.{Begins}
use Rattle.http_desks.specs.Uses.{IsRouted, Unknown, Untaken, is_get}
use Rattle.http_desks.proofs.ReplyLemmas.{done_begins, fetch_begins}
use Rattle.http_desks.proofs.answering.take.Goals as goal

pub returns-in_default-clause-taken : goal.returns-in_default-clause-taken
returns-in_default-clause-taken g c =
    subst (Begins (IsRouted (g.P.Packages.sizes c.args.packages.now c.args.name.now) (g.P.Packages.reads c.args.packages.now c.args.name.now)
    c.args.request.now.method c.args.name.now) g.D.Desk.steps (g.D.Desk.content_type c.args.desk.now) c.args.request.now.body.now
    c.args.request.now.closes c.args.desk.now c.package.new.self _ _) (sym c.done.ensures)
    (done_begins g.D.Desk.steps (g.D.Desk.content_type c.args.desk.now) c.args.request.now.body.now
    c.args.request.now.closes c.args.desk.now c.package.new.self _ _ _ c.deny.result (record {
      used = Unknown c.args.name.now;
      fits = (refl, tt);
      calls = (c.package.new.self, c.in_default.ensures.steps, refl);
      writes = c.deny.ensures.sends;
    }))

pub returns-then-not-is_get-clause-taken : goal.returns-then-not-is_get-clause-taken
returns-then-not-is_get-clause-taken g c =
    let not_get : is_get c.args.request.now.method ≡ false = search rules in
    subst (Begins (IsRouted (g.P.Packages.sizes c.args.packages.now c.args.name.now) (g.P.Packages.reads c.args.packages.now c.args.name.now)
    c.args.request.now.method c.args.name.now) g.D.Desk.steps (g.D.Desk.content_type c.args.desk.now) c.args.request.now.body.now
    c.args.request.now.closes c.args.desk.now c.package.new.self _ _) (sym c.done-then-not-is_get.ensures)
    (done_begins g.D.Desk.steps (g.D.Desk.content_type c.args.desk.now) c.args.request.now.body.now
    c.args.request.now.closes c.args.desk.now c.package.new.self _ _ _ c.deny-then-not-is_get.result (record {
      used = Untaken c.args.name.now c.in-Some.declared;
      fits = ((refl, not_get), tt);
      calls = (c.package.new.self, c.in-Some.ensures.steps, refl);
      writes = c.deny-then-not-is_get.ensures.sends;
    }))

pub returns-clause-taken : goal.returns-clause-taken
returns-clause-taken g c =
    let got : is_get c.args.request.now.method ≡ true = search rules in
    fetch_begins g.D.Desk.steps (g.D.Desk.content_type c.args.desk.now) c.args.request.now.body.now
    c.args.request.now.closes c.args.desk.now c.package.new.self
    (g.P.Packages.sizes c.args.packages.now c.args.name.now) (g.P.Packages.reads c.args.packages.now c.args.name.now)
    c.args.request.now.method c.args.name.now c.in-Some.declared _ _ c.begin_fetch.result got
    (c.package.new.self, c.in-Some.ensures.steps, refl) c.begin_fetch.ensures.fetches
