use Rattle.std.proofs.Common.{◌≡◌, false, refl, rules, sym, subst}
use Rattle.http_desks.specs.Begins.{Begins}
use Rattle.http_desks.specs.Uses.{AtDesk, Barred, Elsewhere, IsUse, Misused, Use, is_asked, route_of}
use Rattle.http_desks.proofs.ReplyLemmas.{done_begins, paged_begins}
use Rattle.http_desks.proofs.answering.begin.Goals.{in-BrowserPost, in_default}
use Rattle.http_desks.proofs.answering.begin.Goals as goal

pub returns-then-eq-clause-begins : goal.returns-then-eq-clause-begins
returns-then-eq-clause-begins g c =
    let IsFit : Use → Type 0 = IsUse (g.D.Desk.path c.args.desk.now) (g.Z.Clock.tells c.args.site.now) (g.Z.Packages.sizes c.args.site.now)
    (g.Z.Packages.reads c.args.site.now) c.args.request.now.method c.args.request.now.target.now in
    let at_desk : route_of (g.D.Desk.path c.args.desk.now) c.args.request.now.target.now ≡ AtDesk = search rules in
    let unasked : is_asked (g.D.Desk.path c.args.desk.now) c.args.request.now.method ≡ false = search rules in
    subst (Begins IsFit g.D.Desk.steps (g.D.Desk.content_type c.args.desk.now) c.args.request.now.body.now
    c.args.request.now.closes c.args.desk.now c.args.desk.now _ _) (sym c.done-then-eq.ensures)
    (done_begins g.D.Desk.steps (g.D.Desk.content_type c.args.desk.now) c.args.request.now.body.now
    c.args.request.now.closes c.args.desk.now c.args.desk.now IsFit _ _ c.match-request.done (elim c.match-request.branch [
      | in-BrowserPost w ↦ record {
        used = Barred;
        fits = ((at_desk, unasked, w.in-BrowserPost.is), tt);
        calls = refl;
        writes = rw (sym w.sink-is) at (rw (sym w.done-is) at w.deny.ensures.sends);
      }
      | in_default w ↦ record {
        used = Misused;
        fits = ((at_desk, unasked, w.in_default.not-BrowserPost), tt);
        calls = refl;
        writes = rw (sym w.sink-is) at (rw (sym w.done-is) at w.deny-in_default.ensures.sends);
      }
    ]))

pub returns-in-None-clause-begins : goal.returns-in-None-clause-begins
returns-in-None-clause-begins g c =
    let elsewhere : route_of (g.D.Desk.path c.args.desk.now) c.args.request.now.target.now ≡ Elsewhere c.path_of-path.result.now = search rules in
    subst (Begins (IsUse (g.D.Desk.path c.args.desk.now) (g.Z.Clock.tells c.args.site.now) (g.Z.Packages.sizes c.args.site.now) (g.Z.Packages.reads c.args.site.now)
    c.args.request.now.method c.args.request.now.target.now) g.D.Desk.steps (g.D.Desk.content_type c.args.desk.now) c.args.request.now.body.now
    c.args.request.now.closes c.args.desk.now c.show.new.desk _ _) (sym c.done-in-None.ensures)
    (done_begins g.D.Desk.steps (g.D.Desk.content_type c.args.desk.now) c.args.request.now.body.now
    c.args.request.now.closes c.args.desk.now c.show.new.desk _ _ _ c.show.result
    (paged_begins g.D.Desk.steps (g.D.Desk.content_type c.args.desk.now) c.args.request.now.body.now
    c.args.request.now.closes c.args.desk.now c.show.new.desk (g.D.Desk.path c.args.desk.now)
    (g.Z.Clock.tells c.args.site.now) (g.Z.Packages.sizes c.args.site.now) (g.Z.Packages.reads c.args.site.now)
    c.args.request.now.method c.args.request.now.target.now _ _ _ _ elsewhere c.show.ensures.shown))
