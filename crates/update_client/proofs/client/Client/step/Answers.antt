use Rattle.std.proofs.Common.{◌≡◌, ◌<◌, false, Ok, [], ◌∷◌, ◌++◌, sym, ap, ap₂, ◌∙◌, arith}
use Rattle.std.specs.Str.{bytes_eq}
use Rattle.update_client.specs.Clients.{heard, address_of}
use Rattle.update_client.proofs.WalkLemmas.{turned_step, apart}
use Rattle.update_client.proofs.client.Client.step.Goals as goal

pub returns-clause-turned : goal.returns-clause-turned
returns-clause-turned g c =
    let few : c.args.steps < 1024 = omega arith in
    let differs : bytes_eq c.in-Some.accepted.offer.fp c.args.self.now.fp ≡ false =
    ap₂ bytes_eq (sym c.as_str.ensures) (sym c.fp.ensures) ∙ sym c.eq.ensures ∙ c.if-eq.false in
    let said : heard c.args.self.now.app c.in_ok-reply.reply.items ≡ Ok c.in_ok-news.news =
    ap₂ heard (sym c.app.ensures) (sym c.deref.ensures.value) ∙ c.in_ok-news.ensures in
    let reached = c.in_ok-step.ensures.opens
    ∙ ap (λ addresses. addresses ++ address_of c.in-Some.accepted.offer ∷ []) c.post_request.ensures.opened in
    turned_step _ _ _ _ _ _ _ _ _ _ (g.L.Link.received c.take.new.link) (g.L.Link.ended c.take.new.link) c.in_ok-reply.reply.items c.in_ok-news.news c.in-Some.accepted c.in_ok-step.step
    c.in_ok-reply.ensures.posts.0 c.in_ok-reply.ensures.posts.1 said c.in-Some.is (apart _ _ differs) few
    c.in_ok-step.ensures.takes c.in_ok-step.ensures.posts reached
