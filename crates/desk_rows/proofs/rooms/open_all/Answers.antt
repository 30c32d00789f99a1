use Rattle.std.proofs.Common.{◌≡◌, ◌<◌, ◌∙◌, ◌++◌, [], ◌∷◌, List, ap, length, rules, sym, take}
use Rattle.std.proofs.lemmas.List.{map-append, take_more}
use Rattle.std.proofs.lemmas.List.Elements.{All-push}
use Rattle.http_ports.specs.declared.terms.Terms.{Terms}
use Rattle.desk_rows.specs.NewScripts.{IsNewScript}
use Rattle.desk_rows.proofs.rooms.open_all.Goals as goal

pub loop-each-preserved : goal.loop-each-preserved
loop-each-preserved c =
    let (terms, new) = c.loop-each.invariant in
    let ports = c.loop-each.ports.items in
    let port = c.in-Some.port in
    let here : c.loop-each.each-index < length c.args.terms.now = search rules in
    rw c.in-Ok.ensures.items (
      map-append (λ p. p.terms) ports (port ∷ [])
          ∙ ap (λ (list : List Terms). list ++ port.terms ∷ []) terms
          ∙ ap (λ (t : Terms). take c.loop-each.each-index c.args.terms.now ++ t ∷ []) c.in-Some.ensures.terms
          ∙ sym (take_more c.args.terms.now c.loop-each.each-index _ here),
      All-push IsNewScript ports port new c.in-Some.ensures.new,
    )
