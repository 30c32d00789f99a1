use Rattle.std.proofs.Common.{◌≢◌, ℕ, List, [], ◌∷◌, All, get_or, rules, subst, sym, take}
use Rattle.std.proofs.lemmas.List.{take_all, take_more}
use Rattle.std.proofs.lemmas.List.Elements.{All-append, All-cons, All-nil}
use Rattle.server_ports.proofs.notes.is_reported.Goals as goal

pub loop-each-preserved : goal.loop-each-preserved
loop-each-preserved c =
    let names = c.args.reported.now in
    let index = c.loop-each.each-index in
    let IsOther : List ℕ → Type 0 = λ each. each ≢ c.args.report.now in
    let other : c.each-item.result ≢ c.args.report.now = search rules in
    let one = All-cons IsOther (get_or names index c.each-item.result) [] (subst IsOther c.each-item.is other) (All-nil IsOther) in
    subst (All IsOther) (sym (take_more names index c.each-item.result c.loop-each-test.true))
    (All-append IsOther (take index names) (get_or names index c.each-item.result ∷ []) c.loop-each.invariant one)

pub returns : goal.returns
returns c = λ _.
    rw (take_all c.loop-each.each-index c.args.reported.now c.loop-each-test.false) at c.loop-each.invariant
