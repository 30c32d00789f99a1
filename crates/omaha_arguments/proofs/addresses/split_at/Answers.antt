use Rattle.std.proofs.Common.{arith, sym}
use Rattle.std.proofs.lemmas.List.{drop_all, take_all}
use Rattle.omaha_arguments.proofs.addresses.split_at.Goals as goal

pub returns-in-Some-clause-before : goal.returns-in-Some-clause-before
returns-in-Some-clause-before c = (c.in-Some.ensures.byte c.requires (λ w o found. found)).0

pub returns-in-Some-clause-after : goal.returns-in-Some-clause-after
returns-in-Some-clause-after c = (c.in-Some.ensures.byte c.requires (λ w o found. found)).1

pub returns-in-None-clause-before : goal.returns-in-None-clause-before
returns-in-None-clause-before c =
    let all = c.in-None.ensures.byte c.requires (λ w o found. found) in sym (take_all _ c.args.text.now (omega (arith, all)))

pub returns-in-None-clause-after : goal.returns-in-None-clause-after
returns-in-None-clause-after c =
    let all = c.in-None.ensures.byte c.requires (λ w o found. found) in sym (drop_all _ c.args.text.now (omega (arith, all)))
