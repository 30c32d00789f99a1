use Rattle.std.proofs.Common.{◌∙◌, ap, sym, append_assoc, List, ℕ, ◌++◌, ◌∷◌, [], rules, arith}
use Rattle.std.proofs.lemmas.Grind.{common_steps}
use Rattle.etcd_records.specs.Paths.{addresses_in}
use Rattle.etcd_records.proofs.CommaLemmas.{addresses_in-none, addresses_in-some}
use Rattle.etcd_records.proofs.paths.path.EtcdPath.addresses.Goals as goal

pub loop-first-preserved : goal.loop-first-preserved
loop-first-preserved c =
    let found = addresses_in-some c.loop-first.rest.now c.in-Some.first.now c.in-Some.others.now c.in-Some.ensures in
    let all = c.loop-first.all in
    let copied = c.in_ok-copy_of.ensures in (
      search rules,
      c.loop-first.invariant.1 ∙ ap (λ (a : List (List ℕ)). all ++ a) found
          ∙ sym (append_assoc all (c.in-Some.first.now ∷ []) (addresses_in c.in-Some.others.now))
          ∙ ap (λ (a : List (List ℕ)). a ++ addresses_in c.in-Some.others.now) (sym (c.in_ok-push.ensures.ok ∙ ap (λ (t : List ℕ). all ++ t ∷ []) copied)),
    )

pub returns-clause-all : goal.returns-clause-all
returns-clause-all c =
    let found = addresses_in-none c.loop-first.rest.now c.in_default.ensures in
    c.in_ok-push-2.ensures.ok ∙ ap (λ (t : List ℕ). c.loop-first.all ++ t ∷ []) c.in_ok-copy_of-2.ensures
    ∙ ap (λ (a : List (List ℕ)). c.loop-first.all ++ a) (sym found) ∙ sym c.loop-first.invariant.1

pub loop-first-smaller : goal.loop-first-smaller
loop-first-smaller c = grind (arith, common_steps)

pub returns-clause-some : goal.returns-clause-some
returns-clause-some c = grind (arith, common_steps)
