use Rattle.std.proofs.Common.{◌≡◌, ◌≢◌, rules, inl, inr, get_or, ap, ◌∙◌, sym, arith}
use Rattle.std.proofs.lemmas.Bool.{cases_lt}
use Rattle.std.proofs.lemmas.List.{get_or_default}
use Rattle.replies.proofs.pinned.is_among.Goals as goal

pub loop-index-preserved : goal.loop-index-preserved
loop-index-preserved c = λ place d low same.
    elim (cases_lt place c.loop-index.index) [
      | inl before ↦ c.loop-index.invariant place d before same
      | inr behind ↦
          let here : place ≡ c.loop-index.index = omega arith in
          let own : c.index-keys-index.result ≡ get_or c.args.keys.now place d =
          c.index-keys-index.is
          ∙ ap (λ n. get_or c.args.keys.now n c.index-keys-index.result) (sym here)
          ∙ get_or_default c.args.keys.now place c.index-keys-index.result d (omega arith) in
          let other : c.index-keys-index.result ≢ c.args.key.now = search rules in
          absurd (other (own ∙ same))
    ]
