use Rattle.std.proofs.Common.{◌≡◌, ◌≢◌, rules, inl, inr, get_or, sym, ap, ◌∙◌, arith}
use Rattle.std.proofs.lemmas.Bool.{cases_lt}
use Rattle.std.proofs.lemmas.List.{get_or_default}
use Rattle.price_cert.specs.Tables.{Certificate}
use Rattle.replies.proofs.pinned.find_pinned.Goals as goal

pub loop-index-preserved : goal.loop-index-preserved
loop-index-preserved c = λ place d low same.
    elim (cases_lt place c.loop-index.index) [
      | inl before ↦ c.loop-index.invariant place d before same
      | inr behind ↦
          let here : place ≡ c.loop-index.index = omega arith in
          let own : c.index-tables-index.result ≡ get_or c.args.tables.now place d =
          c.index-tables-index.is
          ∙ ap (λ n. get_or c.args.tables.now n c.index-tables-index.result) (sym here)
          ∙ get_or_default c.args.tables.now place c.index-tables-index.result d (omega arith) in
          let equal : c.key.result ≡ c.args.key.now = c.key.ensures ∙ ap (λ (t : Certificate). t.net.key) own ∙ same in
          let other : c.key.result ≢ c.args.key.now = search rules in
          absurd (other equal)
    ]
