-- The asks that were granted by the first mirror with room, one after the other.
use Rattle.std.proofs.Common.{List, [], ◌∷◌, ◌++◌, append_assoc, append-nil, sym, ap, ◌∙◌, subst}
use Rattle.catalogue.specs.declared.mirror.Mirror.{Mirror}
use Rattle.mirror_ledger.specs.Asks.{Ask}
use Rattle.replies.specs.Asking.{AreGranted, GrantsFirst}

AreGranted-append :
    (mirrors : List Mirror) (before xs ys : List Ask) →
    AreGranted mirrors before xs → AreGranted mirrors (before ++ xs) ys → AreGranted mirrors before (xs ++ ys)
AreGranted-append mirrors before [] ys first next =
    subst (λ (asks : List Ask). AreGranted mirrors asks ys) (append-nil before) next
AreGranted-append mirrors before (ask ∷ xs) ys first next = (
  first.0,
  AreGranted-append mirrors (before ++ ask ∷ []) xs ys first.1
      (subst (λ (asks : List Ask). AreGranted mirrors asks ys) (sym (append_assoc before (ask ∷ []) xs)) next),
)

-- nothing was asked
pub GrantsFirst-none : (mirrors : List Mirror) (asks : List Ask) → GrantsFirst mirrors asks asks
GrantsFirst-none mirrors asks = ([], sym (append-nil asks), tt)

-- further asks were made
GrantsFirst-trans :
    (mirrors : List Mirror) (before between after : List Ask) →
    GrantsFirst mirrors before between → GrantsFirst mirrors between after → GrantsFirst mirrors before after
GrantsFirst-trans mirrors before between after first next =
    let further = subst (λ (asks : List Ask). AreGranted mirrors asks next.0) first.1 next.2 in (
      first.0 ++ next.0,
      next.1 ∙ ap (λ (asks : List Ask). asks ++ next.0) first.1 ∙ append_assoc before first.0 next.0,
      AreGranted-append mirrors before first.0 next.0 first.2 further,
    )

-- a till that was alone before each of two calls still is, and its asks were granted in order
pub alone-trans :
    (first second third : Type 0) (mirrors : List Mirror) (before between after : List Ask) →
    (first → second × GrantsFirst mirrors before between) →
    (second → third × GrantsFirst mirrors between after) →
    first → third × GrantsFirst mirrors before after
alone-trans first second third mirrors before between after one next alone =
    let made = one alone in
    let further = next made.0 in
    (further.0, GrantsFirst-trans mirrors before between after made.1 further.1)
