-- What follows of the mirrors of a service.
use Rattle.std.proofs.Common.{◌≡◌, ◌&&◌, List, [], ◌∷◌, true, nat_le, refl, ap₂}
use Rattle.std.specs.List.{list_all}
use Rattle.std.proofs.lemmas.Bool.{and_parts}
use Rattle.catalogue.specs.Forms.{is_cohort_name}
use Rattle.catalogue.specs.Mirrors.{is_codebase, is_mirror, max_budget}
use Rattle.catalogue.specs.declared.mirror.Mirror.{Mirror}
use Rattle.mirror_ledger.specs.Named.{are_bounded}

-- the budgets of valid mirrors are at most the maximum
pub are_bounded-mirrors : (mirrors : List Mirror) → list_all is_mirror mirrors ≡ true → are_bounded mirrors ≡ true
are_bounded-mirrors [] valid = refl
are_bounded-mirrors (mirror ∷ mirrors) valid =
    let parts = and_parts (is_mirror mirror) (list_all is_mirror mirrors) valid in
    let budget = (and_parts (is_cohort_name mirror.name && is_codebase mirror.codebase) (nat_le mirror.budget max_budget) parts.0).1 in
    ap₂ ◌&&◌ budget (are_bounded-mirrors mirrors parts.1)
