-- The built-in batch is accepted, so it is never rejected, and leads to the built-in content.
use Rattle.std.proofs.Common.{◌≡◌, List, [], ◌∷◌, Result, Ok, Err, length, refl, ap, arith}
use Rattle.catalogue.specs.Versions.{components_of, lenient_version_of, version_of}
use Rattle.catalogue.specs.Batches.{outcome, run, then_run}
use Rattle.catalogue.specs.Forms.{hash_of}
use Rattle.catalogue.specs.declared.content.App.{App}
use Rattle.catalogue.specs.declared.edit.Edit.{Edit}
use Rattle.catalogue.specs.declared.fault.Refused.{Refused}
use Rattle.editions.specs.Editions.{Continues, content_of, content_or_none, outcome_after}
use Rattle.editions.specs.declared.fault.NextError.TheVariants as error
use Rattle.hex.proofs.OnLiterals.{hex_on_literals}
use Rattle.service_desks.specs.Builtin.{builtin_apps, builtin_batch}

pub outcome-builtin_batch : outcome builtin_batch [] ≡ Ok builtin_apps
unfolding version_of components_of lenient_version_of hash_of hex_on_literals
outcome-builtin_batch = refl

pub content_of-builtin_batch : content_of (builtin_batch ∷ []) ≡ builtin_apps
content_of-builtin_batch = ap (λ (o : Result (List App) Refused). content_or_none (then_run (run []) o)) outcome-builtin_batch

pub never_refused : (history : List (List Edit)) (batch : List Edit) (refused : Refused) → history ≡ [] → batch ≡ builtin_batch → Continues history batch (Err (error.Refused refused)) → ⊥
never_refused history batch refused none same refuses =
    let accepted : outcome_after [] builtin_batch ≡ Ok builtin_apps = outcome-builtin_batch in
    cc

pub never_full : (history : List (List Edit)) (batch : List Edit) → history ≡ [] → Continues history batch (Err error.HistoryFull) → ⊥
never_full history batch none full = let count = ap length none in omega (arith, full.1)
