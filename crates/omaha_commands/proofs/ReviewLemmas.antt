-- What is found of a script whose next edition is there.
use Rattle.std.proofs.Common.{◌≡◌, ℕ, List, length, Result, Ok, Err, sym, subst}
use Rattle.catalogue.specs.declared.edit.Edit.{Edit}
use Rattle.catalogue.specs.Histories.{History}
use Rattle.editions.specs.Editions.{Continues}
use Rattle.omaha_arguments.specs.declared.command.Review.{Review}
use Rattle.omaha_commands.specs.Reviewing.{FindsInBatch, FindsNext}
use Rattle.failures.specs.declared.failure.Failure.{Failure}
use Rattle.omaha_commands.specs.declared.reviewing.Findings.{Findings}

pub FindsInBatch-next :
    (asked : Review) (history after : History) (base : ℕ) (batch : List Edit) (found : Result Findings Failure) → base ≡ length history →
    Continues history batch (Ok after) → FindsNext asked history after found →
    FindsInBatch asked history base batch found
FindsInBatch-next asked history after base batch (Ok findings) same goes is = (same, (after, goes, is))
FindsInBatch-next asked history after base batch (Err refusal) same goes is =
    subst (λ (it : Failure). FindsInBatch asked history base batch (Err it)) (sym is) tt
