-- The next edition, of which the tables are not made yet.
use Rattle.std.specs.Prelude.{◌≡◌, ◌<◌, List, length, Ok}
use Rattle.catalogue.specs.Histories.{History}
use Rattle.catalogue.specs.declared.edit.Edit.{Edit}
use Rattle.par_tables.specs.Marks.{KeepsOthers}
use Rattle.editions.specs.Editions.{content_of, max_batches, outcome_after}
use Rattle.editions.specs.declared.edition.Draft.{Draft}

-- what a batch leads to after a history that has room for it, with marks of the cohorts that it may change
pub record IsDraft (history : History) (batch : List Edit) (draft : Draft) : Type 0 where
  pub led : outcome_after history batch ≡ Ok draft.made
  pub room : length history < max_batches
  pub kept : KeepsOthers (content_of history) draft.made draft.marks.items
