use Rattle.std.proofs.Common.{◌≡◌, drop}
use Rattle.catalogue.specs.Batches.{outcome, outcome_from}
use Rattle.catalogue.specs.Draft.{IsIndexed}
use Rattle.catalogue.specs.Validity.{IsValid}
use Rattle.catalogue.proofs.draft.Draft.run.Given as goal

abbrev pub invariant-loop-index : goal.invariant-loop-index
invariant-loop-index l = record {
  indexed : IsIndexed l.self;
  valid : IsValid l.self.apps;
  onward : outcome_from l.index (drop l.index l.edits) l.self.apps ≡ outcome l.fn.edits l.fn.self.apps;
}
