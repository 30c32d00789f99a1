use Rattle.catalogue.proofs.IndexLemmas.{get_by_text-clone}
use Rattle.catalogue.proofs.package_index.ShardClone.clone.Goals as goal

pub returns : goal.returns
returns c = record {
  cases = λ name.
      get_by_text-clone _ (λ v w same. same) c.args.self.now.declared c.in_ok-declared.declared c.in_ok-declared.ensures.cases name;
}
