use Rattle.std.proofs.Common.{◌≡◌, ℕ, List, length}
use Rattle.catalogue.specs.PackageIndex.{found_in}
use Rattle.catalogue.proofs.package_index.PackageIndex.complete.Given as goal

abbrev pub invariant-loop : goal.invariant-loop
invariant-loop l = record {
  found : (name : List ℕ) → found_in l.self name ≡ found_in l.fn.self name;
  count : length l.self.shards.items ≡ l.counter;
}
