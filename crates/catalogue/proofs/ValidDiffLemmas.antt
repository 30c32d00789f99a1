-- The test of a differential, taken apart and put together.
use Rattle.std.proofs.Common.{◌≡◌, ◌&&◌, true, List}
use Rattle.std.proofs.lemmas.Bool.{and_from, and_parts}
use Rattle.catalogue.specs.Versions.{is_below}
use Rattle.catalogue.specs.Forms.{is_hash, is_package_name, is_size}
use Rattle.catalogue.specs.Lookups.{has_release}
use Rattle.catalogue.specs.Validity.{is_valid_diff}
use Rattle.catalogue.specs.declared.content.Diff.{Diff}
use Rattle.catalogue.specs.declared.content.Release.{Release}

-- what is known of a valid differential
pub record ValidDiff (releases : List Release) (diff : Diff) : Type 0 where
  pub upward : is_below diff.from diff.to ≡ true
  pub starts : has_release releases diff.from ≡ true
  pub ends : has_release releases diff.to ≡ true
  pub named : is_package_name diff.name ≡ true
  pub sized : is_size diff.size ≡ true
  pub hashed : is_hash diff.hash ≡ true

pub ValidDiff-from_test :
    (releases : List Release) (diff : Diff) → is_valid_diff releases diff ≡ true → ValidDiff releases diff
ValidDiff-from_test releases diff good =
    let hashed = and_parts (is_below diff.from diff.to && has_release releases diff.from && has_release releases diff.to && is_package_name diff.name && is_size diff.size) (is_hash diff.hash) good in
    let sized = and_parts (is_below diff.from diff.to && has_release releases diff.from && has_release releases diff.to && is_package_name diff.name) (is_size diff.size) hashed.0 in
    let named = and_parts (is_below diff.from diff.to && has_release releases diff.from && has_release releases diff.to) (is_package_name diff.name) sized.0 in
    let ends = and_parts (is_below diff.from diff.to && has_release releases diff.from) (has_release releases diff.to) named.0 in
    let starts = and_parts (is_below diff.from diff.to) (has_release releases diff.from) ends.0 in
    record {
      upward = starts.0;
      starts = starts.1;
      ends = ends.1;
      named = named.1;
      sized = sized.1;
      hashed = hashed.1;
    }

pub is_valid_diff-from_parts :
    (releases : List Release) (diff : Diff) → ValidDiff releases diff → is_valid_diff releases diff ≡ true
is_valid_diff-from_parts releases diff good =
    and_from _ _ (and_from _ _ (and_from _ _ (and_from _ _ (and_from _ _ good.upward good.starts) good.ends) good.named) good.sized) good.hashed
