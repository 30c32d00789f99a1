-- What is known of a differential that may be added.
use Rattle.std.proofs.Common.{◌≡◌, ◌<◌, true, false, not, List, length, Some, None}
use Rattle.std.specs.Option.{is_none}
use Rattle.std.proofs.lemmas.Bool.{leb-false, or_parts}
use Rattle.catalogue.specs.Versions.{is_below, lenient_version_of}
use Rattle.catalogue.proofs.AcceptedLemmas.{None-from_not_some, NoneHold-first_fault, Some-from_not_none, true-from_not}
use Rattle.catalogue.specs.Changes.{new_diff}
use Rattle.catalogue.specs.Edits.Diffs.{tests_of_add_diff}
use Rattle.catalogue.specs.Faults.{first_fault}
use Rattle.catalogue.specs.Forms.{hash_of, is_package_name, is_size}
use Rattle.catalogue.specs.Limits.{max_diffs}
use Rattle.catalogue.specs.Lookups.{app_of, declared_of, has_diff, has_release, pair_of}
use Rattle.catalogue.specs.declared.content.App.{App}
use Rattle.catalogue.specs.declared.edits.diffs.AddDiff.{AddDiff}

-- an accepted differential: its app and both releases are there, its strings and size are valid, it leads
-- up, it is new, there is room
pub record TakesDiff (apps : List App) (e : AddDiff) : Type 0 where
  pub app : App
  pub found : app_of apps e.app ≡ Some app
  pub hashed : is_none (hash_of e.sha256) ≡ false
  pub sized : is_size e.size ≡ true
  pub named : is_package_name e.name ≡ true
  pub starts : has_release app.releases (lenient_version_of e.from) ≡ true
  pub ends : has_release app.releases (lenient_version_of e.to) ≡ true
  pub upward : is_below (lenient_version_of e.from) (lenient_version_of e.to) ≡ true
  pub new_pair : has_diff app.diffs (pair_of (new_diff e)) ≡ false
  pub new_name : declared_of apps e.name ≡ None
  pub room : length app.diffs < max_diffs

pub TakesDiff-from_no_fault :
    (apps : List App) (e : AddDiff) → first_fault (tests_of_add_diff apps e) ≡ None → TakesDiff apps e
TakesDiff-from_no_fault apps e h =
    let tests = NoneHold-first_fault (tests_of_add_diff apps e) h in
    let some = Some-from_not_none (app_of apps e.app) tests.0 in
    let app = some.0 in
    let found = some.1 in
    let others = tests.1.1.1.1.1 in
    let released =
    or_parts (not (has_release app.releases (lenient_version_of e.from)))
    (not (has_release app.releases (lenient_version_of e.to))) (rw found at others.0) in
    record {
      app = app;
      found = found;
      hashed = tests.1.1.0;
      sized = true-from_not _ tests.1.1.1.0;
      named = true-from_not _ tests.1.1.1.1.0;
      starts = true-from_not _ released.0;
      ends = true-from_not _ released.1;
      upward = true-from_not _ others.1.0;
      new_pair = rw found at others.1.1.0;
      new_name = None-from_not_some _ others.1.1.1.0;
      room = leb-false max_diffs (length app.diffs) (rw found at others.1.1.1.1.0);
    }
