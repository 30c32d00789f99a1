-- What is known of a release that may be added.
use Rattle.std.proofs.Common.{◌≡◌, ◌<◌, true, false, List, length, Some, None}
use Rattle.std.specs.List.{list_any}
use Rattle.std.specs.Option.{is_none}
use Rattle.std.proofs.lemmas.Bool.{leb-false}
use Rattle.catalogue.specs.Versions.{version_of, lenient_version_of}
use Rattle.catalogue.proofs.AcceptedLemmas.{None-from_not_some, NoneHold-first_fault, Some-from_not_none, true-from_not}
use Rattle.catalogue.specs.Edits.Releases.{tests_of_add_release}
use Rattle.catalogue.specs.Faults.{first_fault}
use Rattle.catalogue.specs.Forms.{hash_named, hash_of, is_package_name, is_size}
use Rattle.catalogue.specs.Limits.{max_releases}
use Rattle.catalogue.specs.Lookups.{app_of, declared_of, has_hash, has_release}
use Rattle.catalogue.specs.declared.content.App.{App}
use Rattle.catalogue.specs.declared.edits.releases.AddRelease.{AddRelease}

-- an accepted release: its app is there, its strings and size are valid, it is new, there is room
pub record TakesRelease (apps : List App) (e : AddRelease) : Type 0 where
  pub app : App
  pub found : app_of apps e.app ≡ Some app
  pub spelled : is_none (version_of e.version) ≡ false
  pub hashed : is_none (hash_of e.sha256) ≡ false
  pub sized : is_size e.size ≡ true
  pub named : is_package_name e.name ≡ true
  pub new_version : has_release app.releases (lenient_version_of e.version) ≡ false
  pub new_hash : list_any (has_hash (hash_named e.sha256)) app.releases ≡ false
  pub new_name : declared_of apps e.name ≡ None
  pub room : length app.releases < max_releases

pub TakesRelease-from_no_fault :
    (apps : List App) (e : AddRelease) →
    first_fault (tests_of_add_release apps e) ≡ None →
    TakesRelease apps e
TakesRelease-from_no_fault apps e h =
    let tests = NoneHold-first_fault (tests_of_add_release apps e) h in
    let some = Some-from_not_none (app_of apps e.app) tests.0 in
    let found = some.1 in
    let others = tests.1.1.1.1.1 in
    record {
      app = some.0;
      found = found;
      spelled = tests.1.0;
      hashed = tests.1.1.0;
      sized = true-from_not _ tests.1.1.1.0;
      named = true-from_not _ tests.1.1.1.1.0;
      new_version = rw found at others.0;
      new_hash = rw found at others.1.0;
      new_name = None-from_not_some _ others.1.1.0;
      room = leb-false max_releases (length some.0.releases) (rw found at others.1.1.1.0);
    }
