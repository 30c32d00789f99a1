-- A small content with the edits that make it, worked by hand.
use Rattle.std.specs.Prelude.{◌≡◌, ℕ, true, false, List, [], ◌∷◌, codes, replicate, None, Some}
use Rattle.catalogue.specs.Versions.{zero_version}
use Rattle.catalogue.specs.Contents.{edits_of_content}
use Rattle.catalogue.specs.declared.content.App.{App}
use Rattle.catalogue.specs.declared.content.Cohort.{Cohort}
use Rattle.catalogue.specs.declared.content.Release.{Release}
use Rattle.catalogue.specs.declared.edit.Edit.{Edit}
use Rattle.catalogue.specs.declared.edit.Edit.TheVariants as edit

-- release 1.0, whose hash is 32 bytes 0x11, and release 2.0, whose hash is 32 bytes 0x22 and which may be
-- taken from 1.0 on
abbrev pub version_of_one : List ℕ
version_of_one = 1 ∷ replicate 15 0

abbrev pub version_of_two : List ℕ
version_of_two = 2 ∷ replicate 15 0

abbrev pub first_release : Release
first_release =
    record {
      version = version_of_one;
      spelled = codes "1.0";
      name = codes "mini-1.0.bin";
      size = 3;
      hash = replicate 32 17;
      stone = false;
      withdrawn = false;
      audience = None;
      floor = zero_version;
    }

abbrev pub second_release : Release
second_release =
    record {
      version = version_of_two;
      spelled = codes "2.0";
      name = codes "mini-2.0.bin";
      size = 56;
      hash = replicate 32 34;
      stone = false;
      withdrawn = false;
      audience = None;
      floor = version_of_one;
    }

-- half of the default cohort's clients have 2.0, the others 1.0; the other cohort is open
abbrev pub stable : Cohort
stable =
    record {
      name = codes "stable";
      target = Some version_of_two;
      held = Some version_of_one;
      share = 500;
      rollback = false;
      hintable = false;
    }

abbrev pub beta : Cohort
beta =
    record {
      name = codes "beta";
      target = None;
      held = None;
      share = 1000;
      rollback = false;
      hintable = true;
    }

abbrev pub small_content : List App
small_content =
    record {
      id = codes "mini";
      cohorts = stable ∷ beta ∷ [];
      releases = first_release ∷ second_release ∷ [];
      diffs = [];
    }
    ∷ []

-- its edits in their order
abbrev pub small_edits : List Edit
small_edits =
    edit.AddApp (record { app = codes "mini"; default = codes "stable" })
    ∷ edit.AddCohort (record { app = codes "mini"; cohort = codes "beta" })
    ∷ edit.AddRelease
    (record {
      app = codes "mini";
      version = codes "1.0";
      name = codes "mini-1.0.bin";
      size = 3;
      sha256 = replicate 64 49;
    })
    ∷ edit.AddRelease
    (record {
      app = codes "mini";
      version = codes "2.0";
      name = codes "mini-2.0.bin";
      size = 56;
      sha256 = replicate 64 50;
    })
    ∷ edit.SetFloor (record { app = codes "mini"; version = codes "2.0"; floor = codes "1.0" })
    ∷ edit.SetTarget
    (record {
      app = codes "mini";
      cohort = codes "stable";
      target = Some (codes "2.0");
      held = Some (codes "1.0");
    })
    ∷ edit.SetShare (record { app = codes "mini"; cohort = codes "stable"; share = 500 })
    ∷ edit.SetOpen (record { app = codes "mini"; cohort = codes "beta"; on = true })
    ∷ []

abbrev pub SmallContentHasItsEdits : Type 0
SmallContentHasItsEdits = edits_of_content small_content ≡ small_edits
