-- The catalogue that is built into the program, for runs without a profile: an app with two releases,
-- whose one cohort targets the second; and its mirror.
use Rattle.std.specs.Prelude.{ℕ, false, List, [], ◌∷◌, codes, replicate, Some, None}
use Rattle.catalogue.specs.declared.content.App.{App}
use Rattle.catalogue.specs.declared.mirror.Mirror.{Mirror}
use Rattle.catalogue.specs.declared.edit.Edit.{Edit}
use Rattle.catalogue.specs.declared.edit.Edit.TheVariants as edit
use Rattle.service_desks.specs.declared.services.service.Service.{Service}

-- the app `mini`, with its default cohort `stable`
abbrev pub added_app : Edit
added_app = edit.AddApp (record { app = codes "mini"; default = codes "stable" })

-- a release of the app
abbrev pub added_release : List ℕ → List ℕ → ℕ → List ℕ → Edit
added_release version name size sha256 =
    edit.AddRelease
    (record { app = codes "mini"; version = version; name = name; size = size; sha256 = sha256 })

-- release 1.0: the three bytes `abc`
abbrev pub first_release : Edit
first_release =
    added_release (codes "1.0") (codes "mini-1.0.bin") 3
    (codes "ba7816bf8f01cfea414140de5dae2223b00361a396177a9cb410ff61f20015ad")

-- release 2.0: a string of 56 bytes from the examples of FIPS 180
abbrev pub second_release : Edit
second_release =
    added_release (codes "2.0") (codes "mini-2.0.bin") 56
    (codes "248d6a61d20638b8e5c026930c3e6039a33ce45964ff2167f6ecedd419db06c1")

-- the cohort targets release 2.0
abbrev pub set_target : Edit
set_target =
    edit.SetTarget
    (record { app = codes "mini"; cohort = codes "stable"; target = Some (codes "2.0"); held = None })

-- rule: Built-in catalogue
-- the one batch
abbrev pub builtin_batch : List Edit
builtin_batch = added_app ∷ first_release ∷ second_release ∷ set_target ∷ []

-- the one mirror
abbrev pub builtin_mirror : Mirror
builtin_mirror =
    record { name = codes "m0"; codebase = codes "http://m0.example/p/"; budget = 1000000 }

-- the hashes of the two releases, by their bytes
abbrev pub first_hash : List ℕ
first_hash =
    0xba ∷ 0x78 ∷ 0x16 ∷ 0xbf ∷ 0x8f ∷ 0x01 ∷ 0xcf ∷ 0xea ∷ 0x41 ∷ 0x41 ∷ 0x40 ∷ 0xde ∷ 0x5d ∷
    0xae ∷ 0x22 ∷ 0x23 ∷ 0xb0 ∷ 0x03 ∷ 0x61 ∷ 0xa3 ∷ 0x96 ∷ 0x17 ∷ 0x7a ∷ 0x9c ∷ 0xb4 ∷ 0x10 ∷
    0xff ∷ 0x61 ∷ 0xf2 ∷ 0x00 ∷ 0x15 ∷ 0xad ∷ []

abbrev pub second_hash : List ℕ
second_hash =
    0x24 ∷ 0x8d ∷ 0x6a ∷ 0x61 ∷ 0xd2 ∷ 0x06 ∷ 0x38 ∷ 0xb8 ∷ 0xe5 ∷ 0xc0 ∷ 0x26 ∷ 0x93 ∷ 0x0c ∷
    0x3e ∷ 0x60 ∷ 0x39 ∷ 0xa3 ∷ 0x3c ∷ 0xe4 ∷ 0x59 ∷ 0x64 ∷ 0xff ∷ 0x21 ∷ 0x67 ∷ 0xf6 ∷ 0xec ∷
    0xed ∷ 0xd4 ∷ 0x19 ∷ 0xdb ∷ 0x06 ∷ 0xc1 ∷ []

-- the content that the batch leads to
abbrev pub builtin_apps : List App
builtin_apps =
    record {
      id = codes "mini";
      cohorts = record { name = codes "stable"; target = Some (2 ∷ replicate 15 0); held = None; share = 1000; rollback = false; hintable = false } ∷ [];
      releases =
          record { version = 1 ∷ replicate 15 0; spelled = codes "1.0"; name = codes "mini-1.0.bin"; size = 3; hash = first_hash; stone = false; withdrawn = false; audience = None; floor = replicate 16 0 }
          ∷ record { version = 2 ∷ replicate 15 0; spelled = codes "2.0"; name = codes "mini-2.0.bin"; size = 56; hash = second_hash; stone = false; withdrawn = false; audience = None; floor = replicate 16 0 }
          ∷ [];
      diffs = [];
    } ∷ []

-- what the program replies from without a profile
abbrev pub builtin_service : Service
builtin_service = record { edition = builtin_batch ∷ []; mirrors = builtin_mirror ∷ [] }
