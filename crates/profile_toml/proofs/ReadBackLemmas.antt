-- A document whose table is that of a content and its mirrors is read as them.
use Rattle.std.proofs.Common.{◌≡◌, ℕ, List, [], codes, Some, Ok, refl}
use Rattle.std.specs.List.{AllByRecursion}
use Rattle.std.specs.Str.{IsUtf8}
use Rattle.std.proofs.lemmas.Str.{is_utf8-from_IsUtf8}
use Rattle.catalogue.specs.Contents.{edits_of_content}
use Rattle.catalogue.specs.Validity.{IsValidApp}
use Rattle.catalogue.specs.declared.content.App.{App}
use Rattle.catalogue.specs.declared.mirror.Mirror.{Mirror}
use Rattle.toml.specs.Parse.{parse_document}
use Rattle.profile_toml.specs.Tables.{document}
use Rattle.profile_toml.specs.Documents.{newest, schema_of}
use Rattle.profile_toml.specs.Laws.{AreMirrors}
use Rattle.profile_toml.specs.Reading.{profile_of_bytes}
use Rattle.profile_toml.proofs.AppEntryLemmas.{profile_of-profile_table}
use Rattle.profile_toml.proofs.EditLemmas.{edits_of-entries}
use Rattle.profile_toml.proofs.KeyLemmas.{get_member-filled_table}
use Rattle.profile_toml.proofs.WrittenMirrorLemmas.{valid_mirrors-AreMirrors}
use Rattle.profile_toml.proofs.ReaderLemmas.{required-natural}
use Rattle.profile_toml.specs.WrittenFields.{profile_fields, profile_table}

schema_of-written : (apps : List App) (mirrors : List Mirror)
    → schema_of (document (profile_table apps mirrors)) ≡ Ok newest
schema_of-written apps mirrors =
    let given = get_member-filled_table (codes "schema") (profile_fields apps mirrors) in
    rw (required-natural [] (codes "schema") (profile_table apps mirrors) 2 given) refl

pub profile_of_bytes-written : (text : List ℕ) (apps : List App) (mirrors : List Mirror)
    → IsUtf8 text → parse_document text ≡ Some (profile_table apps mirrors)
    → AllByRecursion IsValidApp apps → AreMirrors mirrors
    → profile_of_bytes text ≡ Ok (edits_of_content apps, mirrors)
unfolding profile_of_bytes
profile_of_bytes-written text apps mirrors utf8 parsed valid are =
    rw (
      is_utf8-from_IsUtf8 text utf8,
      parsed,
      schema_of-written apps mirrors,
      profile_of-profile_table apps mirrors valid are.some,
      valid_mirrors-AreMirrors mirrors are,
      edits_of-entries apps valid,
    ) refl
