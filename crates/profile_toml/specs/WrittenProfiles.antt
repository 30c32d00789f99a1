-- What a written profile is: its bytes, and what they are read as; this project's profile.
use Rattle.std.specs.Prelude.{◌≡◌, ℕ, false, List, [], Ok}
use Rattle.toml.specs.Text.{IsDocumentText}
use Rattle.catalogue.specs.Batches.{outcome}
use Rattle.catalogue.specs.Contents.{edits_of_content}
use Rattle.profile_toml.specs.Reading.{profile_of_bytes}
use Rattle.profile_toml.specs.WrittenFields.{profile_table}
use Rattle.catalogue.specs.declared.content.App.{App}
use Rattle.catalogue.specs.declared.mirror.Mirror.{Mirror}

-- rule: Bytes of a profile
-- the bytes are the TOML document of the profile's tables, as the crate `toml` prints it: a key a line,
-- the keys of a table in byte order, an empty line before a header
abbrev pub IsProfileFile : List App → List Mirror → List ℕ → Type 0
IsProfileFile apps mirrors text = IsDocumentText false (profile_table apps mirrors) text

-- rule: Written profile
-- the bytes are read as these mirrors and as edits that are accepted and make the content
pub record IsReadAs (apps : List App) (mirrors : List Mirror) (text : List ℕ) : Type 0 where
  pub read : profile_of_bytes text ≡ Ok (edits_of_content apps, mirrors)
  pub made : outcome (edits_of_content apps) [] ≡ Ok apps
