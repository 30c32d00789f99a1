-- The table of some bytes, by whether they are UTF-8.
use Rattle.std.proofs.Common.{◌≡◌, ℕ, List, Bool, true, false, Some, None, refl}
use Rattle.std.specs.Prelude.{IsUtf8}
use Rattle.std.specs.Str.{is_utf8}
use Rattle.std.proofs.lemmas.Str.{is_utf8-from_IsUtf8, IsUtf8-from_is_utf8}
use Rattle.toml.specs.Data.{Members}
use Rattle.toml.specs.Parse.{parse_document}
use Rattle.profile_toml.specs.Documents.{document_of}

-- bytes that were read are that table
pub document_of-read : (text : List ℕ) (table : Members) → IsUtf8 text
    → parse_document text ≡ Some table → document_of text ≡ Some table
document_of-read text table utf8 found = rw (is_utf8-from_IsUtf8 text utf8) found

refused_by_test : (test : Bool) (text : List ℕ) → is_utf8 text ≡ test
    → (IsUtf8 text → parse_document text ≡ None) → document_of text ≡ None
refused_by_test true text is refused = rw is (refused (IsUtf8-from_is_utf8 text is))
refused_by_test false text is refused = rw is refl

-- bytes that were rejected are no table
pub document_of-refused : (text : List ℕ)
    → (IsUtf8 text → parse_document text ≡ None) → document_of text ≡ None
document_of-refused text refused = refused_by_test (is_utf8 text) text refl refused
