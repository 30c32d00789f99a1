-- The JSON of bytes that were read, or rejected.
use Rattle.std.proofs.Common.{◌≡◌, ℕ, List, Bool, true, false, Some, None, refl}
use Rattle.std.specs.Prelude.{IsUtf8}
use Rattle.std.specs.Str.{is_utf8}
use Rattle.std.proofs.lemmas.Str.{is_utf8-from_IsUtf8, IsUtf8-from_is_utf8}
use Rattle.serde_json.specs.Data.{Data}
use Rattle.serde_json.specs.Read.{read}
use Rattle.etcd_records.specs.Replies.{json_of}

-- bytes that were read are that JSON
pub json_of-read : (text : List ℕ) (json : Data) → IsUtf8 text → read text ≡ Some json → json_of text ≡ Some json
json_of-read text json utf8 found = rw (is_utf8-from_IsUtf8 text utf8) found

refused_by_test : (test : Bool) (text : List ℕ) → is_utf8 text ≡ test → (IsUtf8 text → read text ≡ None)
    → json_of text ≡ None
refused_by_test true text is refused = rw is (refused (IsUtf8-from_is_utf8 text is))
refused_by_test false text is refused = rw is refl

-- bytes that were rejected are no JSON
pub json_of-refused : (text : List ℕ) → (IsUtf8 text → read text ≡ None) → json_of text ≡ None
json_of-refused text refused = refused_by_test (is_utf8 text) text refl refused
