-- The JSON of a string, and the elements of `app` one after another.
use Rattle.std.proofs.Common.{◌≡◌, ℕ, ◌+◌, ◌<◌, ◌≤◌, List, [], ◌∷◌, ◌++◌, length, drop, get_or, Bool, true, false, Some, None, Result, Ok, Err, refl, sym, ap, ◌∙◌, add-one, arith, append_assoc, append-nil, drop-cons}
use Rattle.std.specs.Prelude.{IsUtf8}
use Rattle.std.specs.Str.{is_utf8}
use Rattle.std.proofs.lemmas.Str.{is_utf8-from_IsUtf8, IsUtf8-from_is_utf8}
use Rattle.std.proofs.lemmas.List.{drop_all}
use Rattle.serde_json.specs.Data.{Data}
use Rattle.serde_json.specs.Read.{read}
use Rattle.serde_json.specs.View.{view, items_view}
use Rattle.serde_json.specs.declared.value.Value.{Value}
use Rattle.values.specs.declared.read_error.ReadError.{ReadError}
use Rattle.values.specs.declared.read_error.ReadError.TheVariants.{Memory, Fault}
use Rattle.values.specs.Reading.{Explains}
use Rattle.omaha_json.specs.declared.reply.AppReply.{AppReply}
use Rattle.omaha_json.specs.declared.client.fault.ReplyFault.{ReplyFault}
use Rattle.omaha_json.specs.RequestReading.{json_of}
use Rattle.omaha_json.specs.ReplyReading.{◌>>=◌, only_item, app_of, apps_from}

-- bytes that were read are that JSON
pub json_of-read : (text : List ℕ) (json : Data) → IsUtf8 text → read text ≡ Some json
    → json_of text ≡ Some json
json_of-read text json utf8 found = rw (is_utf8-from_IsUtf8 text utf8) found

refused_by_test : (test : Bool) (text : List ℕ) → is_utf8 text ≡ test
    → (IsUtf8 text → read text ≡ None) → json_of text ≡ None
refused_by_test true text is refused = rw is (refused (IsUtf8-from_is_utf8 text is))
refused_by_test false text is refused = rw is refl

-- bytes that were rejected are no JSON
pub json_of-refused : (text : List ℕ) → (IsUtf8 text → read text ≡ None) → json_of text ≡ None
json_of-refused text refused = refused_by_test (is_utf8 text) text refl refused

-- what was read so far, and then the rest or its fault
abbrev pub with_front : List AppReply
    → Result (List AppReply) ReplyFault → Result (List AppReply) ReplyFault
with_front front (Ok rest) = Ok (front ++ rest)
with_front front (Err fault) = Err fault

with_front-cons : (front : List AppReply) (reply : AppReply) (rest : Result (List AppReply) ReplyFault)
    → with_front front (rest >>= (λ replies. Ok (reply ∷ replies))) ≡ with_front (front ++ reply ∷ []) rest
with_front-cons front reply (Ok rest) = ap Ok (sym (append_assoc front (reply ∷ []) rest))
with_front-cons front reply (Err fault) = refl

-- the element at an index replies, and those after it follow
pub apps_from-next : (front : List AppReply) (apps : List Value) (i : ℕ) (app : Value) (reply : AppReply)
    → i < length apps → app ≡ get_or apps i app → app_of i (view app) ≡ Ok reply
    → with_front (front ++ reply ∷ []) (apps_from (i + 1) (items_view (drop (i + 1) apps)))
    ≡ with_front front (apps_from i (items_view (drop i apps)))
unfolding apps_from
apps_from-next front apps i app reply within here answered =
    rw (drop-cons apps i app within, ← here, answered, add-one) (sym (with_front-cons front reply _))

-- if the element at an index is invalid or memory runs out there, so it is with the whole
pub apps_from-refused : (front : List AppReply) (apps : List Value) (i : ℕ) (app : Value)
    (error : ReadError ReplyFault)
    → i < length apps → app ≡ get_or apps i app → Explains error (app_of i (view app))
    → with_front front (apps_from i (items_view (drop i apps))) ≡ apps_from 0 (items_view apps)
    → Explains error (apps_from 0 (items_view apps))
unfolding apps_from
apps_from-refused front apps i app Memory within here refused so_far = tt
apps_from-refused front apps i app (Fault fault) within here refused so_far =
    sym so_far ∙ rw (drop-cons apps i app within, ← here, refused) refl

-- no element is left
pub apps_from-end : (front : List AppReply) (apps : List Value) (i : ℕ) → length apps ≤ i
    → with_front front (apps_from i (items_view (drop i apps))) ≡ Ok front
unfolding apps_from
apps_from-end front apps i past = rw (drop_all i apps past) (ap Ok (append-nil front))

-- a list of another length than 1 has no only item
pub only_item-none : (items : List Value) → (length items ≡ 1 → ⊥)
    → None ≡ only_item (items_view items)
only_item-none [] other = refl
only_item-none (value ∷ []) other = absurd (other (omega arith))
only_item-none (value ∷ next ∷ items) other = refl
