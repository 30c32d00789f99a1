-- The JSON of a string, and the elements of `app` one after another.
use Rattle.std.proofs.Common.{◌≡◌, ℕ, ◌+◌, ◌<◌, ◌≤◌, List, [], ◌∷◌, ◌++◌, length, drop, get_or, Bool, true, false, Some, None, Result, Ok, Err, refl, sym, ap, ◌∙◌, add-one, append_assoc, append-nil, drop-cons}
use Rattle.std.specs.Prelude.{IsUtf8}
use Rattle.std.specs.Str.{is_utf8}
use Rattle.std.proofs.lemmas.Str.{is_utf8-from_IsUtf8, IsUtf8-from_is_utf8}
use Rattle.std.proofs.lemmas.List.{drop_all}
use Rattle.serde_json.specs.Data.{Data}
use Rattle.serde_json.specs.Read.{read}
use Rattle.serde_json.specs.View.{view, items_view}
use Rattle.serde_json.specs.declared.value.Value.{Value}
use Rattle.values.specs.declared.read_error.ReadError.{ReadError}
use Rattle.values.specs.declared.read_error.ReadError.TheVariants.{Memory, Fault}
use Rattle.values.specs.Reading.{Explains}
use Rattle.omaha_json.specs.declared.request.AppAsk.{AppAsk}
use Rattle.omaha_json.specs.declared.fault.RequestFault.{RequestFault}
use Rattle.omaha_json.specs.RequestReading.{◌>>=◌, json_of, ask_of, asks_from}

-- bytes that were read are that JSON
pub json_of-read : (text : List ℕ) (json : Data) → IsUtf8 text → read text ≡ Some json
    → json_of text ≡ Some json
json_of-read text json utf8 found = rw (is_utf8-from_IsUtf8 text utf8) found

refused_by_test : (test : Bool) (text : List ℕ) → is_utf8 text ≡ test
    → (IsUtf8 text → read text ≡ None) → json_of text ≡ None
refused_by_test true text is refused = rw is (refused (IsUtf8-from_is_utf8 text is))
refused_by_test false text is refused = rw is refl

-- bytes that were rejected are no JSON
pub json_of-refused : (text : List ℕ) → (IsUtf8 text → read text ≡ None) → json_of text ≡ None
json_of-refused text refused = refused_by_test (is_utf8 text) text refl refused

-- what was asked so far, and then the rest or its fault
abbrev pub with_front : List AppAsk
    → Result (List AppAsk) RequestFault → Result (List AppAsk) RequestFault
with_front front (Ok rest) = Ok (front ++ rest)
with_front front (Err fault) = Err fault

with_front-cons : (front : List AppAsk) (ask : AppAsk) (rest : Result (List AppAsk) RequestFault)
    → with_front front (rest >>= (λ asks. Ok (ask ∷ asks))) ≡ with_front (front ++ ask ∷ []) rest
with_front-cons front ask (Ok rest) = ap Ok (sym (append_assoc front (ask ∷ []) rest))
with_front-cons front ask (Err fault) = refl

-- the element at an index asks, and those after it follow
pub asks_from-next : (front : List AppAsk) (apps : List Value) (i : ℕ) (app : Value) (ask : AppAsk)
    → i < length apps → app ≡ get_or apps i app → ask_of i (view app) ≡ Ok ask
    → with_front (front ++ ask ∷ []) (asks_from (i + 1) (items_view (drop (i + 1) apps)))
    ≡ with_front front (asks_from i (items_view (drop i apps)))
unfolding asks_from
asks_from-next front apps i app ask within here asked =
    rw (drop-cons apps i app within, ← here, asked, add-one) (sym (with_front-cons front ask _))

-- if the element at an index is invalid or memory runs out there, so it is with the whole
pub asks_from-refused : (front : List AppAsk) (apps : List Value) (i : ℕ) (app : Value)
    (error : ReadError RequestFault)
    → i < length apps → app ≡ get_or apps i app → Explains error (ask_of i (view app))
    → with_front front (asks_from i (items_view (drop i apps))) ≡ asks_from 0 (items_view apps)
    → Explains error (asks_from 0 (items_view apps))
unfolding asks_from
asks_from-refused front apps i app Memory within here refused so_far = tt
asks_from-refused front apps i app (Fault fault) within here refused so_far =
    sym so_far ∙ rw (drop-cons apps i app within, ← here, refused) refl

-- no element is left
pub asks_from-end : (front : List AppAsk) (apps : List Value) (i : ℕ) → length apps ≤ i
    → with_front front (asks_from i (items_view (drop i apps))) ≡ Ok front
unfolding asks_from
asks_from-end front apps i past = rw (drop_all i apps past) (ap Ok (append-nil front))
