-- The length of a message by its head.
use Rattle.std.proofs.Common.{◌≡◌, ℕ, ◌<◌, ◌≤◌, Bool, true, false, cond, leb, List, [], ◌∷◌, length, map, take, Result, Ok, Err, refl, sym, ap, ◌∙◌, arith}
use Rattle.std.proofs.lemmas.List.{length-map}
use Rattle.std.proofs.lemmas.Bool.{le-leb, leb-true, lt-leb}
use Rattle.std.specs.Prelude.{bytes_eq, codes, nat_le}
use Rattle.std.specs.List.{list_any}
use Rattle.std.specs.Str.Parse.{digits_value}
use Rattle.httparse.specs.Grammar.{RequestHead}
use Rattle.httparse.specs.Spans.{IsRequestAt, header_bytes, name_and_value, span_bytes}
use Rattle.httparse.specs.declared.spans.HeaderSpan.{HeaderSpan}
use Rattle.httparse.specs.declared.spans.RequestSpans.{RequestSpans}
use Rattle.http_wire.specs.Browsers.{is_from_browser}
use Rattle.http_wire.specs.Hosts.{is_for_another}
use Rattle.http_wire.specs.Closing.{closes_after}
use Rattle.http_wire.specs.Fields.{Pair, is_named, values_named}
use Rattle.http_wire.specs.Framing.{framing_of, is_number, length_by, length_in}
use Rattle.http_wire.specs.declared.heads.status.Status.{Status}
use Rattle.http_wire.specs.declared.heads.status.Status.TheVariants as status
use Rattle.http_desks.specs.Uses.{method_of}
use Rattle.http_sessions.specs.Messages.{asks_close, fields_of, message_length, method_in}

number_bound :
    (number small : Bool) (value n : ℕ) →
    small ≡ leb value 262144 →
    ◌≡◌ {A = Result ℕ Status} (cond number (cond small (Ok value) (Err status.ContentTooLarge)) (Err status.BadRequest)) (Ok n) →
    n ≤ 262144
number_bound true true value n test e = let fits = leb-true value 262144 (sym test) in let same : value ≡ n = cc in omega arith
number_bound true false value n test e = cc
number_bound false small value n test e = cc

value_bound : (value : List ℕ) (n : ℕ) → length_in value ≡ Ok n → n ≤ 262144
value_bound value n e = number_bound (is_number value) (nat_le (digits_value 10 value) 262144) (digits_value 10 value) n refl e

none_bound :
    (post : Bool) (n : ℕ) →
    ◌≡◌ {A = Result ℕ Status} (cond post (Err status.LengthRequired) (Ok 0)) (Ok n) →
    n ≤ 262144
none_bound true n e = cc
none_bound false n e = let same : 0 ≡ n = cc in omega arith

values_bound : (method : List ℕ) (values : List (List ℕ)) (n : ℕ) → length_by method values ≡ Ok n → n ≤ 262144
values_bound method [] n e = none_bound (bytes_eq method (codes "POST")) n e
values_bound method (value ∷ []) n e = value_bound value n e
values_bound method (value ∷ another ∷ more) n e = cc

coded_bound :
    (coded : Bool) (rest : Result ℕ Status) (n : ℕ) →
    (rest ≡ Ok n → n ≤ 262144) →
    cond coded (Err status.NotImplemented) rest ≡ Ok n →
    n ≤ 262144
coded_bound true rest n bound e = cc
coded_bound false rest n bound e = bound e

-- a body has at most 262144 bytes
pub framing_of-bound : (method : List ℕ) (fields : List Pair) (n : ℕ) → framing_of method fields ≡ Ok n → n ≤ 262144
unfolding framing_of
framing_of-bound method fields n e =
    coded_bound (list_any (is_named (codes "transfer-encoding")) fields)
    (length_by method (values_named (codes "content-length") fields)) n
    (values_bound method (values_named (codes "content-length") fields) n) e

-- a head of 64 fields or less
pub message_length-few :
    (head : RequestHead) →
    length head.fields ≤ 64 →
    message_length head ≡ framing_of head.method (fields_of head)
unfolding message_length
message_length-few head few =
    ap (λ (b : Bool). cond b (framing_of head.method (fields_of head)) (Err status.BadRequest)) (le-leb (length head.fields) 64 few)

-- a head of more
pub message_length-many :
    (head : RequestHead) →
    64 < length head.fields →
    message_length head ≡ Err status.BadRequest
unfolding message_length
message_length-many head many =
    ap (λ (b : Bool). cond b (framing_of head.method (fields_of head)) (Err status.BadRequest)) (lt-leb (length head.fields) 64 many)

fields_count :
    (bytes : List ℕ) (places : List HeaderSpan) (spans : RequestSpans) (head : RequestHead) →
    IsRequestAt bytes places spans head →
    length (take spans.headers places) ≡ length head.fields
fields_count bytes places spans head at =
    sym (length-map (take spans.headers places) (header_bytes bytes)) ∙ ap length at.fields ∙ length-map head.fields name_and_value

-- a head at these places, of 64 fields or less
pub plan_few :
    (bytes method : List ℕ) (places : List HeaderSpan) (spans : RequestSpans) (head : RequestHead) →
    IsRequestAt bytes places spans head →
    method ≡ span_bytes bytes spans.method →
    length (take spans.headers places) ≤ 64 →
    message_length head ≡ framing_of method (map (header_bytes bytes) (take spans.headers places))
plan_few bytes method places spans head at named few =
    let count = fields_count bytes places spans head at in
    message_length-few head (omega (arith, count))
    ∙ ap (λ (name : List ℕ). framing_of name (fields_of head)) (sym at.method ∙ sym named)
    ∙ ap (framing_of method) (sym at.fields)

-- a head at these places, of more
pub plan_many :
    (bytes : List ℕ) (places : List HeaderSpan) (spans : RequestSpans) (head : RequestHead) →
    IsRequestAt bytes places spans head →
    64 < length (take spans.headers places) →
    message_length head ≡ Err status.BadRequest
plan_many bytes places spans head at many =
    let count = fields_count bytes places spans head at in
    message_length-many head (omega (arith, count))

-- whether the head asks for the end of the connection
pub plan_closes :
    (bytes : List ℕ) (places : List HeaderSpan) (spans : RequestSpans) (head : RequestHead) →
    IsRequestAt bytes places spans head →
    closes_after spans.version (map (header_bytes bytes) (take spans.headers places)) ≡ asks_close head
plan_closes bytes places spans head at =
    ap (λ (minor : ℕ). closes_after minor (map (header_bytes bytes) (take spans.headers places))) at.version
    ∙ ap (closes_after head.minor) at.fields

-- the method, by whether a browser sends the message, and whether it is for another host
pub plan_method :
    (bytes method : List ℕ) (places : List HeaderSpan) (spans : RequestSpans) (head : RequestHead) →
    IsRequestAt bytes places spans head →
    method ≡ span_bytes bytes spans.method →
    method_of method (is_from_browser (map (header_bytes bytes) (take spans.headers places)))
    (is_for_another (map (header_bytes bytes) (take spans.headers places))) ≡ method_in head
plan_method bytes method places spans head at named =
    ap (λ (name : List ℕ). method_of name (is_from_browser (map (header_bytes bytes) (take spans.headers places)))
    (is_for_another (map (header_bytes bytes) (take spans.headers places)))) (named ∙ at.method)
    ∙ ap (λ (fields : List Pair). method_of head.method (is_from_browser fields) (is_for_another fields)) at.fields
