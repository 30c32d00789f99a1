-- What exchanges shown of known records.
use Rattle.std.proofs.Common.{◌≡◌, ℕ, ◌+◌, ◌<◌, ◌≤◌, List, [], ◌∷◌, ◌++◌, length, get_or, Bool, true, false, Option, Some, None, Result, Ok, Err, refl, sym, ap, subst, ◌∙◌, inl, inr, arith, length-append}
use Rattle.std.proofs.Math.Nat.{eq-or-lt_of_le}
use Rattle.std.proofs.Math.Seq.{get_or-append_seam}
use Rattle.std.proofs.lemmas.List.{get_or_append_left}
use Rattle.std.proofs.lemmas.List.Elements.{Contains-append_left, Contains-append_right}
use Rattle.std.proofs.lemmas.Option.{get_or_from_slice_get, slice_get-get_or, slice_get_within}
use Rattle.std.specs.Prelude.{IfOk, IfSome, if◌then◌else◌, is_some}
use Rattle.std.specs.List.{Contains}
use Rattle.std.specs.Str.{bytes_eq}
use Rattle.std.proofs.lemmas.Slice.Eq.{bytes_eq-Decides}
use Rattle.base64.specs.Engines.{standard}
use Rattle.base64.specs.GeneralPurpose.{decode_of}
use Rattle.serde_json.specs.Data.{Data}
use Rattle.kept_records.specs.declared.fault.AppendFault.{AppendFault}
use Rattle.kept_records.specs.declared.fault.AppendFault.TheVariants as append
use Rattle.kept_records.specs.declared.fault.Cause.{Cause}
use Rattle.kept_records.specs.declared.fault.ReadFault.{ReadFault}
use Rattle.kept_records.specs.declared.record.Record.{Record}
use Rattle.etcd_records.specs.declared.exchange.Exchange.{Exchange}
use Rattle.etcd_records.specs.Appending.{NextBy, ReadsBy, ReadsFound, append_result, held_result}
use Rattle.etcd_records.specs.Asking.{Asks, Heard, replied, unreplied, no_memory, IsHeard, IsReplied, seen_by}
use Rattle.etcd_records.specs.Handles.{AreShown, IsShown, ShowsOf}
use Rattle.etcd_records.specs.Keys.{encoded_key, value_of}
use Rattle.etcd_records.specs.Headers.{trouble_in}
use Rattle.etcd_records.specs.Replies.{counted, counted_in, found_in, held_in, is_created, reply_in}
use Rattle.etcd_records.specs.declared.exchange.Outcome.{Outcome}
use Rattle.etcd_records.specs.declared.headers.Header.{Header}
use Rattle.etcd_records.specs.Requests.{range_path, range_request, txn_path, txn_request}

-- what was shown stays shown
IsShown-more : (old done : List Exchange) (prefix : List ℕ) (number : ℕ) (it : Record) → IsShown old prefix number it
    → IsShown (old ++ done) prefix number it
IsShown-more old done prefix number it shown = record {
  exchange = shown.exchange;
  value = shown.value;
  done = Contains-append_left old done shown.exchange shown.done;
  shows = shown.shows;
  decodes = shown.decodes;
}

-- the same of all known records
pub AreShown-more : (old new done : List Exchange) (prefix : List ℕ) (kept : List Record) → new ≡ old ++ done
    → AreShown old prefix kept → AreShown new prefix kept
AreShown-more old new done prefix kept is shown at it found =
    subst (λ (all : List Exchange). IsShown all prefix (at + 1) it) (sym is) (IsShown-more old done prefix (at + 1) it (shown at it found))

-- one more record was shown
pub AreShown-push : (exchanges : List Exchange) (prefix : List ℕ) (kept : List Record) (added : Record)
    → AreShown exchanges prefix kept → IsShown exchanges prefix (length kept + 1) added
    → AreShown exchanges prefix (kept ++ added ∷ [])
AreShown-push exchanges prefix kept added shown more at it found =
    let within : at ≤ length kept = omega (arith, slice_get_within (kept ++ added ∷ []) at it found, length-append kept (added ∷ [])) in
    elim (eq-or-lt_of_le within) [
      | inl last ↦
          let is : added ≡ it = sym (get_or-append_seam kept added [] it) ∙ ap (λ place. get_or (kept ++ added ∷ []) place it) (sym last)
          ∙ get_or_from_slice_get (kept ++ added ∷ []) at it it found in
          subst (λ (r : Record). IsShown exchanges prefix (at + 1) r) is
          (subst (λ (place : ℕ). IsShown exchanges prefix (place + 1) added) (sym last) more)
      | inr below ↦
          shown at it (slice_get-get_or kept at it below
          ∙ ap Some (sym (get_or_append_left kept (added ∷ []) it at below) ∙ get_or_from_slice_get (kept ++ added ∷ []) at it it found))
    ]

-- the first ones were shown
pub AreShown-first : (exchanges : List Exchange) (prefix : List ℕ) (kept : List Record) (last : Record)
    → AreShown exchanges prefix (kept ++ last ∷ []) → AreShown exchanges prefix kept
AreShown-first exchanges prefix kept last shown at it found =
    let below : at < length kept = slice_get_within kept at it found in
    let more : at < length (kept ++ last ∷ []) = omega (arith, below, length-append kept (last ∷ [])) in
    shown at it (slice_get-get_or (kept ++ last ∷ []) at it more
    ∙ ap Some (get_or_append_left kept (last ∷ []) it at below ∙ get_or_from_slice_get kept at it it found))

Contains-last : (old missed : List Exchange) (last : Exchange) → Contains (old ++ (missed ++ last ∷ [])) last
Contains-last old missed last =
    Contains-append_right old (missed ++ last ∷ []) last (Contains-append_right missed (last ∷ []) last (0, omega arith, refl))

-- a reply that counts is one of etcd
counted_by : (seen : Option Header) (reply counts : Data) (test : Bool) → is_some (trouble_in seen reply) ≡ test
    → (if test then None else Some reply) ≡ Some counts → Some reply ≡ Some counts
counted_by seen reply counts true is same = cc
counted_by seen reply counts false is same = same

counted_some : (seen : Option Header) (read : Option Data) (reply : Data) → counted seen read ≡ Some reply → read ≡ Some reply
counted_some seen None reply is = is
counted_some seen (Some read) reply is = counted_by seen read reply (is_some (trouble_in seen read)) refl is

pub counted_is : (seen : Option Header) (came : Outcome) (reply : Data) → counted_in seen came ≡ Some reply → reply_in came ≡ Some reply
counted_is seen came reply is = counted_some seen (reply_in came) reply is

-- the exchange that brought a reply shown what it says
replied_shown : (most : ℕ) (seen : Option Header) (prefix path body : List ℕ) (number : ℕ) (added : Record) (value : List ℕ) (old done : List Exchange) (reply : Data) (is_doubtful : Bool)
    → (is : IsReplied most seen path body done reply is_doubtful)
    → ShowsOf (encoded_key prefix number) value is.last reply → decode_of standard value ≡ Ok (value_of added)
    → IsShown (old ++ done) prefix number added
replied_shown most seen prefix path body number added value old done reply is_doubtful is shows decodes = record {
  exchange = is.last;
  value = value;
  done = subst (λ (all : List Exchange). Contains (old ++ all) is.last) (sym is.all) (Contains-last old is.missed is.last);
  shows = (reply, counted_is seen is.last.outcome reply is.reply_is, shows);
  decodes = decodes;
}

same_bytes : (xs ys : List ℕ) → bytes_eq xs ys ≡ true → xs ≡ ys
same_bytes xs ys is = (bytes_eq-Decides xs ys).0 is

abbrev IsDone : Result (Unit {0}) AppendFault → Type 0
IsDone result = Ok tt ≡ result

not_done : (fault : AppendFault) → IsDone (Err fault) → ⊥
not_done fault is = cc

by_test : (value held : List ℕ) (test : Bool) → bytes_eq held value ≡ test
    → IsDone (if test then Ok tt else Err append.Taken) → Some held ≡ Some value
by_test value held true is result = ap Some (same_bytes held value is)
by_test value held false is result = absurd (not_done append.Taken result)

-- an append that succeeded heard that its value is there
held_shown : (value : List ℕ) (is_doubtful : Bool) (held : Option (List ℕ))
    → IsDone (held_result value is_doubtful held) → held ≡ Some value
held_shown value is_doubtful None is = absurd (not_done _ is)
held_shown value true (Some held) is = by_test value held (bytes_eq held value) refl is
held_shown value false (Some held) is = absurd (not_done _ is)

created_shown : (key value : List ℕ) (is_doubtful : Bool) (it : Exchange) (reply : Data) (created : Bool)
    → Asks txn_path (txn_request key value) it → is_created reply ≡ created
    → IsDone (if created then Ok tt else held_result value is_doubtful (held_in reply)) → ShowsOf key value it reply
created_shown key value is_doubtful it reply true asks is result = inr (inr (asks, is))
created_shown key value is_doubtful it reply false asks is result =
    inr (inl (value, asks, is, held_shown value is_doubtful (held_in reply) result))

unreplied_is : (why : Cause) (is_doubtful : Bool)
    → IsDone (if is_doubtful then Err (append.Unknown why) else Err (append.Failed why)) → ⊥
unreplied_is why true is = not_done _ is
unreplied_is why false is = not_done _ is

append_heard : (most : ℕ) (seen : Option Header) (prefix : List ℕ) (number : ℕ) (added : Record) (value : List ℕ) (old done : List Exchange) (heard : Heard)
    → IsHeard most seen txn_path (txn_request (encoded_key prefix number) value) done heard
    → IsDone (append_result value heard) → decode_of standard value ≡ Ok (value_of added)
    → IsShown (old ++ done) prefix number added
append_heard most seen prefix number added value old done (replied reply is_doubtful) is result decodes =
    replied_shown most seen prefix txn_path (txn_request (encoded_key prefix number) value) number added value old done reply is_doubtful is
    (created_shown (encoded_key prefix number) value is_doubtful is.last reply (is_created reply) is.asks refl result) decodes
append_heard most seen prefix number added value old done (unreplied why is_doubtful) is result decodes = absurd (unreplied_is why is_doubtful result)
append_heard most seen prefix number added value old done no_memory is result decodes = absurd (not_done _ result)

-- the same by what it is shown of
IsShown-at : (exchanges : List Exchange) (prefix now : List ℕ) (kept after : List Record) (it : Record) → now ≡ prefix
    → after ≡ kept
    → IsShown exchanges prefix (length kept + 1) it → IsShown exchanges now (length after + 1) it
IsShown-at exchanges prefix now kept after it same also shown =
    subst (λ (p : List ℕ). IsShown exchanges p (length after + 1) it) (sym same)
    (subst (λ (all : List Record). IsShown exchanges prefix (length all + 1) it) (sym also) shown)

-- a record that was appended was shown
pub appended_shown : (most : ℕ) (seen : Option Header) (prefix now body : List ℕ) (kept after : List Record) (added : Record) (value used : List ℕ) (old new done : List Exchange) (heard : Heard)
    → IsHeard most seen txn_path body done heard → body ≡ txn_request (encoded_key prefix (length kept + 1)) value
    → used ≡ value
    → Ok tt ≡ append_result used heard → decode_of standard value ≡ Ok (value_of added) → new ≡ old ++ done
    → now ≡ prefix → after ≡ kept
    → IsShown new now (length after + 1) added
appended_shown most seen prefix now body kept after added value used old new done heard is asks own result decodes grown same also =
    let done_by : Ok tt ≡ append_result value heard = subst (λ (it : List ℕ). IsDone (append_result it heard)) own result in
    let asked : IsHeard most seen txn_path (txn_request (encoded_key prefix (length kept + 1)) value) done heard =
    subst (λ (it : List ℕ). IsHeard most seen txn_path it done heard) asks is in
    IsShown-at new prefix now kept after added same also
    (subst (λ (all : List Exchange). IsShown all prefix (length kept + 1) added) (sym grown)
    (append_heard most seen prefix (length kept + 1) added value old done heard asked done_by decodes))

not_read : (fault : ReadFault) (next : Record) → Ok (Some next) ≡ Err fault → ⊥
not_read fault next is = cc

found_shown : (key : List ℕ) (next : Record) (it : Exchange) (reply : Data) (found : Option (List ℕ))
    → Asks range_path (range_request key) it → found_in reply ≡ found → ReadsFound found (Ok (Some next))
    → (value : List ℕ) × ShowsOf key value it reply × (decode_of standard value ≡ Ok (value_of next))
found_shown key next it reply None asks is reads = absurd (is_none reads)
  where
    is_none : (let read : Result (Option Record) ReadFault = Ok (Some next) in read ≡ Ok None) → ⊥
    is_none same = cc
found_shown key next it reply (Some value) asks is reads = (value, inl (asks, is), reads)

read_heard : (most : ℕ) (seen : Option Header) (prefix : List ℕ) (number : ℕ) (next : Record) (old done : List Exchange) (heard : Heard)
    → IsHeard most seen range_path (range_request (encoded_key prefix number)) done heard → ReadsBy heard (Ok (Some next))
    → IsShown (old ++ done) prefix number next
read_heard most seen prefix number next old done (replied reply is_doubtful) is reads =
    let found = found_shown (encoded_key prefix number) next is.last reply (found_in reply) is.asks refl reads in
    replied_shown most seen prefix range_path (range_request (encoded_key prefix number)) number next found.0 old done reply is_doubtful is found.1 found.2
read_heard most seen prefix number next old done (unreplied why is_doubtful) is reads = absurd (not_read _ next reads)
read_heard most seen prefix number next old done no_memory is reads = absurd (not_read _ next reads)

-- a record that was read was shown
pub read_shown : (most : ℕ) (seen : Option Header) (prefix now body : List ℕ) (kept after : List Record) (result : Result (Option Record) ReadFault) (old new done : List Exchange) (heard : Heard)
    → IsHeard most seen range_path body done heard → body ≡ range_request (encoded_key prefix (length kept + 1))
    → ReadsBy heard result → new ≡ old ++ done → now ≡ prefix → after ≡ kept
    → IfOk result (λ found. IfSome found (IsShown new now (length after + 1)))
read_shown most seen prefix now body kept after (Ok (Some next)) old new done heard is asks reads grown same also =
    let asked : IsHeard most seen range_path (range_request (encoded_key prefix (length kept + 1))) done heard =
    subst (λ (it : List ℕ). IsHeard most seen range_path it done heard) asks is in
    IsShown-at new prefix now kept after next same also
    (subst (λ (all : List Exchange). IsShown all prefix (length kept + 1) next) (sym grown)
    (read_heard most seen prefix (length kept + 1) next old done heard asked reads))
read_shown most seen prefix now body kept after (Ok None) old new done heard is asks reads grown same also = tt
read_shown most seen prefix now body kept after (Err fault) old new done heard is asks reads grown same also = tt

-- a read that was posted, by what was heard
pub read_by : (most : ℕ) (seen after : Option Header) (prefix body : List ℕ) (kept : List Record) (result : Result (Option Record) ReadFault) (old new done : List Exchange) (heard : Heard)
    → IsHeard most seen range_path body done heard → body ≡ range_request (encoded_key prefix (length kept + 1))
    → ReadsBy heard result → new ≡ old ++ done → after ≡ seen_by seen heard
    → (x : List Exchange) × (new ≡ old ++ x) × NextBy most seen after prefix kept x result
read_by most seen after prefix body kept result old new done heard is asks reads grown sees = (
  done,
  grown,
  inr (inr (record {
    heard = heard;
    seen_is = sees;
    is_heard = subst (λ (it : List ℕ). IsHeard most seen range_path it done heard) asks is;
    reads = reads;
  })),
)
