-- Numbers in headers, and headers one after another.
use Rattle.std.proofs.Common.{◌≡◌, ◌∙◌, ℕ, ◌+◌, ◌<◌, ◌≤◌, ◌^◌, ◌==◌, Bool, true, false, List, [], ◌∷◌, length, Option, None, Some, Result, Ok, Err, refl, sym, ap, subst, arith}
use Rattle.std.specs.Prelude.{fold, if◌then◌else◌, is_some, nat_lt, option_and_then}
use Rattle.std.specs.Result.{OkIff, result_ok}
use Rattle.std.specs.Str.{all_ascii_digits}
use Rattle.std.specs.Str.Parse.{digits_value}
use Rattle.std.proofs.lemmas.Bool.Decides.{nat_tests}
use Rattle.serde_json.specs.Data.{Data}
use Rattle.kept_records.specs.declared.fault.Unreached.{Unreached}
use Rattle.kept_records.specs.declared.fault.Unreached.TheVariants as unreached
use Rattle.etcd_records.specs.declared.exchange.Exchange.{Exchange}
use Rattle.etcd_records.specs.declared.exchange.Outcome.{Outcome}
use Rattle.etcd_records.specs.declared.exchange.Outcome.TheVariants as outcome
use Rattle.etcd_records.specs.declared.headers.Header.{Header}
use Rattle.etcd_records.specs.Asking.{Heard, replied, unreplied, no_memory, IsHeard, seen_by}
use Rattle.etcd_records.specs.Headers.{header_of, header_with, number_of, trouble_in, trouble_of}
use Rattle.etcd_records.specs.Laws.{AreHeard, RepliesNeverGoBack, seen_last}
use Rattle.etcd_records.specs.Replies.{counted, counted_in, json_of, reply_in, reply_of, with_header}

-- the number that std's `parse` gives for a string without a leading `+`
pub number_of-from_parse :
    {E : Type 0} (digits : List ℕ) (parsed : Result ℕ E) →
    OkIff parsed ((all_ascii_digits digits ≡ true) × (0 < length digits) × (digits_value 10 digits < 2 ^ 64)) (digits_value 10 digits) →
    result_ok parsed ≡ number_of digits
number_of-from_parse digits (Ok number) fits = grind (arith, nat_tests)
number_of-from_parse digits (Err error) fails = grind (arith, nat_tests)

-- a header that counts after another one
abbrev GoesOn : Header → Option Header → Type 0
GoesOn seen after =
    (header : Header) × (after ≡ Some header) × (header.cluster ≡ seen.cluster) × (seen.revision ≤ header.revision)

by_revision : (seen header : Header) (test : Bool) → nat_lt header.revision seen.revision ≡ test
    → (if test then Some unreached.OlderState else None) ≡ None → seen.revision ≤ header.revision
by_revision seen header true is none = cc
by_revision seen header false is none = grind (arith, nat_tests)

by_cluster : (seen header : Header) (test : Bool) → (seen.cluster == header.cluster) ≡ test
    → (if test then (if nat_lt header.revision seen.revision then Some unreached.OlderState else None) else Some unreached.OtherCluster) ≡ None
    → (header.cluster ≡ seen.cluster) × (seen.revision ≤ header.revision)
by_cluster seen header true is none = (grind (arith, nat_tests), by_revision seen header (nat_lt header.revision seen.revision) refl none)
by_cluster seen header false is none = cc

with_some : (reply : Data) (header : Option Header) (test : Bool) (seen : Header) → header_of reply ≡ header
    → is_some header ≡ true → option_and_then (trouble_of (Some seen)) header ≡ None → GoesOn seen (header_of reply)
with_some reply None test seen is some none = cc
with_some reply (Some header) test seen is some none =
    let both = by_cluster seen header (seen.cluster == header.cluster) refl none in
    (header, is, both.0, both.1)

no_trouble : (seen : Option Header) (reply counts : Data) (trouble : Option Unreached) → trouble_in seen reply ≡ trouble
    → (if is_some trouble then None else Some reply) ≡ Some counts → (trouble_in seen reply ≡ None) × (reply ≡ counts)
no_trouble seen reply counts None is same = (is, cc)
no_trouble seen reply counts (Some why) is same = cc

has_header : (json : Data) (reply : Data) (test : Bool) → is_some (header_of json) ≡ test
    → (if test then Some json else None) ≡ Some reply → is_some (header_of reply) ≡ true
has_header json reply true is same = let one : json ≡ reply = cc in ap (λ (it : Data). is_some (header_of it)) (sym one) ∙ is
has_header json reply false is same = cc

of_json : (json : Option Data) (reply : Data) → option_and_then with_header json ≡ Some reply → is_some (header_of reply) ≡ true
of_json None reply is = cc
of_json (Some json) reply is = has_header json reply (is_some (header_of json)) refl is

by_status : (body : List ℕ) (reply : Data) (test : Bool) → (if test then reply_of body else None) ≡ Some reply
    → is_some (header_of reply) ≡ true
unfolding reply_of
by_status body reply true is = of_json (json_of body) reply is
by_status body reply false is = cc

-- each reply of etcd has a header
reply_has_header : (came : Outcome) (reply : Data) → reply_in came ≡ Some reply → is_some (header_of reply) ≡ true
reply_has_header (outcome.Responded status body) reply is = by_status body reply (status == 200) is
reply_has_header (outcome.Missed fault) reply is = cc

counts : (seen : Option Header) (read : Option Data) (reply : Data) → counted seen read ≡ Some reply
    → (read ≡ Some reply) × (trouble_in seen reply ≡ None)
counts seen None reply is = cc
counts seen (Some json) reply is =
    let both = no_trouble seen json reply (trouble_in seen json) refl is in
    (ap Some both.1, subst (λ (it : Data). trouble_in seen it ≡ None) both.1 both.0)

-- a reply that counts after one with a header goes on from it
reply_goes_on : (seen : Header) (came : Outcome) (reply : Data) → counted_in (Some seen) came ≡ Some reply
    → GoesOn seen (header_of reply)
reply_goes_on seen came reply is =
    let both = counts (Some seen) (reply_in came) reply is in
    with_some reply (header_of reply) true seen refl (reply_has_header came reply both.0) both.1

-- replies that count never go back
pub never_back : RepliesNeverGoBack
never_back first [] heard = (first, refl, refl, omega arith)
never_back first (replied reply is_doubtful ∷ later) heard =
    let step = reply_goes_on first heard.0.4.last.outcome reply heard.0.4.reply_is in
    let rest = never_back step.0 later (subst (λ (seen : Option Header). AreHeard seen later) step.1 heard.1) in
    let from = subst (λ (seen : Option Header). seen_last seen later ≡ Some rest.0) (sym step.1) rest.1 in
    (rest.0, from, rest.2 ∙ step.2, after first.revision step.0.revision rest.0.revision step.3 rest.3)
  where
    after : (a b c : ℕ) → a ≤ b → b ≤ c → a ≤ c
    after a b c one two = omega arith
never_back first (unreplied why is_doubtful ∷ later) heard = never_back first later heard.1
never_back first (no_memory ∷ later) heard = never_back first later heard.1

-- a header whose numbers were read
pub header_both : (cluster revision : Option ℕ) (c r : ℕ) → Some c ≡ cluster → Some r ≡ revision
    → Some (record { cluster = c; revision = r }) ≡ header_with cluster revision
header_both (Some one) (Some other) c r is also = cc
header_both (Some one) None c r is also = cc
header_both None revision c r is also = cc
