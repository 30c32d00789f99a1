-- What is published stays over the calls of an operator's desk, and what a crash leaves of its records.
use Rattle.std.proofs.Common.{◌≡◌, ◌∙◌, ℕ, ◌-◌, List, [], ◌∷◌, ◌++◌, ap, ap₂, inl, inr, refl, subst, sym, unwrap_or, Option, Some, None, Result, Ok, Err}
use Rattle.std.proofs.lemmas.List.{append-nil, append_assoc}
use Rattle.std.specs.Bool.{⊤}
use Rattle.std.specs.Option.{ForSome}
use Rattle.std.proofs.lemmas.Option.{same_Some}
use Rattle.catalogue.specs.declared.edit.Edit.{Edit}
use Rattle.catalogue.specs.Histories.{History}
use Rattle.http_desks.specs.Calls.{Asks, Call, Looks, Shows}
use Rattle.http_desks.specs.declared.desk.DeskStatus.{DeskStatus}
use Rattle.http_desks.specs.declared.desk.Off.{Off}
use Rattle.http_desks.specs.declared.desk.Off.TheVariants as off
use Rattle.kept_records.specs.Keeping.{record_of}
use Rattle.kept_records.specs.declared.record.Kind.{Kind}
use Rattle.kept_records.specs.declared.record.Kind.TheVariants as kind
use Rattle.kept_records.specs.declared.record.Record.{Record}
use Rattle.mirror_ledger.specs.declared.raise_error.RaiseError.{RaiseError}
use Rattle.profile_toml.specs.Reading.{script_of_bytes}
use Rattle.profile_toml.specs.declared.fault.ProfileFault.{ProfileFault}
use Rattle.publisher.specs.Beginnings.{StartsWith}
use Rattle.publisher.specs.Publishing.{Publishes}
use Rattle.publisher.specs.declared.fault.PublishError.{PublishError}
use Rattle.service_desks.specs.Following.{Follows, GivesWay, AdoptsLate, StopsEarly, StopsShort, Adopts, AdoptsAs, settled_state}
use Rattle.service_desks.specs.Operators.{IsCall}
use Rattle.service_desks.specs.Raises.{Funds, IsReplyToRaise, RaisesBy, left_by as raise_left_by, raise_of}
use Rattle.service_desks.specs.Scripts.{IsScriptReply, Performs, left_by}
use Rattle.service_desks.specs.States.{Publication, State, Store, earlier_in, publication_of, settled}
use Rattle.omaha_histories.specs.Laws.{AddsOne, CrashesLoseNothing, GoesAhead, PublishedEditionsStay, found_in}
use Rattle.omaha_histories.specs.Restarting.{LeadTo}
use Rattle.omaha_histories.proofs.CallLemmas.{after-call, restarts_find_what_was_published}
use Rattle.omaha_histories.proofs.FollowLemmas.{Kept}

StartsWith-same : (history : History) → StartsWith history history
StartsWith-same history = ([], sym (append-nil history))

StartsWith-trans : (last next first : History) → StartsWith last next → StartsWith next first → StartsWith last first
StartsWith-trans last next first (more, is) (rest, was) =
    (rest ++ more, is ∙ ap (λ (h : History). h ++ more) was ∙ append_assoc first rest more)

-- what is due goes on from what is published
unwrap_or-ahead : (history : History) (due : Option History) → ForSome due (λ next. StartsWith next history) →
    StartsWith (unwrap_or due history) history
unwrap_or-ahead history (Some next) ahead = ahead next refl
unwrap_or-ahead history None ahead = StartsWith-same history

-- nothing is due
abbrev IsAbsent : Option History → Type 0
IsAbsent (Some next) = ⊥
IsAbsent None = ⊤

none-ahead : (history : History) → ForSome None (λ next. StartsWith next history)
none-ahead history next is = absurd (subst IsAbsent is tt)

settled-ahead : (before : Publication) → GoesAhead before → StartsWith (settled before).history before.history
settled-ahead before ahead = unwrap_or-ahead before.history before.store.due ahead

-- what a call makes of a publication
record Advances (before after : Publication) : Type 0 where
  ahead : GoesAhead after
  grows : StartsWith after.history before.history
  adds : AddsOne before.store.records after.store.records

Advances-settled : (before after : Publication) → after ≡ settled before → GoesAhead before → Advances before after
Advances-settled before after same ahead = subst (Advances before) (sym same)
    (record { ahead = none-ahead (settled before).history; grows = settled-ahead before ahead; adds = inl refl })

Advances-same : (before after : Publication) → after ≡ before → GoesAhead before → Advances before after
Advances-same before after same ahead = subst (Advances before) (sym same)
    (record { ahead = ahead; grows = StartsWith-same before.history; adds = inl refl })

Advances-outcome : (before after : Publication) (script : List ℕ) (batch : List Edit) (base : ℕ)
    (outcome : Result History PublishError) → Publishes (settled before).history base batch outcome after.history →
    after ≡ left_by (settled before) script outcome → GoesAhead before → Advances before after
Advances-outcome before after script batch base (Ok receipt) published left ahead =
    let next : StartsWith after.history (settled before).history = (batch ∷ [], published.1.2) in
    record {
      ahead = subst GoesAhead (sym left) (none-ahead receipt);
      grows = StartsWith-trans after.history (settled before).history before.history next (settled-ahead before ahead);
      adds = subst (λ (p : Publication). AddsOne before.store.records p.store.records) (sym left)
          (inr (record_of kind.Script script, refl));
    }
Advances-outcome before after script batch base (Err error) published left ahead = Advances-settled before after left ahead

Advances-reply : (before after : Publication) (script : List ℕ) (read : Result (ℕ × List Edit) ProfileFault)
    (reply : DeskStatus × List ℕ) → IsScriptReply (settled before) script read reply after → GoesAhead before →
    Advances before after
Advances-reply before after script (Ok read) reply (inl done) ahead =
    Advances-outcome before after script read.1 (read.0 - earlier_in before.store) done.outcome done.published done.left ahead
Advances-reply before after script (Ok read) reply (inr (unkept, same)) ahead = Advances-settled before after same ahead
Advances-reply before after script (Err error) reply rejected ahead = Advances-settled before after rejected.1 ahead

Advances-script : (before after : Publication) (body : List ℕ) (answer : Result (DeskStatus × List ℕ) Off) →
    Performs before body answer after → GoesAhead before → Advances before after
Advances-script before after body (Ok reply) performs ahead =
    Advances-reply before after body (script_of_bytes body) reply performs ahead
Advances-script before after body (Err off.Memory) (inl same) ahead = Advances-same before after same ahead
Advances-script before after body (Err off.Memory) (inr (inl same)) ahead = Advances-settled before after same ahead
Advances-script before after body (Err off.Memory) (inr (inr due)) ahead = subst (Advances before) (sym due.left)
    (record {
      ahead = λ later is. subst (λ (h : History). StartsWith h (settled before).history) (same_Some due.next later is)
          (due.batch ∷ [], due.prepared.1.2);
      grows = settled-ahead before ahead;
      adds = inr (record_of kind.Script body, refl);
    })
Advances-script before after body (Err off.Closed) same ahead = Advances-settled before after same ahead

-- what a raise makes of what is kept
abbrev AddsRaise : Store → Store → Type 0
AddsRaise old new = (new.due ≡ old.due) × AddsOne old.records new.records

AddsRaise-outcome : (old new : Store) (body : List ℕ) (outcome : Result (Unit {0}) RaiseError) →
    new ≡ raise_left_by old body outcome → AddsRaise old new
AddsRaise-outcome old new body (Ok tt) left = subst (AddsRaise old) (sym left) (refl, inr (record_of kind.Raise body, refl))
AddsRaise-outcome old new body (Err error) left = subst (AddsRaise old) (sym left) (refl, inl refl)

AddsRaise-same : (old new : Funds) → new ≡ old → AddsRaise old.1 new.1
AddsRaise-same old new same = subst (λ (f : Funds). AddsRaise old.1 f.1) (sym same) (refl, inl refl)

AddsRaise-reply : (old new : Funds) (body : List ℕ) (asked : Option (List ℕ × List ℕ)) (reply : DeskStatus × List ℕ) →
    IsReplyToRaise old new body asked reply → AddsRaise old.1 new.1
AddsRaise-reply old new body (Some asked) reply (inl done) = AddsRaise-outcome old.1 new.1 body done.outcome done.left
AddsRaise-reply old new body (Some asked) reply (inr (unkept, same)) = AddsRaise-same old new same
AddsRaise-reply old new body None reply none = AddsRaise-same old new none.1

AddsRaise-by : (old new : Funds) (body : List ℕ) (answer : Result (DeskStatus × List ℕ) Off) → RaisesBy old new body answer →
    AddsRaise old.1 new.1
AddsRaise-by old new body (Ok reply) raises = AddsRaise-reply old new body (raise_of body) reply raises
AddsRaise-by old new body (Err off.Memory) same = AddsRaise-same old new same
AddsRaise-by old new body (Err off.Closed) same = AddsRaise-same old new same

Advances-raise : (before after : State) → AddsRaise before.store after.store → after.history ≡ before.history →
    GoesAhead (publication_of before) → Advances (publication_of before) (publication_of after)
Advances-raise before after (due, adds) same ahead = record {
  ahead = subst (λ (h : History). ForSome after.store.due (λ next. StartsWith next h)) (sym same)
      (subst (λ (d : Option History). ForSome d (λ next. StartsWith next before.history)) (sym due) ahead);
  grows = subst (λ (h : History). StartsWith h before.history) (sym same) (StartsWith-same before.history);
  adds = adds;
}

-- what a record of another server makes of a publication
Advances-taken_as : (before after : State) (kind : Kind) (bytes : List ℕ) → AdoptsAs kind bytes (settled_state before) after →
    GoesAhead (publication_of before) → Advances (publication_of before) (publication_of after)
Advances-taken_as before after kind.Profile bytes never ahead = absurd never
Advances-taken_as before after kind.Script bytes (next, (base, batch, read, continues), left) ahead =
    let history = (settled_state before).history in
    let more : StartsWith next history = (batch ∷ [], continues.2) in
    subst (λ (s : State). Advances (publication_of before) (publication_of s)) (sym left)
    (record {
      ahead = none-ahead next;
      grows = StartsWith-trans next history before.history more (settled-ahead (publication_of before) ahead);
      adds = inr (record_of kind.Script bytes, refl);
    })
Advances-taken_as before after kind.Raise bytes (raised, history, store) ahead =
    subst (Advances (publication_of before))
    (sym (ap₂ (λ (h : History) (s : Store). record { history = h; store = s }) history store))
    (record {
      ahead = none-ahead (settled_state before).history;
      grows = settled-ahead (publication_of before) ahead;
      adds = inr (record_of kind.Raise bytes, refl);
    })

Advances-taken : (before after : State) → Adopts (settled_state before) after → GoesAhead (publication_of before) →
    Advances (publication_of before) (publication_of after)
Advances-taken before after adopted ahead =
    Advances-taken_as before after adopted.entry.kind adopted.entry.bytes adopted.adopts ahead

Advances-late : (before after : State) → AdoptsLate (settled_state before) after → GoesAhead (publication_of before) →
    Advances (publication_of before) (publication_of after)
Advances-late before after is ahead =
    let history = (settled_state before).history in
    let (base, batch, read, continues) = is.follows in
    subst (λ (s : State). Advances (publication_of before) (publication_of s)) (sym is.left)
    (record {
      ahead = λ later due. subst (λ (h : History). StartsWith h history) (same_Some is.next later due)
          (batch ∷ [], continues.2);
      grows = settled-ahead (publication_of before) ahead;
      adds = inr (record_of kind.Script is.script, refl);
    })

Advances-between : (before after : State) → after ≡ settled_state before → GoesAhead (publication_of before) →
    Advances (publication_of before) (publication_of after)
Advances-between before after same ahead =
    Advances-settled (publication_of before) (publication_of after) (ap publication_of same) ahead

Advances-short : (before after : State) (off : Off) → StopsShort (settled_state before) off after →
    GoesAhead (publication_of before) → Advances (publication_of before) (publication_of after)
Advances-short before after off.Memory (inl same) ahead = Advances-between before after same ahead
Advances-short before after off.Memory (inr (inl is)) ahead = Advances-late before after is ahead
Advances-short before after off.Memory (inr (inr adopted)) ahead = Advances-taken before after adopted ahead
Advances-short before after off.Closed same ahead = Advances-between before after same ahead

Advances-early : (before after : State) (off : Off) → StopsEarly before off after → GoesAhead (publication_of before) →
    Advances (publication_of before) (publication_of after)
Advances-early before after off.Memory (inl same) ahead =
    Advances-same (publication_of before) (publication_of after) (ap publication_of same) ahead
Advances-early before after off.Memory (inr stops) ahead = Advances-short before after off.Memory stops ahead
Advances-early before after off.Closed stops ahead = Advances-short before after off.Closed stops ahead

Advances-follow : (before after : State) (answer : Result (DeskStatus × List ℕ) Off) → Follows before answer after →
    GoesAhead (publication_of before) → Advances (publication_of before) (publication_of after)
Advances-follow before after (Ok reply) (inl (adopted, is)) ahead = Advances-taken before after adopted ahead
Advances-follow before after (Ok reply) (inr (inl (same, is))) ahead = Advances-between before after same ahead
Advances-follow before after (Ok reply) (inr (inr (same, is))) ahead = Advances-between before after same ahead
Advances-follow before after (Err off) stops ahead = Advances-early before after off stops ahead

Advances-way : (before after : State) (answer : Result (DeskStatus × List ℕ) Off) → GivesWay before answer after →
    GoesAhead (publication_of before) → Advances (publication_of before) (publication_of after)
Advances-way before after (Ok reply) (inl (adopted, is)) ahead = Advances-taken before after adopted ahead
Advances-way before after (Ok reply) (inr (same, is)) ahead = Advances-between before after same ahead
Advances-way before after (Err off) stops ahead = Advances-early before after off stops ahead

Advances-call : (before after : State) (call : Call) → IsCall before call after → GoesAhead (publication_of before) →
    Advances (publication_of before) (publication_of after)
Advances-call before after (Looks name found) looked ahead =
    Advances-same (publication_of before) (publication_of after) (ap publication_of looked.1) ahead
Advances-call before after (Shows at page) shown ahead =
    Advances-same (publication_of before) (publication_of after) (ap publication_of shown.1) ahead
Advances-call before after (Asks body moment answer) (inl (word, dumps, same)) ahead =
    Advances-same (publication_of before) (publication_of after) (ap publication_of same) ahead
Advances-call before after (Asks body moment answer) (inr (inl (word, follows))) ahead =
    Advances-follow before after answer follows ahead
Advances-call before after (Asks body moment answer) (inr (inr (inl (word, inr way)))) ahead =
    Advances-way before after answer way ahead
Advances-call before after (Asks body moment answer) (inr (inr (inr (dump, follow, raise, inr way)))) ahead =
    Advances-way before after answer way ahead
Advances-call before after (Asks body moment answer) (inr (inr (inl (word, inl (raises, same))))) ahead =
    Advances-raise before after (AddsRaise-by (before.mirrors, before.store) (after.mirrors, after.store) body answer raises)
    same ahead
Advances-call before after (Asks body moment answer) (inr (inr (inr (dump, follow, raise, inl (performs, same))))) ahead =
    Advances-script (publication_of before) (publication_of after) body answer performs ahead

pub published_editions_stay : PublishedEditionsStay
published_editions_stay before after [] ahead same = subst
    (λ (s : State). GoesAhead (publication_of s) × StartsWith (found_in s).history before.history) (sym same)
    (ahead, settled-ahead (publication_of before) ahead)
published_editions_stay before after (call ∷ calls) ahead (next, called, rest) =
    let step = Advances-call before next call called ahead in
    let (later, stays) = published_editions_stay next after calls step.ahead rest in
    (later, StartsWith-trans (found_in after).history next.history before.history stays step.grows)

pub crashes_lose_nothing : CrashesLoseNothing
crashes_lose_nothing start before after calls cut left leads ahead called cuts (inl same) =
    let kept : Kept before = restarts_find_what_was_published start before calls leads called in
    let (goes, stays) = published_editions_stay start before calls ahead called in
    record {
      found = found_in before;
      led = subst (λ (r : List Record). LeadTo r (found_in before)) (sym same) kept;
      which = inl refl;
      stays = settled-ahead (publication_of before) goes;
      more = inl same;
    }
crashes_lose_nothing start before after calls cut left leads ahead called cuts (inr same) =
    let kept : Kept before = restarts_find_what_was_published start before calls leads called in
    let (goes, stays) = published_editions_stay start before calls ahead called in
    let step = Advances-call before after cut cuts goes in
    record {
      found = found_in after;
      led = subst (λ (r : List Record). LeadTo r (found_in after)) (sym same) (after-call before after cut cuts kept);
      which = inr refl;
      stays = StartsWith-trans (found_in after).history after.history before.history
          (settled-ahead (publication_of after) step.ahead) step.grows;
      more = subst (AddsOne before.store.records) (sym same) step.adds;
    }
