-- The calls of an operator's desk as events.
use Rattle.std.proofs.Common.{◌≡◌, ◌⊎◌, ◌∙◌, ℕ, suc, ◌+◌, ◌-◌, ◌≤◌, true, All, IfSome, option_to_list, unwrap_or, List, [], ◌∷◌, cond, length, nat_lt, not, Option, Some, None, Result, Ok, Err, inl, inr, ap, ap₂, arith, refl, subst, sym}
use Rattle.std.specs.List.{AllByRecursion, position, position_or_len}
use Rattle.std.specs.Str.{bytes_eq}
use Rattle.std.specs.Str.Parse.{digits_value}
use Rattle.std.proofs.lemmas.List.Elements.{All-from_recursion}
use Rattle.catalogue.specs.declared.edit.Edit.{Edit}
use Rattle.catalogue.specs.Histories.{History}
use Rattle.http_desks.specs.Calls.{Asks, Call, Looks, Shows}
use Rattle.http_desks.specs.declared.desk.DeskStatus.{DeskStatus}
use Rattle.http_desks.specs.declared.desk.Off.{Off}
use Rattle.http_desks.specs.declared.desk.Off.TheVariants as off
use Rattle.kept_records.specs.declared.record.Kind.{Kind}
use Rattle.kept_records.specs.declared.record.Kind.TheVariants as kind
use Rattle.mirror_books.specs.Budgets.{Account}
use Rattle.mirror_ledger.specs.Named.{budget_at}
use Rattle.mirror_ledger.specs.Raising.{RaisesTo, has_name, raise_at}
use Rattle.mirror_ledger.specs.declared.raise_error.RaiseError.{RaiseError}
use Rattle.mirror_ledger.specs.declared.raise_error.RaiseError.TheVariants as fault
use Rattle.profile_toml.specs.Reading.{script_of_bytes}
use Rattle.profile_toml.specs.declared.fault.ProfileFault.{ProfileFault}
use Rattle.catalogue.specs.declared.mirror.Mirror.{Mirror}
use Rattle.editions.specs.Editions.{Continues}
use Rattle.publisher.specs.declared.fault.PublishError.{PublishError}
use Rattle.service_desks.specs.Following.{Follows, GivesWay, AdoptsLate, StopsEarly, StopsShort, Adopts, AdoptsAs, settled_state}
use Rattle.service_desks.specs.Operators.{IsCall, IsPerformed, IsRaised as ComesToRaise}
use Rattle.service_desks.specs.Raises.{Funds, IsReplyToRaise, RaisesBy, left_by as raise_left_by, raise_of}
use Rattle.service_desks.specs.Scripts.{IsAhead, IsScriptReply, Performs, left_by}
use Rattle.service_desks.specs.States.{Publication, State, Store, earlier_in, publication_of, settled}
use Rattle.theorems.specs.Events.{Event, Publish, Raise, happens, run}
use Rattle.theorems.specs.Services.{Service, present, published, with_budgets_of}
use Rattle.theorems.specs.Ties.{IsDueAfter, IsOperatorStep, OperatorCallsAreEvents, RaisesByNameAreEvents, is_of_operator, state_of}
use Rattle.theorems.proofs.PresentLemmas.{present-lower, present-raised}
use Rattle.theorems.proofs.TieLemmas.{is-published, next_is_published}

-- as many mirrors as before are before the one of a name, with their present budgets
before-present : (name : List ℕ) (books : ℕ → Account) (mirrors : List Mirror) →
    position_or_len (has_name name) (with_budgets_of books mirrors) ≡ position_or_len (has_name name) mirrors
before-present name books [] = refl
before-present name books (mirror ∷ mirrors) =
    ap (λ (n : ℕ). cond (not (bytes_eq name mirror.name)) (1 + n) 0) (before-present name (λ index. books (suc index)) mirrors)

pub length-present : (books : ℕ → Account) (mirrors : List Mirror) →
    length (with_budgets_of books mirrors) ≡ length mirrors
length-present books [] = refl
length-present books (mirror ∷ mirrors) = ap suc (length-present (λ index. books (suc index)) mirrors)

-- so the name is at the same index
position-present : (name : List ℕ) (books : ℕ → Account) (mirrors : List Mirror) →
    position (has_name name) (with_budgets_of books mirrors) ≡ position (has_name name) mirrors
position-present name books mirrors =
    ap₂ (λ (at all : ℕ). cond (nat_lt at all) (Some at) None) (before-present name books mirrors) (length-present books mirrors)

pub raises_by_name_are_events : RaisesByNameAreEvents
raises_by_name_are_events mirrors service new name budget (Ok done) raises =
    let (index, at, few, low, same) = raises in
    (index, sym (position-present name service.books mirrors) ∙ at, same ∙ sym (present-raised service.books mirrors index budget low))
raises_by_name_are_events mirrors service new name budget (Err fault.UnknownMirror) raises = raises.1
raises_by_name_are_events mirrors service new name budget (Err fault.TooHigh) raises =
    let (some, high, same) = raises in same
raises_by_name_are_events mirrors service new name budget (Err (fault.Lower now)) raises =
    let (index, at, few, below, is, same) = raises in (
      index,
      sym (position-present name service.books mirrors) ∙ at,
      is,
      same,
      present-lower service.books mirrors index budget (omega (arith, below, is)) ∙ sym same,
    )

-- what an operator makes of the mirrors, and of the history
abbrev pub MirrorsBy : List Mirror → List Mirror → Type 0
MirrorsBy old new =
    (new ≡ old) ⊎ ((index : ℕ) × (budget : ℕ) × (budget_at old index ≤ budget) × (new ≡ raise_at old index budget))

abbrev HistoryBy : History → History → Type 0
HistoryBy old new = (new ≡ old) ⊎ ((known : ℕ) × (batch : List Edit) × (new ≡ published old known batch))

-- what was due was published first, if something was and could be
abbrev SettlesBy : Option History → History → History → Type 0
SettlesBy due old new = (new ≡ old) ⊎ ((batch : List Edit) × (due ≡ Some new) × (new ≡ published old (length old) batch))

pub mirrors-raise : (old new : List Mirror) (name : List ℕ) (budget : ℕ) (result : Result (Unit {0}) RaiseError) →
    RaisesTo old new name budget result → MirrorsBy old new
mirrors-raise old new name budget (Ok done) raises =
    let (index, at, few, low, same) = raises in inr (index, budget, low, same)
mirrors-raise old new name budget (Err fault.UnknownMirror) raises = inl raises.1
mirrors-raise old new name budget (Err fault.TooHigh) raises =
    let (some, high, same) = raises in inl same
mirrors-raise old new name budget (Err (fault.Lower now)) raises =
    let (index, at, few, below, is, same) = raises in inl same

mirrors-reply : (old new : Funds) (body : List ℕ) (asked : Option (List ℕ × List ℕ)) (reply : DeskStatus × List ℕ) →
    IsReplyToRaise old new body asked reply → MirrorsBy old.0 new.0
mirrors-reply old new body (Some asked) reply (inl raised) =
    mirrors-raise old.0 new.0 asked.0 (digits_value 10 asked.1) raised.outcome raised.raised
mirrors-reply old new body (Some asked) reply (inr (unkept, same)) = inl (ap (λ (f : Funds). f.0) same)
mirrors-reply old new body None reply none = inl (ap (λ (f : Funds). f.0) none.1)

pub mirrors-raising : (old new : Funds) (body : List ℕ) (answer : Result (DeskStatus × List ℕ) Off) →
    RaisesBy old new body answer → MirrorsBy old.0 new.0
mirrors-raising old new body (Ok reply) raises = mirrors-reply old new body (raise_of body) reply raises
mirrors-raising old new body (Err off.Memory) same = inl (ap (λ (f : Funds). f.0) same)
mirrors-raising old new body (Err off.Closed) same = inl (ap (λ (f : Funds). f.0) same)

-- a raise leaves what is due
due-left : (store : Store) (raise : List ℕ) (outcome : Result (Unit {0}) RaiseError) →
    (raise_left_by store raise outcome).due ≡ store.due
due-left store raise (Ok done) = refl
due-left store raise (Err refused) = refl

due-reply : (old new : Funds) (body : List ℕ) (asked : Option (List ℕ × List ℕ)) (reply : DeskStatus × List ℕ) →
    IsReplyToRaise old new body asked reply → new.1.due ≡ old.1.due
due-reply old new body (Some asked) reply (inl raised) =
    ap (λ (s : Store). s.due) raised.left ∙ due-left old.1 body raised.outcome
due-reply old new body (Some asked) reply (inr (unkept, same)) = ap (λ (f : Funds). f.1.due) same
due-reply old new body None reply none = ap (λ (f : Funds). f.1.due) none.1

due-raising : (old new : Funds) (body : List ℕ) (answer : Result (DeskStatus × List ℕ) Off) →
    RaisesBy old new body answer → new.1.due ≡ old.1.due
due-raising old new body (Ok reply) raises = due-reply old new body (raise_of body) reply raises
due-raising old new body (Err off.Memory) same = ap (λ (f : Funds). f.1.due) same
due-raising old new body (Err off.Closed) same = ap (λ (f : Funds). f.1.due) same

-- what is due, after a history
abbrev DueAfter : History → Option History → Type 0
DueAfter history due = IfSome due (λ next. (batch : List Edit) × Continues history batch (Ok next))

-- a publication comes from another one by one publish, and what is then due follows
record IsPublishing (before after : Publication) : Type 0 where
  by : HistoryBy before.history after.history
  due : DueAfter after.history after.store.due

publishing-same : (before after : Publication) → before.store.due ≡ None → after ≡ before → IsPublishing before after
publishing-same before after none same = record {
  by = inl (ap (λ (p : Publication). p.history) same);
  due = subst (DueAfter after.history) (sym (ap (λ (p : Publication). p.store.due) same ∙ none)) tt;
}

due-left-by : (before : Publication) (script : List ℕ) (outcome : Result History PublishError) → before.store.due ≡ None →
    (left_by before script outcome).store.due ≡ None
due-left-by before script (Ok receipt) none = refl
due-left-by before script (Err error) none = none

publishing-reply : (before : Publication) (input : List ℕ) (script : Result (ℕ × List Edit) ProfileFault)
    (reply : DeskStatus × List ℕ) (after : Publication) → before.store.due ≡ None →
    IsScriptReply before input script reply after → IsPublishing before after
publishing-reply before input (Ok script) reply after none (inr (unkept, same)) = publishing-same before after none same
publishing-reply before input (Ok script) reply after none (inl done) = record {
  by = inr (script.0 - earlier_in before.store, script.1, is-published before input script.0 script.1 reply after done);
  due = subst (DueAfter after.history)
      (sym (ap (λ (p : Publication). p.store.due) done.left ∙ due-left-by before input done.outcome none)) tt;
}
publishing-reply before input (Err error) reply after none rejected = publishing-same before after none rejected.1

publishing-ahead : (before : Publication) (input : List ℕ) (after : Publication) → IsAhead before input after →
    IsPublishing before after
publishing-ahead before input after ahead = record {
  by = inl (ap (λ (p : Publication). p.history) ahead.left);
  due = subst (λ (p : Publication). DueAfter p.history p.store.due) (sym ahead.left) (ahead.batch, ahead.prepared.1);
}

-- what is settled comes by the publish of what is due
settles : (history : History) (due : Option History) → DueAfter history due → SettlesBy due history (unwrap_or due history)
settles history None follows = inl refl
settles history (Some next) (batch, continues) = inr (batch, refl, sym (next_is_published history batch next continues))

-- one publication comes from another by a script
record ChangesPublication (before after : Publication) : Type 0 where
  between : History
  settled_by : SettlesBy before.store.due before.history between
  by : HistoryBy between after.history
  due : DueAfter after.history after.store.due

through-settled : (before after : Publication) → DueAfter before.history before.store.due →
    IsPublishing (settled before) after → ChangesPublication before after
through-settled before after follows publishing = record {
  between = unwrap_or before.store.due before.history;
  settled_by = settles before.history before.store.due follows;
  by = publishing.by;
  due = publishing.due;
}

unchanged : (before after : Publication) → DueAfter before.history before.store.due → after ≡ before →
    ChangesPublication before after
unchanged before after follows same = record {
  between = before.history;
  settled_by = inl refl;
  by = inl (ap (λ (p : Publication). p.history) same);
  due = subst (λ (p : Publication). DueAfter p.history p.store.due) (sym same) follows;
}

changes-script : (before after : Publication) (body : List ℕ) (answer : Result (DeskStatus × List ℕ) Off) →
    DueAfter before.history before.store.due → Performs before body answer after → ChangesPublication before after
changes-script before after body (Ok reply) follows performs =
    through-settled before after follows (publishing-reply (settled before) body (script_of_bytes body) reply after refl performs)
changes-script before after body (Err off.Memory) follows (inl same) = unchanged before after follows same
changes-script before after body (Err off.Memory) follows (inr (inl same)) =
    through-settled before after follows (publishing-same (settled before) after refl same)
changes-script before after body (Err off.Memory) follows (inr (inr ahead)) =
    through-settled before after follows (publishing-ahead (settled before) body after ahead)
changes-script before after body (Err off.Closed) follows same =
    through-settled before after follows (publishing-same (settled before) after refl same)

-- the mirrors changed, or the history
abbrev ChangesBy : State → State → Type 0
ChangesBy before after =
    ((after.history ≡ before.history) × MirrorsBy before.mirrors after.mirrors)
    ⊎ ((after.mirrors ≡ before.mirrors)
    × ((between : History) × SettlesBy before.store.due before.history between × HistoryBy between after.history))

-- what was due was published, and then the mirrors changed
abbrev ChangesBoth : State → State → Type 0
ChangesBoth before after =
    SettlesBy before.store.due before.history after.history × MirrorsBy before.mirrors after.mirrors

-- what a call made of a state, and what is then due
record CallsOn (before after : State) : Type 0 where
  by : ChangesBy before after ⊎ ChangesBoth before after
  follows : IsDueAfter after.history after.store

calls-same : (before after : State) → IsDueAfter before.history before.store → after ≡ before → CallsOn before after
calls-same before after follows same = record {
  by = inl (inl (ap (λ (s : State). s.history) same, inl (ap (λ (s : State). s.mirrors) same)));
  follows = subst (λ (s : State). IsDueAfter s.history s.store) (sym same) follows;
}

calls-settled : (before after : State) → IsDueAfter before.history before.store → after ≡ settled_state before →
    CallsOn before after
calls-settled before after follows same = record {
  by = inl (inr (
    ap (λ (s : State). s.mirrors) same,
    (
      (settled_state before).history,
      settles before.history before.store.due follows,
      inl (ap (λ (s : State). s.history) same),
    ),
  ));
  follows = subst (λ (s : State). IsDueAfter s.history s.store) (sym same) tt;
}

-- a record of another server is adopted
calls-taken_as : (before after : State) (kind : Kind) (bytes : List ℕ) → IsDueAfter before.history before.store →
    AdoptsAs kind bytes (settled_state before) after → CallsOn before after
calls-taken_as before after kind.Profile bytes follows never = absurd never
calls-taken_as before after kind.Script bytes follows (next, (base, batch, read, continues), left) =
    let history = (settled_state before).history in
    record {
      by = inl (inr (
        ap (λ (s : State). s.mirrors) left,
        (
          history,
          settles before.history before.store.due follows,
          inr (
            length history,
            batch,
            ap (λ (s : State). s.history) left ∙ sym (next_is_published history batch next continues),
          ),
        ),
      ));
      follows = subst (λ (s : State). IsDueAfter s.history s.store) (sym left) tt;
    }
calls-taken_as before after kind.Raise bytes follows ((asked, is, raised), history, store) = record {
  by = inr (
    subst (SettlesBy before.store.due before.history) (sym history) (settles before.history before.store.due follows),
    mirrors-raise before.mirrors after.mirrors asked.0 (digits_value 10 asked.1) (Ok tt) raised,
  );
  follows = subst (DueAfter after.history) (sym (ap (λ (s : Store). s.due) store)) tt;
}

calls-taken : (before after : State) → IsDueAfter before.history before.store → Adopts (settled_state before) after →
    CallsOn before after
calls-taken before after follows adopted =
    calls-taken_as before after adopted.entry.kind adopted.entry.bytes follows adopted.adopts

calls-late : (before after : State) → IsDueAfter before.history before.store → AdoptsLate (settled_state before) after →
    CallsOn before after
calls-late before after follows is =
    let (base, batch, read, continues) = is.follows in
    record {
      by = inl (inr (
        ap (λ (s : State). s.mirrors) is.left,
        (
          (settled_state before).history,
          settles before.history before.store.due follows,
          inl (ap (λ (s : State). s.history) is.left),
        ),
      ));
      follows = subst (λ (s : State). IsDueAfter s.history s.store) (sym is.left) (batch, continues);
    }

calls-short : (before after : State) (off : Off) → IsDueAfter before.history before.store →
    StopsShort (settled_state before) off after → CallsOn before after
calls-short before after off.Memory follows (inl same) = calls-settled before after follows same
calls-short before after off.Memory follows (inr (inl is)) = calls-late before after follows is
calls-short before after off.Memory follows (inr (inr adopted)) = calls-taken before after follows adopted
calls-short before after off.Closed follows same = calls-settled before after follows same

calls-early : (before after : State) (off : Off) → IsDueAfter before.history before.store → StopsEarly before off after →
    CallsOn before after
calls-early before after off.Memory follows (inl same) = calls-same before after follows same
calls-early before after off.Memory follows (inr stops) = calls-short before after off.Memory follows stops
calls-early before after off.Closed follows stops = calls-short before after off.Closed follows stops

calls-follow : (before after : State) (answer : Result (DeskStatus × List ℕ) Off) → IsDueAfter before.history before.store →
    Follows before answer after → CallsOn before after
calls-follow before after (Ok reply) follows (inl (adopted, is)) = calls-taken before after follows adopted
calls-follow before after (Ok reply) follows (inr (inl (same, is))) = calls-settled before after follows same
calls-follow before after (Ok reply) follows (inr (inr (same, is))) = calls-settled before after follows same
calls-follow before after (Err off) follows stops = calls-early before after off follows stops

calls-way : (before after : State) (answer : Result (DeskStatus × List ℕ) Off) → IsDueAfter before.history before.store →
    GivesWay before answer after → CallsOn before after
calls-way before after (Ok reply) follows (inl (adopted, is)) = calls-taken before after follows adopted
calls-way before after (Ok reply) follows (inr (same, is)) = calls-settled before after follows same
calls-way before after (Err off) follows stops = calls-early before after off follows stops

calls-raise : (before after : State) (body : List ℕ) (answer : Result (DeskStatus × List ℕ) Off) →
    IsDueAfter before.history before.store → ComesToRaise before body answer after → CallsOn before after
calls-raise before after body answer follows (inl (raises, same)) =
    let due = due-raising (before.mirrors, before.store) (after.mirrors, after.store) body answer raises in
    record {
      by = inl (inl (same, mirrors-raising (before.mirrors, before.store) (after.mirrors, after.store) body answer raises));
      follows = subst (λ (h : History). DueAfter h after.store.due) (sym same)
          (subst (DueAfter before.history) (sym due) follows);
    }
calls-raise before after body answer follows (inr way) = calls-way before after answer follows way

calls-script : (before after : State) (body : List ℕ) (answer : Result (DeskStatus × List ℕ) Off) →
    IsDueAfter before.history before.store → IsPerformed before body answer after → CallsOn before after
calls-script before after body answer follows (inl (performs, same)) =
    let changes = changes-script (publication_of before) (publication_of after) body answer follows performs in
    record {
      by = inl (inr (same, (changes.between, changes.settled_by, changes.by)));
      follows = changes.due;
    }
calls-script before after body answer follows (inr way) = calls-way before after answer follows way

calls-on : (before after : State) (call : Call) → IsDueAfter before.history before.store → IsCall before call after →
    CallsOn before after
calls-on before after (Looks name found) follows looked = calls-same before after follows looked.1
calls-on before after (Shows at page) follows shown = calls-same before after follows shown.1
calls-on before after (Asks body moment answer) follows (inl (word, dumps, same)) = calls-same before after follows same
calls-on before after (Asks body moment answer) follows (inr (inl (word, is))) = calls-follow before after answer follows is
calls-on before after (Asks body moment answer) follows (inr (inr (inl (word, is)))) =
    calls-raise before after body answer follows is
calls-on before after (Asks body moment answer) follows (inr (inr (inr (dump, follow, raise, is)))) =
    calls-script before after body answer follows is

same-state : (one other : State) → one.mirrors ≡ other.mirrors → one.history ≡ other.history → one.store ≡ other.store →
    one ≡ other
same-state one other mirrors history store =
    ap₂ (λ (m : List Mirror) (h : History). record { mirrors = m; history = h; store = one.store }) mirrors history
    ∙ ap (λ (s : Store). record { mirrors = other.mirrors; history = other.history; store = s }) store

own : (event : Event) (events : List Event) → is_of_operator event ≡ true → AllByRecursion (λ (e : Event). is_of_operator e ≡ true) events →
    All (λ (e : Event). is_of_operator e ≡ true) (event ∷ events)
own event events is others = All-from_recursion (λ (e : Event). is_of_operator e ≡ true) (event ∷ events) (is, others)

none : All (λ (e : Event). is_of_operator e ≡ true) []
none = All-from_recursion (λ (e : Event). is_of_operator e ≡ true) [] tt

-- the events of two histories, one after the other, if any
record HasEvents (mirrors : List Mirror) (service : Service) (due : Option History) (left : History) : Type 0 where
  events : List Event
  few : length events ≤ 1 + length (option_to_list due)
  own : All (λ event. is_of_operator event ≡ true) events
  mirrors_same : present mirrors (run happens mirrors service events) ≡ present mirrors service
  leaves : (run happens mirrors service events).history ≡ left

one-of : (due : Option History) (next : History) → due ≡ Some next → length (option_to_list due) ≡ 1
one-of due next some = ap (λ (d : Option History). length (option_to_list d)) some

publishes : (mirrors : List Mirror) (service : Service) (due : Option History) (between left : History) →
    SettlesBy due service.history between → HistoryBy between left → HasEvents mirrors service due left
publishes mirrors service due between left (inl same) (inl last) =
    record { events = []; few = omega arith; own = none; mirrors_same = refl; leaves = sym (last ∙ same) }
publishes mirrors service due between left (inl same) (inr (known, batch, last)) =
    record {
      events = Publish known batch ∷ [];
      few = omega arith;
      own = own (Publish known batch) [] refl tt;
      mirrors_same = refl;
      leaves = sym (last ∙ ap (λ (h : History). published h known batch) same);
    }
publishes mirrors service due between left (inr (first, some, shown)) (inl last) =
    record {
      events = Publish (length service.history) first ∷ [];
      few = omega arith;
      own = own (Publish (length service.history) first) [] refl tt;
      mirrors_same = refl;
      leaves = sym (last ∙ shown);
    }
publishes mirrors service due between left (inr (first, some, shown)) (inr (known, batch, last)) =
    record {
      events = Publish (length service.history) first ∷ Publish known batch ∷ [];
      few = omega (arith, one-of due between some);
      own = own (Publish (length service.history) first) (Publish known batch ∷ []) refl (refl, tt);
      mirrors_same = refl;
      leaves = sym (last ∙ ap (λ (h : History). published h known batch) shown);
    }

step-by : (mirrors : List Mirror) (service : Service) (store : Store) (after : State) →
    IsDueAfter after.history after.store → ChangesBy (state_of mirrors service store) after →
    IsOperatorStep mirrors service store.due after
step-by mirrors service store after follows (inl (history, inl same)) =
    record {
      events = [];
      few = omega arith;
      own = none;
      leaves = same-state (state_of mirrors service after.store) after (sym same) (sym history) refl;
      follows = follows;
    }
step-by mirrors service store after follows (inl (history, inr (index, budget, low, raised))) =
    record {
      events = Raise index budget ∷ [];
      few = omega arith;
      own = own (Raise index budget) [] refl tt;
      leaves = same-state (state_of mirrors (happens mirrors service (Raise index budget)) after.store) after
          (present-raised service.books mirrors index budget low ∙ sym raised) (sym history) refl;
      follows = follows;
    }
step-by mirrors service store after follows (inr (same, (between, settles, by))) =
    let has = publishes mirrors service store.due between after.history settles by in
    record {
      events = has.events;
      few = has.few;
      own = has.own;
      leaves = same-state (state_of mirrors (run happens mirrors service has.events) after.store) after
          (has.mirrors_same ∙ sym same) has.leaves refl;
      follows = follows;
    }

-- by a raise after the publish of what was due
step-both : (mirrors : List Mirror) (service : Service) (store : Store) (after : State) →
    IsDueAfter after.history after.store → SettlesBy store.due service.history after.history →
    MirrorsBy (present mirrors service) after.mirrors → IsOperatorStep mirrors service store.due after
step-both mirrors service store after follows (inl same) by = step-by mirrors service store after follows (inl (same, by))
step-both mirrors service store after follows (inr (batch, some, shown)) (inl same) =
    step-by mirrors service store after follows (inr (same, (after.history, inr (batch, some, shown), inl refl)))
step-both mirrors service store after follows (inr (batch, some, shown)) (inr (index, budget, low, raised)) =
    let first : Event = Publish (length service.history) batch in
    let second : Event = Raise index budget in
    record {
      events = first ∷ second ∷ [];
      few = omega (arith, one-of store.due after.history some);
      own = own first (second ∷ []) refl (refl, tt);
      leaves = same-state (state_of mirrors (run happens mirrors service (first ∷ second ∷ [])) after.store) after
          (present-raised service.books mirrors index budget low ∙ sym raised) (sym shown) refl;
      follows = follows;
    }

step-either : (mirrors : List Mirror) (service : Service) (store : Store) (after : State) →
    IsDueAfter after.history after.store →
    ChangesBy (state_of mirrors service store) after ⊎ ChangesBoth (state_of mirrors service store) after →
    IsOperatorStep mirrors service store.due after
step-either mirrors service store after follows (inl changes) = step-by mirrors service store after follows changes
step-either mirrors service store after follows (inr (settles, by)) =
    step-both mirrors service store after follows settles by

pub operator_calls_are_events : OperatorCallsAreEvents
operator_calls_are_events mirrors service store call after follows called =
    let calls = calls-on (state_of mirrors service store) after call follows called in
    step-either mirrors service store after calls.follows calls.by
