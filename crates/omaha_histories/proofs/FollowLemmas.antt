-- What the records lead to of a desk that took over records of other servers.
use Rattle.std.proofs.Common.{List, ◌∷◌, [], ◌++◌, inl, inr, refl, subst, sym, unwrap_or, ℕ, Result, Ok, Err}
use Rattle.catalogue.specs.Histories.{History}
use Rattle.http_desks.specs.declared.desk.DeskStatus.{DeskStatus}
use Rattle.http_desks.specs.declared.desk.Off.{Off}
use Rattle.http_desks.specs.declared.desk.Off.TheVariants as off
use Rattle.kept_records.specs.Keeping.{record_of}
use Rattle.kept_records.specs.declared.record.Kind.{Kind}
use Rattle.kept_records.specs.declared.record.Kind.TheVariants as kind
use Rattle.service_desks.specs.Following.{Follows, GivesWay, AdoptsLate, StopsEarly, StopsShort, Adopts, AdoptsAs, settled_state}
use Rattle.service_desks.specs.States.{State, Store}
use Rattle.omaha_histories.specs.Laws.{found_in}
use Rattle.omaha_histories.specs.Restarting.{LeadTo}
use Rattle.omaha_histories.proofs.LeadLemmas.{LeadTo-more}

-- the records lead to what is published, or due, and to the present budgets
abbrev pub Kept : State → Type 0
Kept state = LeadTo state.store.records (found_in state)

taken-as : (before after : State) (kind : Kind) (bytes : List ℕ) → AdoptsAs kind bytes (settled_state before) after →
    Kept before → Kept after
taken-as before after kind.Profile bytes never leads = absurd never
taken-as before after kind.Script bytes (next, (base, batch, read, continues), left) leads =
    subst Kept (sym left)
    (LeadTo-more before.store.records (found_in before) (record { history = next; mirrors = before.mirrors })
    (record_of kind.Script bytes) leads (base, batch, read, continues, refl))
taken-as before after kind.Raise bytes ((asked, is, raised), history, store) leads =
    subst (λ (s : Store). LeadTo s.records (record { history = unwrap_or s.due after.history; mirrors = after.mirrors })) (sym store)
    (subst (λ (h : History). LeadTo (before.store.records ++ record_of kind.Raise bytes ∷ []) (record { history = h; mirrors = after.mirrors }))
    (sym history)
    (LeadTo-more before.store.records (found_in before)
    (record { history = (settled_state before).history; mirrors = after.mirrors })
    (record_of kind.Raise bytes) leads (asked, is, raised, refl)))

taken : (before after : State) → Adopts (settled_state before) after → Kept before → Kept after
taken before after adopted leads = taken-as before after adopted.entry.kind adopted.entry.bytes adopted.adopts leads

late : (before after : State) → AdoptsLate (settled_state before) after → Kept before → Kept after
late before after is leads =
    let (base, batch, read, continues) = is.follows in
    subst Kept (sym is.left)
    (LeadTo-more before.store.records (found_in before) (record { history = is.next; mirrors = before.mirrors })
    (record_of kind.Script is.script) leads (base, batch, read, continues, refl))

short : (before after : State) (off : Off) → StopsShort (settled_state before) off after → Kept before → Kept after
short before after off.Memory (inl same) leads = subst Kept (sym same) leads
short before after off.Memory (inr (inl is)) leads = late before after is leads
short before after off.Memory (inr (inr adopted)) leads = taken before after adopted leads
short before after off.Closed same leads = subst Kept (sym same) leads

early : (before after : State) (off : Off) → StopsEarly before off after → Kept before → Kept after
early before after off.Memory (inl same) leads = subst Kept (sym same) leads
early before after off.Memory (inr stops) leads = short before after off.Memory stops leads
early before after off.Closed stops leads = short before after off.Closed stops leads

pub after-following : (before after : State) (answer : Result (DeskStatus × List ℕ) Off) → Follows before answer after →
    Kept before → Kept after
after-following before after (Ok reply) (inl (adopted, is)) leads = taken before after adopted leads
after-following before after (Ok reply) (inr (inl (same, is))) leads = subst Kept (sym same) leads
after-following before after (Ok reply) (inr (inr (same, is))) leads = subst Kept (sym same) leads
after-following before after (Err off) stops leads = early before after off stops leads

pub after-giving_way : (before after : State) (answer : Result (DeskStatus × List ℕ) Off) → GivesWay before answer after →
    Kept before → Kept after
after-giving_way before after (Ok reply) (inl (adopted, is)) leads = taken before after adopted leads
after-giving_way before after (Ok reply) (inr (same, is)) leads = subst Kept (sym same) leads
after-giving_way before after (Err off) stops leads = early before after off stops leads
