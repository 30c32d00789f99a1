-- The calls of an operator's desk, and what its records lead to.
use Rattle.std.proofs.Common.{◌≡◌, ℕ, ◌-◌, List, [], ◌∷◌, ◌++◌, inl, inr, refl, subst, sym, unwrap_or, Option, Some, None, Result, Ok, Err}
use Rattle.std.specs.Str.Parse.{digits_value}
use Rattle.catalogue.specs.declared.edit.Edit.{Edit}
use Rattle.catalogue.specs.Histories.{History}
use Rattle.editions.specs.Editions.{Continues}
use Rattle.http_desks.specs.Calls.{Asks, Call, Looks, Shows}
use Rattle.http_desks.specs.declared.desk.DeskStatus.{DeskStatus}
use Rattle.http_desks.specs.declared.desk.Off.{Off}
use Rattle.http_desks.specs.declared.desk.Off.TheVariants as off
use Rattle.kept_records.specs.Keeping.{record_of}
use Rattle.kept_records.specs.declared.record.Kind.TheVariants as kind
use Rattle.mirror_ledger.specs.Raising.{RaisesTo}
use Rattle.mirror_ledger.specs.declared.raise_error.RaiseError.{RaiseError}
use Rattle.mirror_ledger.specs.declared.raise_error.RaiseError.TheVariants as raising
use Rattle.profile_toml.specs.Reading.{script_of_bytes}
use Rattle.profile_toml.specs.declared.fault.ProfileFault.{ProfileFault}
use Rattle.publisher.specs.Publishing.{Publishes}
use Rattle.publisher.specs.declared.fault.PublishError.{PublishError}
use Rattle.catalogue.specs.declared.mirror.Mirror.{Mirror}
use Rattle.service_desks.specs.Operators.{IsCall}
use Rattle.service_desks.specs.Raises.{Funds, IsReplyToRaise, RaisesBy, left_by as raise_left_by, raise_of}
use Rattle.service_desks.specs.Scripts.{IsScriptReply, Performs, left_by}
use Rattle.service_desks.specs.States.{Publication, State, Store, earlier_in, publication_of, settled}
use Rattle.omaha_histories.specs.Laws.{RestartsFindWhatWasPublished}
use Rattle.omaha_histories.specs.Restarting.{Found, LeadTo}
use Rattle.omaha_histories.proofs.FollowLemmas.{Kept, after-following, after-giving_way}
use Rattle.omaha_histories.proofs.LeadLemmas.{LeadTo-more}

-- what is found in a publication and mirrors
abbrev found_of : List Mirror → Publication → Found
found_of mirrors published = record { history = (settled published).history; mirrors = mirrors }

abbrev Leading : List Mirror → Publication → Type 0
Leading mirrors published = LeadTo published.store.records (found_of mirrors published)

-- a script adds its batch
more-by-script : (mirrors : List Mirror) (before : Publication) (script : List ℕ) (read : ℕ × List Edit) (next : History) →
    script_of_bytes script ≡ Ok read → Continues (settled before).history read.1 (Ok next) → Leading mirrors before →
    LeadTo (before.store.records ++ record_of kind.Script script ∷ []) (record { history = next; mirrors = mirrors })
more-by-script mirrors before script read next is continues leads =
    LeadTo-more before.store.records (found_of mirrors before) (record { history = next; mirrors = mirrors })
    (record_of kind.Script script) leads (read.0, read.1, is, continues, refl)

-- a publish that was replied to
after-outcome : (mirrors : List Mirror) (before after : Publication) (script : List ℕ) (read : ℕ × List Edit) (base : ℕ)
    (outcome : Result History PublishError) → script_of_bytes script ≡ Ok read →
    Publishes (settled before).history base read.1 outcome after.history → after ≡ left_by (settled before) script outcome →
    Leading mirrors before → Leading mirrors after
after-outcome mirrors before after script read base (Ok receipt) is published left leads =
    subst (Leading mirrors) (sym left)
    (more-by-script mirrors before script read receipt is
    (subst (λ (h : History). Continues (settled before).history read.1 (Ok h)) (sym published.2) published.1) leads)
after-outcome mirrors before after script read base (Err error) is published left leads =
    subst (Leading mirrors) (sym left) leads

after-reply : (mirrors : List Mirror) (before after : Publication) (script : List ℕ)
    (read : Result (ℕ × List Edit) ProfileFault) (reply : DeskStatus × List ℕ) → script_of_bytes script ≡ read →
    IsScriptReply (settled before) script read reply after → Leading mirrors before → Leading mirrors after
after-reply mirrors before after script (Ok read) reply is (inl done) leads =
    after-outcome mirrors before after script read (read.0 - earlier_in before.store) done.outcome is done.published done.left leads
after-reply mirrors before after script (Ok read) reply is (inr (unkept, same)) leads = subst (Leading mirrors) (sym same) leads
after-reply mirrors before after script (Err error) reply is rejected leads =
    subst (Leading mirrors) (sym rejected.1) leads

after-script : (mirrors : List Mirror) (before after : Publication) (body : List ℕ) (answer : Result (DeskStatus × List ℕ) Off) →
    Performs before body answer after → Leading mirrors before → Leading mirrors after
after-script mirrors before after body (Ok reply) performs leads =
    after-reply mirrors before after body (script_of_bytes body) reply refl performs leads
after-script mirrors before after body (Err off.Memory) (inl same) leads = subst (Leading mirrors) (sym same) leads
after-script mirrors before after body (Err off.Memory) (inr (inl same)) leads = subst (Leading mirrors) (sym same) leads
after-script mirrors before after body (Err off.Memory) (inr (inr ahead)) leads =
    subst (Leading mirrors) (sym ahead.left)
    (more-by-script mirrors before body (ahead.base, ahead.batch) ahead.next ahead.read ahead.prepared.1 leads)
after-script mirrors before after body (Err off.Closed) same leads = subst (Leading mirrors) (sym same) leads

-- a rejected raise leaves the mirrors
same-mirrors : (old new : List Mirror) (name : List ℕ) (budget : ℕ) (error : RaiseError) →
    RaisesTo old new name budget (Err error) → new ≡ old
same-mirrors old new name budget raising.UnknownMirror raises = raises.1
same-mirrors old new name budget raising.TooHigh raises = let (some, high, same) = raises in same
same-mirrors old new name budget (raising.Lower now) raises = let (index, at, few, below, is, same) = raises in same

-- what is found in mirrors, a history and what is kept of it
abbrev Funded : History → Funds → Type 0
Funded history funds =
    LeadTo funds.1.records (record { history = unwrap_or funds.1.due history; mirrors = funds.0 })

after-outcome-of-raise : (history : History) (old new : Funds) (body : List ℕ) (asked : List ℕ × List ℕ)
    (outcome : Result (Unit {0}) RaiseError) → raise_of body ≡ Some asked →
    RaisesTo old.0 new.0 asked.0 (digits_value 10 asked.1) outcome → new.1 ≡ raise_left_by old.1 body outcome →
    Funded history old → Funded history new
after-outcome-of-raise history old new body asked (Ok tt) is raised left leads =
    subst (λ (s : Store). Funded history (new.0, s)) (sym left)
    (LeadTo-more old.1.records (record { history = unwrap_or old.1.due history; mirrors = old.0 })
    (record { history = unwrap_or old.1.due history; mirrors = new.0 }) (record_of kind.Raise body) leads (asked, is, raised, refl))
after-outcome-of-raise history old new body asked (Err error) is raised left leads =
    subst (λ (s : Store). Funded history (new.0, s)) (sym left)
    (subst (λ (m : List Mirror). Funded history (m, old.1))
    (sym (same-mirrors old.0 new.0 asked.0 (digits_value 10 asked.1) error raised)) leads)

after-reply-to-raise : (history : History) (old new : Funds) (body : List ℕ) (asked : Option (List ℕ × List ℕ))
    (reply : DeskStatus × List ℕ) → raise_of body ≡ asked → IsReplyToRaise old new body asked reply →
    Funded history old → Funded history new
after-reply-to-raise history old new body (Some asked) reply is (inl done) leads =
    after-outcome-of-raise history old new body asked done.outcome is done.raised done.left leads
after-reply-to-raise history old new body (Some asked) reply is (inr (unkept, same)) leads =
    subst (Funded history) (sym same) leads
after-reply-to-raise history old new body None reply is none leads = subst (Funded history) (sym none.1) leads

after-raise : (history : History) (old new : Funds) (body : List ℕ) (answer : Result (DeskStatus × List ℕ) Off) →
    RaisesBy old new body answer → Funded history old → Funded history new
after-raise history old new body (Ok reply) raises leads =
    after-reply-to-raise history old new body (raise_of body) reply refl raises leads
after-raise history old new body (Err off.Memory) same leads = subst (Funded history) (sym same) leads
after-raise history old new body (Err off.Closed) same leads = subst (Funded history) (sym same) leads

pub after-call : (before after : State) (call : Call) → IsCall before call after → Kept before → Kept after
after-call before after (Looks name found) looked leads = subst Kept (sym looked.1) leads
after-call before after (Shows at page) shown leads = subst Kept (sym shown.1) leads
after-call before after (Asks body moment answer) (inl (word, dumps, same)) leads = subst Kept (sym same) leads
after-call before after (Asks body moment answer) (inr (inl (word, follows))) leads =
    after-following before after answer follows leads
after-call before after (Asks body moment answer) (inr (inr (inl (word, inl (raises, same))))) leads =
    subst (λ (h : History). Funded h (after.mirrors, after.store)) (sym same)
    (after-raise before.history (before.mirrors, before.store) (after.mirrors, after.store) body answer raises leads)
after-call before after (Asks body moment answer) (inr (inr (inl (word, inr way)))) leads =
    after-giving_way before after answer way leads
after-call before after (Asks body moment answer) (inr (inr (inr (dump, follow, raise, inl (performs, same))))) leads =
    subst (λ (m : List Mirror). Leading m (publication_of after)) (sym same)
    (after-script before.mirrors (publication_of before) (publication_of after) body answer performs leads)
after-call before after (Asks body moment answer) (inr (inr (inr (dump, follow, raise, inr way)))) leads =
    after-giving_way before after answer way leads

pub restarts_find_what_was_published : RestartsFindWhatWasPublished
restarts_find_what_was_published before after [] leads same = subst Kept (sym same) leads
restarts_find_what_was_published before after (call ∷ calls) leads (next, called, rest) =
    restarts_find_what_was_published next after calls (after-call before next call called leads) rest
