-- What the calls of a worker's desk come to: what its view has seen, what it asked for, and what it may still enter.
use Rattle.std.proofs.Common.{◌≡◌, ℕ, ◌≤◌, ◌⊎◌, inl, inr, List, [], ◌∷◌, ◌++◌, length, take, Ok, Err, sym, ap, ◌∙◌, append_assoc, subst, arith}
use Rattle.std.proofs.Math.Seq.{take-append_seam}
use Rattle.std.proofs.lemmas.Bool.{false≢true}
use Rattle.std.proofs.lemmas.List.{append-nil, length-append}
use Rattle.catalogue.specs.Histories.{History}
use Rattle.http_desks.specs.Calls.{Asks, Call, Looks, Shows}
use Rattle.http_desks.specs.declared.desk.DeskStatus.{DeskStatus}
use Rattle.http_desks.specs.declared.desk.DeskStatus.TheVariants as status
use Rattle.http_desks.specs.declared.desk.Off.TheVariants as off
use Rattle.mirror_ledger.specs.Asks.{Ask, granted_at}
use Rattle.publisher.specs.Beginnings.{StartsWith}
use Rattle.publisher.specs.Heard.{GoesOn}
use Rattle.publisher.specs.Sights.{Allows, Sight}
use Rattle.catalogue.specs.declared.mirror.Mirror.{Mirror}
use Rattle.replies.specs.Asking.{asks_of}
use Rattle.service_desks.specs.Entries.{Enters, FindsNoEntry}
use Rattle.service_desks.specs.Workers.{HasStatus, IsCall, Progress}
use Rattle.theorems.proofs.WorkerLemmas.{granted-append}

-- a history that begins with one that begins with another
starts-through : (now middle old : History) → StartsWith now middle → StartsWith middle old → StartsWith now old
starts-through now middle old (more, later) (rest, first) = (
  rest ++ more,
  later ∙ ap (λ (h : History). h ++ more) first ∙ append_assoc old rest more,
)

goes-through : (now middle : History) (heard : List History) → StartsWith now middle → GoesOn middle heard →
    GoesOn now heard
goes-through now middle [] later goes = tt
goes-through now middle (first ∷ others) later goes =
    (starts-through now middle first later goes.0, goes-through now middle others later goes.1)

-- two beginnings of the same length
pub same-beginning : (now one other : History) → StartsWith now one → StartsWith now other → length one ≡ length other →
    one ≡ other
same-beginning now one other (rest, is) (more, is_too) long =
    sym (take-append_seam one rest)
    ∙ ap (take (length one)) (sym is ∙ is_too)
    ∙ ap (λ (n : ℕ). take n (other ++ more)) long
    ∙ take-append_seam other more

pub shorter : (now old : History) → StartsWith now old → length old ≤ length now
shorter now old (rest, is) =
    let whole = ap (λ (h : History). length h) is in
    let parts = length-append old rest in
    omega arith

-- what a call of a worker's desk does to its progress
pub record LeadsOn (before after : Progress) : Type 0 where
  pub entry : FindsNoEntry before.sight after.sight ⊎ ((history : History) × Enters before.sight history after.sight)
  pub asks : List Ask
  pub asked : after.asks ≡ before.asks ++ asks

module _ (mirrors : List Mirror) (before after : Progress) where
  abbrev Entry : Type 0
  Entry = FindsNoEntry before.sight after.sight ⊎ ((history : History) × Enters before.sight history after.sight)

  on-same : after ≡ before → LeadsOn before after
  on-same same = record {
    entry = inl (inl (ap (λ (p : Progress). p.sight) same));
    asks = [];
    asked = ap (λ (p : Progress). p.asks) same ∙ sym (append-nil before.asks);
  }

  on-unasked : Entry → after.asks ≡ before.asks → LeadsOn before after
  on-unasked entry asked = record { entry = entry; asks = []; asked = asked ∙ sym (append-nil before.asks) }

  on-status : (input : List ℕ) (moment : ℕ) (kind : DeskStatus) (text : List ℕ) →
      HasStatus mirrors before input moment kind text after → LeadsOn before after
  on-status input moment status.Success text (history, enters, (request, read, reply)) = record {
    entry = inr (history, enters);
    asks = asks_of reply.plan reply.outcomes;
    asked = reply.asked.asked;
  }
  on-status input moment status.BadRequest text (none, fault, same) = on-same same
  on-status input moment status.Conflict text never = absurd never
  on-status input moment status.UnprocessableContent text never = absurd never
  on-status input moment status.ServiceUnavailable text never = absurd never

  pub leads-on : (call : Call) → IsCall mirrors before call after → LeadsOn before after
  leads-on (Looks name found) (inl (history, enters, is), asked) = on-unasked (inr (history, enters)) asked
  leads-on (Looks name found) (inr (none, is), asked) = on-unasked (inl none) asked
  leads-on (Shows at page) (none, same) = on-same same
  leads-on (Asks input moment (Ok answer)) called = on-status input moment answer.0 answer.1 called
  leads-on (Asks input moment (Err off.Memory)) (inl same) = on-same same
  leads-on (Asks input moment (Err off.Memory)) (inr (request, read, (history, enters, inl same))) =
      on-unasked (inr (history, enters)) same
  leads-on (Asks input moment (Err off.Memory)) (inr (request, read, (history, enters, inr (plan, planned, first)))) =
      record {
        entry = inr (history, enters);
        asks = asks_of first.first first.outcomes;
        asked = first.asked.asked;
      }
  leads-on (Asks input moment (Err off.Closed)) (request, read, (none, asked)) = on-unasked (inl none) asked

module _ (before after : Progress) (on : LeadsOn before after) where
  -- it has seen no fewer batches
  pub seen-more : before.sight.seen ≤ after.sight.seen
  seen-more = cases on.entry
    where
      cases : FindsNoEntry before.sight after.sight ⊎ ((history : History) × Enters before.sight history after.sight) →
          before.sight.seen ≤ after.sight.seen
      cases (inl (inl same)) =
          let seen = ap (λ (s : Sight). s.seen) same in
          omega arith
      cases (inl (inr lost)) =
          let seen = lost.1 in
          omega arith
      cases (inr (history, enters)) =
          let seen = ap (λ (s : Sight). s.seen) enters.left in
          let risen = enters.risen in
          omega arith

  -- and was granted no less
  pub granted-more : (mirror : ℕ) → granted_at mirror before.asks ≤ granted_at mirror after.asks
  granted-more mirror =
      let whole = ap (granted_at mirror) on.asked ∙ granted-append mirror before.asks on.asks in
      omega arith

  -- what it may enter then, it could enter before
  pub allowed-before : (now : History) → Allows after.sight now → Allows before.sight now
  allowed-before now allows = cases on.entry
    where
      cases : FindsNoEntry before.sight after.sight ⊎ ((history : History) × Enters before.sight history after.sight) →
          Allows before.sight now
      cases (inl (inl same)) = subst (λ (s : Sight). Allows s now) same allows
      cases (inl (inr lost)) = absurd (false≢true (sym allows.0 ∙ lost.0))
      cases (inr (history, enters)) =
          let own = subst (λ (s : Sight). Allows s now) enters.left allows in
          (enters.allowed.0, goes-through now history before.sight.heard own.1.0 enters.allowed.1)

  -- what it entered is a beginning of that
  pub entered-begins : (now history : History) → Allows after.sight now → Enters before.sight history after.sight →
      StartsWith now history
  entered-begins now history allows enters = (subst (λ (s : Sight). Allows s now) enters.left allows).1.0

  -- it has seen no more batches than that has, if it had not before
  pub seen-within : (now : History) → Allows after.sight now → before.sight.seen ≤ length now →
      after.sight.seen ≤ length now
  seen-within now allows low = cases on.entry
    where
      cases : FindsNoEntry before.sight after.sight ⊎ ((history : History) × Enters before.sight history after.sight) →
          after.sight.seen ≤ length now
      cases (inl (inl same)) =
          let seen = ap (λ (s : Sight). s.seen) same in
          omega arith
      cases (inl (inr lost)) =
          let seen = lost.1 in
          omega arith
      cases (inr (history, enters)) =
          let seen = ap (λ (s : Sight). s.seen) enters.left in
          let short = shorter now history (entered-begins now history allows enters) in
          omega arith
