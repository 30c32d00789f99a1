-- What the calls of an operator make of the mirrors.
use Rattle.std.proofs.Common.{◌∙◌, ℕ, zero, suc, ◌-◌, ◌≤◌, List, [], ◌∷◌, Result, Ok, Err, inl, inr, ap, arith, refl, subst, sym}
use Rattle.std.specs.List.{AllZip}
use Rattle.std.specs.Str.Parse.{digits_value}
use Rattle.http_desks.specs.Calls.{Asks, Call, Looks, Shows}
use Rattle.http_desks.specs.declared.desk.DeskStatus.{DeskStatus}
use Rattle.http_desks.specs.declared.desk.Off.{Off}
use Rattle.http_desks.specs.declared.desk.Off.TheVariants as off
use Rattle.kept_records.specs.declared.record.Kind.{Kind}
use Rattle.kept_records.specs.declared.record.Kind.TheVariants as kind
use Rattle.mirror_ledger.specs.Named.{budget_at}
use Rattle.mirror_ledger.specs.Raising.{raise_at}
use Rattle.catalogue.specs.declared.mirror.Mirror.{Mirror}
use Rattle.service_desks.specs.Following.{Follows, GivesWay, StopsEarly, StopsShort, AdoptsAs, settled_state}
use Rattle.service_desks.specs.Operators.{IsCall}
use Rattle.service_desks.specs.States.{State}
use Rattle.theorems.specs.Restart.{IsRaised, OperatorsOnlyRaise}
use Rattle.theorems.proofs.OperatorLemmas.{MirrorsBy, mirrors-raise, mirrors-raising}

-- what it makes of the mirrors
mirrors-taken : (before after : State) (kind : Kind) (bytes : List ℕ) → AdoptsAs kind bytes (settled_state before) after →
    MirrorsBy before.mirrors after.mirrors
mirrors-taken before after kind.Profile bytes never = absurd never
mirrors-taken before after kind.Script bytes (next, script, left) = inl (ap (λ (s : State). s.mirrors) left)
mirrors-taken before after kind.Raise bytes ((asked, is, raised), history, store) =
    mirrors-raise before.mirrors after.mirrors asked.0 (digits_value 10 asked.1) (Ok tt) raised

mirrors-short : (before after : State) (off : Off) → StopsShort (settled_state before) off after →
    MirrorsBy before.mirrors after.mirrors
mirrors-short before after off.Memory (inl same) = inl (ap (λ (s : State). s.mirrors) same)
mirrors-short before after off.Memory (inr (inl is)) = inl (ap (λ (s : State). s.mirrors) is.left)
mirrors-short before after off.Memory (inr (inr adopted)) =
    mirrors-taken before after adopted.entry.kind adopted.entry.bytes adopted.adopts
mirrors-short before after off.Closed same = inl (ap (λ (s : State). s.mirrors) same)

mirrors-early : (before after : State) (off : Off) → StopsEarly before off after → MirrorsBy before.mirrors after.mirrors
mirrors-early before after off.Memory (inl same) = inl (ap (λ (s : State). s.mirrors) same)
mirrors-early before after off.Memory (inr stops) = mirrors-short before after off.Memory stops
mirrors-early before after off.Closed stops = mirrors-short before after off.Closed stops

mirrors-follow : (before after : State) (answer : Result (DeskStatus × List ℕ) Off) → Follows before answer after →
    MirrorsBy before.mirrors after.mirrors
mirrors-follow before after (Ok reply) (inl (adopted, is)) =
    mirrors-taken before after adopted.entry.kind adopted.entry.bytes adopted.adopts
mirrors-follow before after (Ok reply) (inr (inl (same, is))) = inl (ap (λ (s : State). s.mirrors) same)
mirrors-follow before after (Ok reply) (inr (inr (same, is))) = inl (ap (λ (s : State). s.mirrors) same)
mirrors-follow before after (Err off) stops = mirrors-early before after off stops

mirrors-way : (before after : State) (answer : Result (DeskStatus × List ℕ) Off) → GivesWay before answer after →
    MirrorsBy before.mirrors after.mirrors
mirrors-way before after (Ok reply) (inl (adopted, is)) =
    mirrors-taken before after adopted.entry.kind adopted.entry.bytes adopted.adopts
mirrors-way before after (Ok reply) (inr (same, is)) = inl (ap (λ (s : State). s.mirrors) same)
mirrors-way before after (Err off) stops = mirrors-early before after off stops

mirrors-call : (before after : State) (call : Call) → IsCall before call after → MirrorsBy before.mirrors after.mirrors
mirrors-call before after (Looks name found) looked = inl (ap (λ (s : State). s.mirrors) looked.1)
mirrors-call before after (Shows at page) shown = inl (ap (λ (s : State). s.mirrors) shown.1)
mirrors-call before after (Asks body moment answer) (inl (word, dumps, same)) = inl (ap (λ (s : State). s.mirrors) same)
mirrors-call before after (Asks body moment answer) (inr (inl (word, is))) = mirrors-follow before after answer is
mirrors-call before after (Asks body moment answer) (inr (inr (inl (word, inl (raises, same))))) =
    mirrors-raising (before.mirrors, before.store) (after.mirrors, after.store) body answer raises
mirrors-call before after (Asks body moment answer) (inr (inr (inl (word, inr way)))) = mirrors-way before after answer way
mirrors-call before after (Asks body moment answer) (inr (inr (inr (dump, follow, raise, inl (performs, same))))) = inl same
mirrors-call before after (Asks body moment answer) (inr (inr (inr (dump, follow, raise, inr way)))) =
    mirrors-way before after answer way

-- mirrors whose budgets are no less, one raise after the other
as-before : (mirrors : List Mirror) → AllZip IsRaised mirrors mirrors
as-before [] = tt
as-before (mirror ∷ mirrors) = (record { name = refl; codebase = refl; from = omega arith }, as-before mirrors)

raised-by : (mirrors : List Mirror) (index budget : ℕ) → budget_at mirrors index ≤ budget → AllZip IsRaised mirrors (raise_at mirrors index budget)
raised-by [] index budget low = tt
raised-by (mirror ∷ mirrors) zero budget low = (record { name = refl; codebase = refl; from = low }, as-before mirrors)
raised-by (mirror ∷ mirrors) (suc index) budget low =
    (record { name = refl; codebase = refl; from = omega arith }, raised-by mirrors index budget low)

then-raised : (one two three : List Mirror) → AllZip IsRaised one two → AllZip IsRaised two three → AllZip IsRaised one three
then-raised [] [] [] first second = tt
then-raised [] [] (c ∷ three) first second = absurd second
then-raised [] (b ∷ two) three first second = absurd first
then-raised (a ∷ one) [] three first second = absurd first
then-raised (a ∷ one) (b ∷ two) [] first second = absurd second
then-raised (a ∷ one) (b ∷ two) (c ∷ three) first second = (
  record {
    name = second.0.name ∙ first.0.name;
    codebase = second.0.codebase ∙ first.0.codebase;
    from = omega (arith, first.0.from, second.0.from);
  },
  then-raised one two three first.1 second.1,
)

raised-mirrors : (old new : List Mirror) → MirrorsBy old new → AllZip IsRaised old new
raised-mirrors old new (inl same) = subst (AllZip IsRaised old) (sym same) (as-before old)
raised-mirrors old new (inr (index, budget, low, same)) = subst (AllZip IsRaised old) (sym same) (raised-by old index budget low)

pub operators_only_raise : OperatorsOnlyRaise
operators_only_raise before after [] same =
    subst (λ (s : State). AllZip IsRaised before.mirrors s.mirrors) (sym same) (as-before before.mirrors)
operators_only_raise before after (call ∷ calls) (next, called, leads) =
    then-raised before.mirrors next.mirrors after.mirrors (raised-mirrors before.mirrors next.mirrors (mirrors-call before next call called))
    (operators_only_raise next after calls leads)
