-- Attempts one after another.
use Rattle.std.proofs.Common.{◌≡◌, ℕ, ◌+◌, List, [], ◌∷◌, ◌++◌, length, Bool, false, true, ◌||◌, None, Option, Result, refl, sym, ap, ◌∙◌, arith, append_assoc, length-append}
use Rattle.std.proofs.lemmas.List.Elements.{All-append}
use Rattle.std.proofs.lemmas.List.Folds.{list_any-append}
use Rattle.std.proofs.lemmas.List.Sums.{fold-append}
use Rattle.std.specs.List.{All}
use Rattle.kept_records.specs.declared.fault.Cause.{Cause}
use Rattle.kept_records.specs.declared.fault.Cause.TheVariants.{Unreachable}
use Rattle.kept_records.specs.declared.fault.Unreached.TheVariants.{NoReply}
use Rattle.etcd_records.specs.declared.exchange.Exchange.{Exchange}
use Rattle.etcd_records.specs.declared.gateway.Response.{Response}
use Rattle.etcd_records.specs.declared.gateway.GatewayFault.{GatewayFault}
use Rattle.etcd_records.specs.Asking.{IsMiss, in_doubt, last_cause}
use Rattle.etcd_records.specs.Exchanges.{exchange_of, outcome_of}
use Rattle.etcd_records.specs.Replies.{cause_of, counted_in, may_be_done}
use Rattle.etcd_records.specs.declared.headers.Header.{Header}

-- so many attempts so far, which brought no reply
pub record AreMissed (seen : Option Header) (old new : List Exchange) (path body : List ℕ) (count : ℕ) (cause : Cause)
    (is_doubtful : Bool) : Type 0 where
  pub done : List Exchange
  pub all : new ≡ old ++ done
  pub counted : length done ≡ count
  pub misses : All (IsMiss seen path body) done
  pub cause_is : cause ≡ last_cause seen done
  pub doubt_is : is_doubtful ≡ in_doubt done

All-one : {X : Type 0} (P : X → Type 0) (x : X) → P x → All P (x ∷ [])
All-one P x is k d below = let first : k ≡ 0 = omega arith in rw first is

added : (old done new : List Exchange) (last : Exchange) (before : List Exchange) → before ≡ old ++ done
    → new ≡ before ++ last ∷ []
    → new ≡ old ++ (done ++ last ∷ [])
added old done new last before is more = more ∙ ap (λ it. it ++ last ∷ []) is ∙ append_assoc old done (last ∷ [])

or_false : (a b : Bool) → (a || (b || false)) ≡ (a || b)
or_false a b = elim b as (λ it. (a || (it || false)) ≡ (a || it)) [ true ↦ refl | false ↦ refl ]

-- one more attempt that brought no reply
pub one_missed : (seen : Option Header) (old before new : List Exchange) (path body : List ℕ) (count : ℕ) (cause why : Cause) (is_doubtful later : Bool) (came : Result Response GatewayFault)
    → AreMissed seen old before path body count cause is_doubtful → new ≡ before ++ exchange_of path body came ∷ []
    → counted_in seen (outcome_of came) ≡ None → why ≡ cause_of seen (outcome_of came)
    → later ≡ (is_doubtful || may_be_done (outcome_of came))
    → AreMissed seen old new path body (count + 1) why later
one_missed seen old before new path body count cause why is_doubtful later came were more none is_cause is_later = record {
  done = were.done ++ exchange_of path body came ∷ [];
  all = added old were.done new (exchange_of path body came) before were.all more;
  counted = length-append were.done (exchange_of path body came ∷ []) ∙ ap (λ it. it + 1) were.counted;
  misses = All-append (IsMiss seen path body) were.done (exchange_of path body came ∷ []) were.misses
      (All-one (IsMiss seen path body) (exchange_of path body came) ((refl, refl), none));
  cause_is = is_cause ∙ sym (fold-append (λ (earlier : Cause) (it : Exchange). cause_of seen it.outcome) (Unreachable NoReply) were.done (exchange_of path body came ∷ []));
  doubt_is = is_later ∙ ap (λ it. it || may_be_done (outcome_of came)) were.doubt_is
      ∙ sym (or_false (in_doubt were.done) (may_be_done (outcome_of came)))
      ∙ sym (list_any-append (λ (it : Exchange). may_be_done it.outcome) were.done (exchange_of path body came ∷ []));
}
