-- One slot, and what is kept for it.
use Rattle.std.proofs.Common.{◌≡◌, ◌∙◌, ◌++◌, ℕ, Bool, true, ◌==◌, List, [], ◌∷◌, append-nil, append_assoc, Option, None, Some, refl, sym, subst, ap, if◌then◌else◌, inl, inr, arith}
use Rattle.std.specs.Prelude.{◌⊎◌, ◌≢◌}
use Rattle.std.proofs.lemmas.Bool.{eq-eqb, ne_eqb}
use Rattle.http_desks.specs.Calls.{Call}
use Rattle.http_ports.specs.Loops.{IsGoing, IsLeft, IsResting, IsServed, rest_but}
use Rattle.http_ports.specs.Ports.{IsWaiting, expiring}
use Rattle.http_ports.specs.Speech.{AreWhole, IsEnd, IsWhole, Phase, Speech}
use Rattle.http_ports.specs.Steps.{Has, HasLeft}
use Rattle.http_ports.specs.Traffic.{Slot, Traffic, marked, with_ended}
use Rattle.http_ports.specs.declared.last.Last.TheVariants.{Reported, Yields}

-- what was kept of the ended connections, with one more at a slot
abbrev pub ends_with : {C : Type 0} → ℕ → C → (ℕ → List C) → ℕ → List C
ends_with at conn ends k = if k == at then conn ∷ ends k else ends k

pub ends_with-here : {C : Type 0} (at : ℕ) (conn : C) (ends : ℕ → List C) → ends_with at conn ends at ≡ conn ∷ ends at
ends_with-here at conn ends =
    ap (λ (is : Bool). if is then conn ∷ ends at else ends at) (eq-eqb at at refl)

pub ends_with-elsewhere :
    {C : Type 0} (at : ℕ) (conn : C) (ends : ℕ → List C) (k : ℕ) → k ≢ at → ends_with at conn ends k ≡ ends k
ends_with-elsewhere at conn ends k other =
    ap (λ (is : Bool). if is then conn ∷ ends k else ends k) (ne_eqb k at other)

module _ {C : Type 0} (speech : Speech C) where
  pub IsGoing-loosened :
      (IsOne IsTwo : IsLeft) →
      ((phase : Phase) (pending : List ℕ) (traffic : Traffic) → IsOne phase pending traffic → IsTwo phase pending traffic) →
      (live : Option Traffic) (conn : Option C) (own : List Call) →
      IsGoing speech IsOne live conn own → IsGoing speech IsTwo live conn own
  IsGoing-loosened IsOne IsTwo so None None own going = going
  IsGoing-loosened IsOne IsTwo so None (Some conn) own going = going
  IsGoing-loosened IsOne IsTwo so (Some traffic) None own going = going
  IsGoing-loosened IsOne IsTwo so (Some traffic) (Some conn) own (so_far, one) =
      (so_far, so (speech.phase conn) (speech.pending conn) traffic one)

  -- a resting connection waits for its peer, or is to be reported again
  pub last_of_resting :
      (traffic : Traffic) (conn : Option C) (own : List Call) →
      IsGoing speech IsResting (Some traffic) conn own → IsWaiting traffic.last ⊎ (traffic.last ≡ Yields)
  last_of_resting traffic None own going = absurd going
  last_of_resting traffic (Some conn) own (so_far, inl (last, sent, waits)) = inl (inl last)
  last_of_resting traffic (Some conn) own (so_far, inr (inl (last, some))) = inl (inr last)
  last_of_resting traffic (Some conn) own (so_far, inr (inr last)) = inr last

  -- a slot for which something is kept has a connection
  pub has_connection :
      (IsSo : IsLeft) (slot : Slot) (conn : C) (own : List Call) →
      IsGoing speech IsSo slot.current (Some conn) own → Has speech slot conn own
  has_connection IsSo slot conn own going = of_current slot.current going
    where
      of_current :
          (live : Option Traffic) → IsGoing speech IsSo live (Some conn) own →
          (traffic : Traffic) × (live ≡ Some traffic) × speech.so_far traffic.timestamps conn traffic.received traffic.sent own
      of_current None going = absurd going
      of_current (Some traffic) (so_far, is_so) = (traffic, refl, so_far)

  -- no call was made for a slot without a connection
  pub no_calls :
      (IsSo : IsLeft) (conn : Option C) (own : List Call) → IsGoing speech IsSo None conn own → own ≡ []
  no_calls IsSo None own going = going
  no_calls IsSo (Some conn) own going = absurd going

  -- a slot for which nothing changed
  pub IsServed-same :
      (IsOne IsTwo : IsLeft) (slot after : Slot) (ends ends_now : List C) (conn next : Option C) (calls all : List Call) →
      ((phase : Phase) (pending : List ℕ) (traffic : Traffic) → IsOne phase pending traffic → IsTwo phase pending traffic) →
      after ≡ slot → ends_now ≡ ends → next ≡ conn → all ≡ calls →
      IsServed speech IsOne slot ends conn calls → IsServed speech IsTwo after ends_now next all
  IsServed-same IsOne IsTwo slot after ends ends_now conn next calls all so same ended kept is served = record {
    before = served.before;
    own = served.own;
    all = is ∙ served.all;
    whole = subst (λ (e : List C). AreWhole speech after.ended e served.before) (sym ended)
        (subst (λ (s : Slot). AreWhole speech s.ended ends served.before) (sym same) served.whole);
    going = subst (λ (s : Slot). IsGoing speech IsTwo s.current next served.own) (sym same)
        (subst (λ (c : Option C). IsGoing speech IsTwo slot.current c served.own) (sym kept)
        (IsGoing-loosened IsOne IsTwo so slot.current conn served.own served.going));
  }

  -- a slot whose connection went on and rests
  pub IsServed-resting :
      (slot after : Slot) (ends : List C) (left : C) (before own calls all : List Call) →
      all ≡ (before ++ own) ++ calls → AreWhole speech slot.ended ends before →
      (after.ended ≡ slot.ended) × HasLeft speech after left (own ++ calls) IsResting →
      IsServed speech IsResting after ends (Some left) all
  IsServed-resting slot after ends left before own calls all is whole (ended, (traffic, live, so_far, rests)) = record {
    before = before;
    own = own ++ calls;
    all = is ∙ append_assoc before own calls;
    whole = subst (λ (earlier : List Traffic). AreWhole speech earlier ends before) (sym ended) whole;
    going = subst (λ (o : Option Traffic). IsGoing speech IsResting o (Some left) (own ++ calls)) (sym live) (so_far, rests);
  }

  -- a slot whose connection has ended
  pub IsServed-ended :
      (slot after : Slot) (traffic : Traffic) (ends ends_now : List C) (conn : C) (next : Option C) (before own all : List Call) →
      all ≡ before ++ own → AreWhole speech slot.ended ends before → after ≡ with_ended slot traffic →
      ends_now ≡ conn ∷ ends → next ≡ None → IsWhole speech traffic conn own →
      IsServed speech IsResting after ends_now next all
  IsServed-ended slot after traffic ends ends_now conn next before own all is whole same ended kept its = record {
    before = before ++ own;
    own = [];
    all = is ∙ sym (append-nil (before ++ own));
    whole = subst (λ (e : List C). AreWhole speech after.ended e (before ++ own)) (sym ended)
        (subst (λ (s : Slot). AreWhole speech s.ended (conn ∷ ends) (before ++ own)) (sym same)
        (before, own, refl, whole, its));
    going = subst (λ (s : Slot). IsGoing speech IsResting s.current next []) (sym same)
        (subst (λ (c : Option C). IsGoing speech IsResting None c []) (sym kept) refl);
  }

  -- a connection whose time is up ends so
  end_of_expired :
      (traffic : Traffic) (phase : Phase) (pending : List ℕ) →
      IsWaiting traffic.last → IsResting phase pending traffic → IsEnd phase pending traffic.last true
  end_of_expired traffic phase pending waiting (inl (last, sent, waits)) = inr (inl (sent, waits, inr (inr (last, refl))))
  end_of_expired traffic phase pending waiting (inr (inl (last, some))) = inr (inr (some, inr (last, refl)))
  end_of_expired traffic phase pending (inl read) (inr (inr yields)) = absurd (grind (arith, read, yields))
  end_of_expired traffic phase pending (inr write) (inr (inr yields)) = absurd (grind (arith, write, yields))

  pub IsWhole-expired :
      (traffic : Traffic) (conn : C) (own : List Call) →
      IsWaiting traffic.last → IsGoing speech IsResting (Some traffic) (Some conn) own →
      IsWhole speech (expiring traffic) conn own
  IsWhole-expired traffic conn own waiting (so_far, rests) =
      record { came = so_far; ended = end_of_expired traffic (speech.phase conn) (speech.pending conn) waiting rests }

  -- a connection that was reported is the one that needn't rest
  pub IsGoing-reported :
      (at : ℕ) (traffic : Traffic) (conn : Option C) (own : List Call) →
      IsGoing speech IsResting (Some traffic) conn own →
      IsGoing speech (rest_but at at) (Some (marked Reported traffic)) conn own
  IsGoing-reported at traffic None own going = going
  IsGoing-reported at traffic (Some conn) own (so_far, rests) = (so_far, λ other. absurd (other refl))
