-- Parts of the loop for one connection, one after the other.
use Rattle.std.proofs.Common.{◌≡◌, ◌∙◌, ◌++◌, ℕ, Bool, List, [], ◌∷◌, append-nil, append_assoc, Option, None, refl, sym, subst, ap, inr}
use Rattle.std.specs.Prelude.{⊤, Ok, Err}
use Rattle.http_desks.specs.Calls.{Call, Leads}
use Rattle.http_ports.specs.Loops.{IsLeft}
use Rattle.http_ports.specs.Ports.{Closes}
use Rattle.http_ports.specs.Speech.{Phase, Speech, speech_at}
use Rattle.http_ports.specs.Steps.{IsEnding, IsPassed, Serves, ServesOut}
use Rattle.http_ports.specs.Traffic.{Changes, Elsewhere, FitClock, FitsClock, HasPassed, IsOpen, Slot, Traffic, later, marked, timing}
use Rattle.http_ports.specs.declared.last.Last.TheVariants.{Passed, Yields}
use Rattle.http_ports.specs.declared.timestamp.Timestamp.{Timestamp}
use Rattle.http_ports.proofs.RoundLemmas.{Leads-append}

-- however it was left
abbrev pub any_left : IsLeft
any_left phase pending traffic = ⊤

pub stays_open :
    {old new : ℕ → Slot} (at : ℕ) (change : Traffic → Traffic) →
    Changes at change old new → IsOpen (old at) → IsOpen (new at)
stays_open {old} {new} at change changes (traffic, live) =
    (change traffic, ap (λ (slot : Slot). slot.current) (changes.0 traffic live))

-- one more timestamp
pub fits_later :
    (stopped : Option ℕ) (timestamps : List Timestamp) (timestamp : Timestamp) →
    FitClock stopped timestamps → FitsClock stopped timestamp.seconds → FitClock stopped (timestamps ++ timestamp ∷ [])
fits_later stopped [] timestamp fit one = (one, tt)
fits_later stopped (first ∷ timestamps) timestamp (here, fit) one = (here, fits_later stopped timestamps timestamp fit one)

pub has_passed :
    {old new : ℕ → Slot} (at : ℕ) (change : Traffic → Traffic) →
    ((traffic : Traffic) → (change traffic).last ≡ Passed) →
    Changes at change old new → IsOpen (old at) → HasPassed (new at)
has_passed {old} {new} at change passes changes (traffic, live) =
    (change traffic, ap (λ (slot : Slot). slot.current) (changes.0 traffic live), passes traffic)

pub Elsewhere-trans :
    {old mid new : ℕ → Slot} (at : ℕ) → Elsewhere at old mid → Elsewhere at mid new → Elsewhere at old new
Elsewhere-trans at one two k other = two k other ∙ one k other

module _ {C D : Type 0} (speech : Speech C) (steps : D → Call → D → Type 0) where
  -- the connection changed, and the desk was not called
  pub changed :
      (IsSo : IsLeft) (at : ℕ) (change : Traffic → Traffic) (old new : ℕ → Slot) (conn left : C) (desk : D) →
      Changes at change old new →
      ((traffic : Traffic) (made : List Call) → speech.so_far traffic.timestamps conn traffic.received traffic.sent made →
      speech.so_far (change traffic).timestamps left (change traffic).received (change traffic).sent made
      × IsSo (speech.phase left) (speech.pending left) (change traffic)) →
      Serves speech steps IsSo (old at) conn desk (new at) left desk
  changed IsSo at change old new conn left desk changes keeps = (
    [],
    refl,
    λ made (traffic, live, so_far).
        let slot = changes.0 traffic live in
        let (goes_on, is_left) = keeps traffic made so_far in (
          ap (λ (s : Slot). s.ended) slot,
          (
            change traffic,
            ap (λ (s : Slot). s.current) slot,
            subst (speech.so_far (change traffic).timestamps left (change traffic).received (change traffic).sent) (sym (append-nil made)) goes_on,
            is_left,
          ),
        ),
  )

  -- the desk was called at a time, and nothing passed
  pub asked :
      (IsSo : IsLeft) (at seconds : ℕ) (waiting : Option (List ℕ)) (old new : ℕ → Slot) (conn left : C) (desk behind : D) (calls : List Call) →
      Changes at (timing seconds waiting) old new → Leads steps desk calls behind →
      ((received sent : List ℕ) (timestamps : List Timestamp) (made : List Call) →
      speech.so_far timestamps conn received sent made →
      speech.so_far (later timestamps seconds waiting received sent) left received sent (made ++ calls)) →
      ((traffic : Traffic) → IsSo (speech.phase left) (speech.pending left) traffic) →
      Serves speech steps IsSo (old at) conn desk (new at) left behind
  asked IsSo at seconds waiting old new conn left desk behind calls tells leads goes_on is_left = (
    calls,
    leads,
    λ made (traffic, live, so_far).
        let slot = tells.0 traffic live in (
          ap (λ (s : Slot). s.ended) slot,
          (
            timing seconds waiting traffic,
            ap (λ (s : Slot). s.current) slot,
            goes_on traffic.received traffic.sent traffic.timestamps made so_far,
            is_left (timing seconds waiting traffic),
          ),
        ),
  )

  -- before the first step
  pub unmoved : (slot : Slot) (conn : C) (desk : D) → Serves speech steps any_left slot conn desk slot conn desk
  unmoved slot conn desk = (
    [],
    refl,
    λ made (traffic, live, so_far).
        (refl, (traffic, live, subst (speech.so_far traffic.timestamps conn traffic.received traffic.sent) (sym (append-nil made)) so_far, tt)),
  )

  -- less is said of how it was left
  pub loosened :
      (IsSo : IsLeft) (slot after : Slot) (conn left : C) (desk behind : D) →
      Serves speech steps IsSo slot conn desk after left behind →
      Serves speech steps any_left slot conn desk after left behind
  loosened IsSo slot after conn left desk behind (calls, leads, goes_on) = (
    calls,
    leads,
    λ made has.
        let (ended, (traffic, live, so_far, is_left)) = goes_on made has in (ended, (traffic, live, so_far, tt)),
  )

  -- calls of the desk at a time, and then another part
  pub asked_then :
      (IsSo : IsLeft) (at seconds : ℕ) (waiting : Option (List ℕ)) (old mid : ℕ → Slot) (after : Slot) (conn between left : C) (desk amid behind : D)
      (calls : List Call) →
      Changes at (timing seconds waiting) old mid → Leads steps desk calls amid →
      ((received sent : List ℕ) (timestamps : List Timestamp) (made : List Call) →
      speech.so_far timestamps conn received sent made →
      speech.so_far (later timestamps seconds waiting received sent) between received sent (made ++ calls)) →
      Serves speech steps IsSo (mid at) between amid after left behind →
      Serves speech steps IsSo (old at) conn desk after left behind
  asked_then IsSo at seconds waiting old mid after conn between left desk amid behind calls tells leads goes_on (more, leads_on, serves) = (
    calls ++ more,
    Leads-append steps desk amid behind calls more leads leads_on,
    λ made (traffic, live, so_far).
        let slot = tells.0 traffic live in
        let (ended, (next, open_on, so_far_on, is_left)) =
        serves (made ++ calls) (
          timing seconds waiting traffic,
          ap (λ (s : Slot). s.current) slot,
          goes_on traffic.received traffic.sent traffic.timestamps made so_far,
        ) in (
          ended ∙ ap (λ (s : Slot). s.ended) slot,
          (
            next,
            open_on,
            subst (speech.so_far next.timestamps left next.received next.sent) (append_assoc made calls more) so_far_on,
            is_left,
          ),
        ),
  )

  -- a part, and then another one
  pub and_then :
      (IsSo IsNow : IsLeft) (slot mid after : Slot) (conn between left : C) (desk amid behind : D) →
      Serves speech steps IsSo slot conn desk mid between amid →
      Serves speech steps IsNow mid between amid after left behind →
      Serves speech steps IsNow slot conn desk after left behind
  and_then IsSo IsNow slot mid after conn between left desk amid behind (calls, leads, goes_on) (more, leads_on, serves) = (
    calls ++ more,
    Leads-append steps desk amid behind calls more leads leads_on,
    λ made has.
        let (same, (traffic, live, so_far, was)) = goes_on made has in
        let (ended, (next, open_on, so_far_on, is_left)) = serves (made ++ calls) (traffic, live, so_far) in (
          ended ∙ same,
          (
            next,
            open_on,
            subst (speech.so_far next.timestamps left next.received next.sent) (append_assoc made calls more) so_far_on,
            is_left,
          ),
        ),
  )

  -- the connection has had its turn, and is reported again
  pub yields :
      (at : ℕ) (slot : Slot) (mid after : ℕ → Slot) (conn left : C) (desk behind : D) →
      Serves speech steps IsPassed slot conn desk (mid at) left behind → Changes at (marked Yields) mid after →
      ServesOut speech steps slot conn desk (after at) (Ok left) behind
  yields at slot mid after conn left desk behind (calls, leads, goes_on) changes = (
    calls,
    leads,
    λ made has.
        let (ended, (traffic, live, so_far, passed)) = goes_on made has in
        let now = changes.0 traffic live in (
          ap (λ (s : Slot). s.ended) now ∙ ended,
          (marked Yields traffic, ap (λ (s : Slot). s.current) now, so_far, inr (inr refl)),
        ),
  )

  -- the connection ends, and is closed
  pub ends :
      (at : ℕ) (slot : Slot) (mid after : ℕ → Slot) (conn left : C) (desk behind : D) (lost : Bool) →
      Serves speech steps IsEnding slot conn desk (mid at) left behind → Closes at mid after →
      lost ≡ speech.is_lost left →
      ServesOut speech steps slot conn desk (after at) (Err lost) behind
  ends at slot mid after conn left desk behind lost (calls, leads, goes_on) closes is_lost = (
    calls,
    leads,
    λ made has.
        let (ended, (traffic, live, so_far, ending)) = goes_on made has in (
          traffic,
          left,
          closes.0 traffic live
              ∙ ap (λ (earlier : List Traffic). record { ended = traffic ∷ earlier; current = None }) ended,
          record { came = so_far; ended = ending },
          is_lost,
        ),
  )

-- a relation of a port's clock and of a desk's path and type holds of the same ones
pub at_same :
    (Holds : Option ℕ → List ℕ → List ℕ → Type 0) (stopped stays : Option ℕ) (path place kind type : List ℕ) →
    stopped ≡ stays → path ≡ place → kind ≡ type → Holds stopped path kind → Holds stays place type
at_same Holds stopped stays path place kind type clocks paths types holds =
    subst (λ (c : Option ℕ). Holds c place type) clocks
    (subst (λ (p : List ℕ). Holds stopped p type) paths (subst (λ (t : List ℕ). Holds stopped path t) types holds))

-- so does a part of the loop
pub Serves-at_same :
    {C D : Type 0} (pending : C → List ℕ) (phase : C → Phase) (is_lost : C → Bool)
    (so_far : List ℕ → List ℕ → List Timestamp → C → List ℕ → List ℕ → List Call → Type 0) (steps : D → Call → D → Type 0)
    (IsSo : IsLeft) (slot after : Slot) (conn left : C) (desk behind : D) (stopped stays : Option ℕ)
    (path place kind type : List ℕ) → stopped ≡ stays → path ≡ place → kind ≡ type →
    Serves (speech_at stopped pending phase is_lost so_far path kind) steps IsSo slot conn desk after left behind →
    Serves (speech_at stays pending phase is_lost so_far place type) steps IsSo slot conn desk after left behind
Serves-at_same pending phase is_lost so_far steps IsSo slot after conn left desk behind stopped stays path place kind type =
    at_same
    (λ (c : Option ℕ) (p t : List ℕ). Serves (speech_at c pending phase is_lost so_far p t) steps IsSo slot conn desk after left behind)
    stopped stays path place kind type
