-- Calls for one slot that are made after others.
use Rattle.std.proofs.Common.{◌≡◌, ◌≢◌, ℕ, Bool, true, false, ◌==◌, List, [], ◌∷◌, ◌++◌, append-nil, refl, sym, subst, ap, ◌∙◌, if◌then◌else◌}
use Rattle.std.proofs.lemmas.Bool.{eq-eqb, ne_eqb}
use Rattle.http_desks.specs.Calls.{Call, Leads}
use Rattle.http_ports.specs.Rounds.{Round, all_calls, calls_at, rounds_at}

pub Leads-append :
    {D : Type 0} (steps : D → Call → D → Type 0) (start between end : D) (first second : List Call) →
    Leads steps start first between → Leads steps between second end → Leads steps start (first ++ second) end
Leads-append steps start between end [] second one two = subst (λ desk. Leads steps desk second end) one two
Leads-append steps start between end (call ∷ first) second (next, step, one) two =
    (next, step, Leads-append steps next between end first second one two)

calls_at-rounds_at : (at : ℕ) (calls : List Call) → calls_at at (rounds_at at calls) ≡ calls
calls_at-rounds_at at [] = refl
calls_at-rounds_at at (call ∷ calls) =
    let here : (at == at) ≡ true = eq-eqb at at refl in
    ap
    (λ (is : Bool). if is then call ∷ calls_at at (rounds_at at calls) else calls_at at (rounds_at at calls))
    here
    ∙ ap (λ (rest : List Call). call ∷ rest) (calls_at-rounds_at at calls)

calls_at-rounds_at-other : (k at : ℕ) (calls : List Call) → k ≢ at → calls_at k (rounds_at at calls) ≡ []
calls_at-rounds_at-other k at [] other = refl
calls_at-rounds_at-other k at (call ∷ calls) other =
    let elsewhere : (at == k) ≡ false = ne_eqb at k (λ same. other (sym same)) in
    ap
    (λ (is : Bool). if is then call ∷ calls_at k (rounds_at at calls) else calls_at k (rounds_at at calls))
    elsewhere
    ∙ calls_at-rounds_at-other k at calls other

calls_at-append :
    (at : ℕ) (rounds more : List Round) → calls_at at (rounds ++ more) ≡ calls_at at rounds ++ calls_at at more
calls_at-append at [] more = refl
calls_at-append at (round ∷ rounds) more =
    let rest = calls_at-append at rounds more in
    elim (round.slot == at) as (λ (is : Bool).
    (if is then round.call ∷ calls_at at (rounds ++ more) else calls_at at (rounds ++ more))
    ≡ (if is then round.call ∷ calls_at at rounds else calls_at at rounds) ++ calls_at at more)
    [ true ↦ ap (λ (calls : List Call). round.call ∷ calls) rest | false ↦ rest ]

pub calls_at-here :
    (at : ℕ) (rounds : List Round) (calls : List Call) →
    calls_at at (rounds ++ rounds_at at calls) ≡ calls_at at rounds ++ calls
calls_at-here at rounds calls =
    calls_at-append at rounds (rounds_at at calls)
    ∙ ap (λ (more : List Call). calls_at at rounds ++ more) (calls_at-rounds_at at calls)

pub calls_at-elsewhere :
    (k at : ℕ) (rounds : List Round) (calls : List Call) →
    k ≢ at → calls_at k (rounds ++ rounds_at at calls) ≡ calls_at k rounds
calls_at-elsewhere k at rounds calls other =
    calls_at-append k rounds (rounds_at at calls)
    ∙ ap (λ (more : List Call). calls_at k rounds ++ more) (calls_at-rounds_at-other k at calls other)
    ∙ append-nil (calls_at k rounds)

all_calls-rounds_at : (at : ℕ) (calls : List Call) → all_calls (rounds_at at calls) ≡ calls
all_calls-rounds_at at [] = refl
all_calls-rounds_at at (call ∷ calls) = ap (λ (rest : List Call). call ∷ rest) (all_calls-rounds_at at calls)

pub all_calls-append :
    (rounds : List Round) (at : ℕ) (calls : List Call) →
    all_calls (rounds ++ rounds_at at calls) ≡ all_calls rounds ++ calls
all_calls-append [] at calls = all_calls-rounds_at at calls
all_calls-append (round ∷ rounds) at calls =
    ap (λ (rest : List Call). round.call ∷ rest) (all_calls-append rounds at calls)
