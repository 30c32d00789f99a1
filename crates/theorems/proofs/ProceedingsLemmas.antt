-- Proceedings that are of a run, and some that are of none.
use Rattle.std.proofs.Common.{◌≡◌, ℕ, zero, suc, ◌<◌, ◌≤◌, inl, List, [], ◌∷◌, length, take, None, refl, sym, ap, ◌∙◌, arith}
use Rattle.std.specs.List.{AllZip}
use Rattle.std.specs.Prelude.{codes, slice_index}
use Rattle.hex.proofs.OnLiterals.{hex_on_literals}
use Rattle.catalogue.specs.Histories.{History, LeadsTo}
use Rattle.cohorts.specs.CohortTexts.{parsed}
use Rattle.editions.specs.Editions.{content_of}
use Rattle.mirror_ledger.specs.Asks.{Ask}
use Rattle.mirror_ledger.specs.Named.{budget_at}
use Rattle.mirror_ledger.specs.Tills.{HadNoRoom, granted_by}
use Rattle.publisher.specs.Sights.{Allows, fresh}
use Rattle.catalogue.specs.Forms.{hash_of}
use Rattle.catalogue.specs.Lookups.{declared_of}
use Rattle.service_desks.specs.Served.{IsServed, IsWorked}
use Rattle.service_desks.specs.States.{State, Store}
use Rattle.service_desks.specs.Workers.{Progress}
use Rattle.theorems.specs.Runs.{small_batch, small_mirrors}
use Rattle.theorems.specs.ServedRuns.{LookedUp, idle_proceedings, left_unpublished, made_up}
use Rattle.catalogue.specs.Versions as version
use Rattle.theorems.proofs.WrongLemmas.{apart}

-- the small history is accepted
small-leads : LeadsTo (small_batch ∷ []) (content_of (small_batch ∷ []))
unfolding hex_on_literals version.version_of version.components_of version.lenient_version_of hash_of parsed
small-leads = refl

unknown-name : declared_of (content_of (small_batch ∷ [])) (codes "none") ≡ None
unfolding hex_on_literals version.version_of version.components_of version.lenient_version_of hash_of parsed
unknown-name = refl

none-within : (index : ℕ) → index < 1 → slice_index (0 ∷ []) index ≤ budget_at small_mirrors index
none-within zero below = omega arith
none-within (suc index) below = absurd (omega arith)

nothing-asked : HadNoRoom small_mirrors ([] ∷ []) (0 ∷ [])
nothing-asked zero asks below = λ k ask low. absurd (omega (arith, low))
nothing-asked (suc worker) asks below = absurd (omega arith)

pub looked_up : LookedUp
looked_up first records =
    let history = small_batch ∷ [] in
    let allows : Allows (fresh history) history = (refl, (([], refl), tt)) in
    record {
      some = omega arith;
      few = omega arith;
      due = refl;
      operated = refl;
      asks = [] ∷ [];
      worked = (
        record {
          sight = fresh history;
          allowed = allows;
          leads = (
            record { sight = fresh history; asks = [] },
            (
              inl (
                history,
                record { accepted = small-leads; allowed = allows; risen = omega arith; left = refl },
                sym unknown-name,
              ),
              refl,
            ),
            refl,
          );
        },
        tt,
      );
      summed = record { sums = refl; within = none-within };
      rejected = nothing-asked;
    }

-- who is called for nothing asks for nothing
none-asked : (left : History) (asks : List (List Ask)) →
    AllZip (IsWorked small_mirrors (small_batch ∷ []) left) ([] ∷ []) asks → granted_by asks 0 ≡ 0
none-asked left [] worked = absurd worked
none-asked left (own ∷ []) worked =
    let same : own ≡ [] = ap (λ (p : Progress). p.asks) worked.0.leads in
    ap (λ (a : List Ask). granted_by (a ∷ []) 0) same
none-asked left (own ∷ (other ∷ asks)) worked = absurd worked.1

pub made_up_totals : (kept : Store) (left : State) → ¬ (IsServed small_mirrors (small_batch ∷ []) kept made_up left)
made_up_totals kept left served =
    let start = ap (λ (s : State). s.mirrors) served.operated in
    let none = none-asked left.history served.asks served.worked in
    let total : 3 ≡ granted_by served.asks 0 =
    ap (λ (ts : List ℕ). slice_index ts 0) served.summed.sums
    ∙ ap (λ ms. slice_index (take (length ms) (granted_by served.asks 0 ∷ granted_by served.asks 1 ∷
    granted_by served.asks 2 ∷ granted_by served.asks 3 ∷ [])) 0) start in
    apart 3 0 refl (total ∙ none)

pub unpublished : (kept : Store) (state : State) →
    ¬ (IsServed small_mirrors (small_batch ∷ []) kept idle_proceedings (left_unpublished state))
unpublished kept state served =
    apart 2 1 refl (ap (λ (s : State). length s.history) served.operated)
