-- Which asks were granted, and so which ones weren't.
use Rattle.std.proofs.Common.{◌≡◌, ◌∙◌, ℕ, ◌+◌, ◌<◌, ◌≤◌, All, List, ap, arith, below_more, get_or, length, map, subst, sym}
use Rattle.std.proofs.lemmas.List.{get_or-map}
use Rattle.catalogue.specs.declared.mirror.Mirror.{Mirror}
use Rattle.mirror_ledger.specs.Asks.{AreGrantedBelow, Ask}
use Rattle.mirror_ledger.specs.Tills.{AreFull, HadNoRoom}

-- those below a number are below one that is no less
AreGrantedBelow-less : (bound less : ℕ) (asks : List Ask) → less ≤ bound → AreGrantedBelow bound asks → AreGrantedBelow less asks
AreGrantedBelow-less bound less asks is granted = λ k d below none. omega (arith, is, granted k d below none)

-- those of the tills so far, and of the next one
pub AreGrantedBelow-more :
    {T : Type 0} (asks : T → List Ask) (tills : List T) (index bound other less : ℕ) (next : T) →
    index < length tills → next ≡ get_or tills index next → less ≤ bound → less ≤ other →
    AreGrantedBelow other (asks next) →
    ((k : ℕ) (d : List Ask) → k < index → AreGrantedBelow bound (get_or (map asks tills) k d)) →
    (k : ℕ) (d : List Ask) → k < index + 1 → AreGrantedBelow less (get_or (map asks tills) k d)
AreGrantedBelow-more asks tills index bound other less next inside is at_bound at_other here before k d below =
    below_more (λ i. AreGrantedBelow less (get_or (map asks tills) i d)) index
    (λ i low. AreGrantedBelow-less bound less (get_or (map asks tills) i d) at_bound (before i d low))
    (subst (AreGrantedBelow less) (ap asks is ∙ sym (get_or-map asks tills index next d inside))
    (AreGrantedBelow-less other less (asks next) at_other here))
    k below

-- if the mirrors have no room for the bytes below which each ask was granted, they have none for any that was rejected
pub HadNoRoom-below :
    (mirrors : List Mirror) (workers : List (List Ask)) (totals : List ℕ) (bound : ℕ) →
    All (AreGrantedBelow bound) workers → AreFull mirrors totals bound → HadNoRoom mirrors workers totals
HadNoRoom-below mirrors workers totals bound granted full =
    λ k d below j ask inside none index there. omega (arith, full index there, granted k d below j ask inside none)
