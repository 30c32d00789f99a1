-- The steps that keep the rule of the published edition.
use Rattle.std.proofs.Common.{◌≡◌, ◌≢◌, ℕ, List, [], ◌∷◌, ◌++◌, fold, set, refl, subst, ⊎_elim}
use mathlib.Core.Option.{some}
use lib.ListN.{get_elem?}
use Rattle.crossbeam_utils.specs.Register.{Admits, TurnsAt, Forks, Merges}
use Rattle.atomic_table.proofs.Lists.{at_set, at_snoc}
use Rattle.std.specs.Arc.{arc_value}
use Rattle.catalogue.specs.Histories.{History}
use Rattle.publisher.specs.Beginnings.{StartsWith}
use Rattle.publisher.specs.declared.shown.Shown.{Shown}
use Rattle.publisher.specs.Heard.{GoesOn}
use Rattle.publisher.specs.Rule.{Keeps, Meets}
use Rattle.publisher.proofs.HeardLemmas.{goes_on-append, goes_on-later, starts_with-self}

keeps-set : (now : History) (views : List (List History)) (changed : ℕ) (heard : List History)
    → Keeps now views → GoesOn now heard → Keeps now (set views changed heard)
keeps-set now views changed heard keeps goes_on seat other at =
    ⊎_elim
    (λ (t : (seat ≡ changed) × (heard ≡ other)). subst (GoesOn now) t.1 goes_on)
    (λ (t : (seat ≢ changed) × (get_elem? views seat ≡ some other)). keeps seat other t.1)
    (at_set views changed seat heard other at)

keeps-later : (later now : History) (views : List (List History)) → StartsWith later now → Keeps now views
    → Keeps later views
keeps-later later now views on keeps seat heard at = goes_on-later later now on heard (keeps seat heard at)

pub admits : Admits (λ (x : Shown). Keeps (arc_value x.edition)) []
admits x views keeps seat heard at =
    ⊎_elim
    (keeps seat heard)
    (λ (e : [] ≡ heard). subst (GoesOn (arc_value x.edition)) e tt)
    (at_snoc views [] heard seat at)

pub turns : (seat : ℕ) (heard : List History) (x y : Shown) → StartsWith (arc_value y.edition) (arc_value x.edition)
    → TurnsAt (λ (x : Shown). Keeps (arc_value x.edition)) seat heard x y (λ v x y w. Meets v (arc_value y.edition) w)
turns seat heard x y on views keeps at =
    let now : History = arc_value y.edition in
    let all : Keeps now views = keeps-later now (arc_value x.edition) views on keeps in
    (now ∷ [], keeps-set now views seat (now ∷ []) all (starts_with-self now, tt), (refl, all seat heard at))

pub forks : (seat : ℕ) (heard : List History)
    → Forks (λ (x : Shown). Keeps (arc_value x.edition)) seat heard heard heard
forks seat heard x views keeps at other_seat other there =
    let now : History = arc_value x.edition in
    ⊎_elim
    (keeps-set now views seat heard keeps (keeps seat heard at) other_seat other)
    (λ (e : heard ≡ other). subst (GoesOn now) e (keeps seat heard at))
    (at_snoc (set views seat heard) heard other other_seat there)

pub merges : (seat : ℕ) (heard : List History) (other : ℕ) (note : List History)
    → Merges (λ (x : Shown). Keeps (arc_value x.edition)) seat heard other note (heard ++ note) []
merges seat heard other note x views keeps at apart there =
    let now : History = arc_value x.edition in
    let noted : GoesOn now note =
    ⊎_elim
    (λ (t : (other ≡ seat) × (heard ++ note ≡ note)). absurd (apart t.0))
    (λ (t : (other ≢ seat) × (get_elem? views other ≡ some note)). keeps other note t.1)
    (at_set views seat other (heard ++ note) note there)
    in
    let all = goes_on-append now heard note (keeps seat heard at) noted in
    let both = keeps-set now views seat (heard ++ note) keeps all in
    keeps-set now (set views seat (heard ++ note)) other [] both tt

-- of whole editions that follow each other, the last one counts
pub fold-last : {O : Type 0} (value : O → History) (first : History) (earlier : List O) (last : O)
    → fold (λ (_ : History) (next : O). value next) first (earlier ++ last ∷ []) ≡ value last
fold-last value first [] last = refl
fold-last value first (next ∷ others) last = fold-last value (value next) others last
