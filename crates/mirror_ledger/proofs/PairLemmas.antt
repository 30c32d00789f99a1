-- What became of jobs with tills.
use Rattle.std.proofs.Common.{◌≡◌, ◌∙◌, ◌&&◌, ℕ, suc, arith, Bool, false, length, nat_eq, true, List, [], ◌∷◌, All, Result, Ok, Err, ap, sym, map, refl, subst}
use Rattle.std.specs.List.{AllZip}
use Rattle.std.proofs.lemmas.Bool.{eqb-true, false≢true}
use Rattle.std.proofs.lemmas.List.{length-map}
use Rattle.std.proofs.lemmas.Slice.Zip.{AllZip-long}
use Rattle.catalogue.specs.declared.mirror.Mirror.{Mirror}
use Rattle.worker_threads.specs.Jobs.{EndsAs}
use Rattle.mirror_ledger.specs.Asks.{Ask}
use Rattle.mirror_ledger.specs.Running.{end_of, till_of}
use Rattle.mirror_ledger.specs.Tills.{AreOpened, HaveWorked, IsFresh, WorksAs}
use Rattle.mirror_ledger.specs.declared.job.WithTill.{WithTill}

-- each of two tests that are both true
pub both-true : (a b : Bool) → (a && b) ≡ true → (a ≡ true) × (b ≡ true)
both-true true b is = (refl, is)
both-true false b is = absurd (false≢true is)

module _ {J T E : Type 0} (comes_to : Bool → List Mirror → J → List Ask → E → Type 0) (mirrors_of : T → List Mirror)
    (asks_of : T → List Ask) (Alone : T → Type 0) (single : Bool) (mirrors : List Mirror) where
  -- what a job with its till comes to
  abbrev comes : WithTill J T → T × E → Type 0
  comes pair end =
      (one : Bool) → (one ≡ true → Alone pair.till) → asks_of pair.till ≡ [] → comes_to one (mirrors_of pair.till) pair.job (asks_of end.0) end.1

  abbrev Fresh : WithTill J T → Type 0
  Fresh pair = IsFresh mirrors_of asks_of Alone single mirrors pair.till

  abbrev done : Result (T × E) (WithTill J T) → List Ask × Result E J
  done ran = (asks_of (till_of ran), end_of ran)

  one-works : (pair : WithTill J T) (ran : Result (T × E) (WithTill J T)) → Fresh pair → EndsAs comes pair ran →
      WorksAs (comes_to single mirrors) pair.job (done ran).0 (done ran).1
  one-works pair (Ok end) fresh ended =
      subst (λ (all : List Mirror). comes_to single all pair.job (asks_of end.0) end.1) fresh.mirrored (ended single fresh.alone fresh.unused)
  one-works pair (Err back) fresh same = (ap (λ p. p.job) same, ap (λ p. asks_of p.till) same ∙ fresh.unused)

  all-work : (pairs : List (WithTill J T)) (all : List (Result (T × E) (WithTill J T))) → All Fresh pairs → AllZip (EndsAs comes) pairs all →
      AllZip (λ job its. WorksAs (comes_to single mirrors) job its.0 its.1) (map (λ pair. pair.job) pairs) (map done all)
  all-work [] [] fresh ended = tt
  all-work [] (ran ∷ all) fresh ended = absurd ended
  all-work (pair ∷ pairs) [] fresh ended = absurd ended
  all-work (pair ∷ pairs) (ran ∷ all) fresh ended = (
    one-works pair ran (fresh 0 pair (omega arith)) ended.0,
    all-work pairs all (λ k d below. fresh (suc k) d (omega (arith, below))) ended.1,
  )

  asks-apart : (all : List (Result (T × E) (WithTill J T))) → map asks_of (map till_of all) ≡ map (λ (its : List Ask × Result E J). its.0) (map done all)
  asks-apart [] = refl
  asks-apart (ran ∷ all) = ap (λ rest. asks_of (till_of ran) ∷ rest) (asks-apart all)

  ends-apart : (all : List (Result (T × E) (WithTill J T))) → map end_of all ≡ map (λ (its : List Ask × Result E J). its.1) (map done all)
  ends-apart [] = refl
  ends-apart (ran ∷ all) = ap (λ rest. end_of ran ∷ rest) (ends-apart all)

  -- what became of each job, and the asks of each
  pub HaveWorked-pairs : (jobs : List J) (pairs : List (WithTill J T)) (all : List (Result (T × E) (WithTill J T)))
      (tills : List T) (ends : List (Result E J)) →
      map (λ pair. pair.job) pairs ≡ jobs → All Fresh pairs → AllZip (EndsAs comes) pairs all →
      tills ≡ map till_of all → ends ≡ map end_of all →
      HaveWorked (comes_to single mirrors) jobs (map asks_of tills) ends
  HaveWorked-pairs jobs pairs all tills ends own fresh ended these those = record {
    worked = map done all;
    each = subst (λ xs. AllZip (λ job its. WorksAs (comes_to single mirrors) job its.0 its.1) xs (map done all)) own (all-work pairs all fresh ended);
    asked = ap (map asks_of) these ∙ asks-apart all;
    ended = those ∙ ends-apart all;
  }

  -- as many tills as jobs
  pub as_many : (jobs : List J) (pairs : List (WithTill J T)) (all : List (Result (T × E) (WithTill J T))) (tills : List T) →
      map (λ pair. pair.job) pairs ≡ jobs → AllZip (EndsAs comes) pairs all → tills ≡ map till_of all → length tills ≡ length jobs
  as_many jobs pairs all tills own ended these =
      ap length these ∙ length-map all till_of ∙ AllZip-long (EndsAs comes) pairs all ended ∙ sym (ap length (sym own) ∙ length-map pairs (λ pair. pair.job))

module _ {T : Type 0} {mirrors_of : T → List Mirror} {asks_of : T → List Ask} {Alone : T → Type 0} {mirrors : List Mirror} where
  -- tills that were opened for some workers are fresh
  pub AreFresh : {tills : List T} (fixed : Bool) (workers : ℕ) → AreOpened mirrors_of asks_of Alone fixed mirrors tills → length tills ≡ workers →
      All (IsFresh mirrors_of asks_of Alone (fixed && nat_eq workers 1) mirrors) tills
  AreFresh {tills} fixed workers opened many k d below = record {
    mirrored = opened.mirrored k d below;
    unused = opened.unused k d below;
    alone = λ is.
        let both = both-true fixed (nat_eq workers 1) is in
        opened.alone both.0 (many ∙ eqb-true workers 1 both.1) k d below;
  }
