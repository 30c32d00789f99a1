-- Lists of jobs and of what they came to, the last one first.
use Rattle.std.proofs.Common.{◌≡◌, List, [], ◌∷◌, ◌++◌, append_assoc, reverse, subst, sym, ap, ◌∙◌}
use Rattle.std.specs.List.{AllZip}
use Rattle.std.proofs.lemmas.List.{reverse-append, reverse-reverse}
use Rattle.std.proofs.lemmas.Slice.Zip.{all_zipped_more}
use Rattle.worker_threads.specs.Started.{Comes, IsStarted}
use Rattle.worker_threads.specs.declared.started.Started.{Started}
use Rattle.worker_threads.specs.declared.started.Started.TheVariants.{Thread, Here}

-- the last item of a list is the first one of what follows
pub one_less : {A : Type 0} (before after : List A) (x : A) (rest : List A) → before ≡ after ++ x ∷ [] → before ++ rest ≡ after ++ x ∷ rest
one_less before after x rest popped = ap (λ xs. xs ++ rest) popped ∙ append_assoc after (x ∷ []) rest

-- one more pair, whose first part was the last of a list and is now the first of its rest
pub zip-front : {A B : Type 0} (R : A → B → Type 0) (x : A) (rest : List A) (y : B) (ys : List B) →
    AllZip R (reverse rest) ys → R x y → AllZip R (reverse (x ∷ rest)) (ys ++ y ∷ [])
zip-front R x rest y ys zipped holds =
    subst (λ xs. AllZip R xs (ys ++ y ∷ [])) (sym (reverse-append (x ∷ []) rest)) (all_zipped_more R (reverse rest) ys x y zipped holds)

-- two lists that agree do so from their ends
zip-reverse : {A B : Type 0} (R : A → B → Type 0) (xs : List A) (ys : List B) → AllZip R xs ys → AllZip R (reverse xs) (reverse ys)
zip-reverse R [] [] zipped = tt
zip-reverse R [] (y ∷ ys) zipped = absurd zipped
zip-reverse R (x ∷ xs) [] zipped = absurd zipped
zip-reverse R (x ∷ xs) (y ∷ ys) zipped =
    subst (AllZip R (reverse (x ∷ xs))) (sym (reverse-append (y ∷ []) ys)) (zip-front R x xs y (reverse ys) (zip-reverse R xs ys zipped.1) zipped.0)

module _ {J T P : Type 0} (comes_to : J → T → Type 0) (job_of : P → J) where
  -- a promise that a thread's result is what its job comes to
  abbrev kept : P → T → Type 0
  kept promise result = comes_to (job_of promise) result

  one-end : (job : J) (started : Started T P) (result : T) → IsStarted comes_to job_of job started → Comes kept started result → comes_to job result
  one-end job (Thread handle) result is comes = subst (λ j. comes_to j result) is comes
  one-end job (Here was) result is comes = subst (comes_to job) (sym comes) is

  all-ends : (jobs : List J) (handles : List (Started T P)) (results : List T) →
      AllZip (IsStarted comes_to job_of) jobs handles → AllZip (Comes kept) handles results → AllZip comes_to jobs results
  all-ends [] [] [] started ended = tt
  all-ends [] [] (result ∷ results) started ended = absurd ended
  all-ends [] (handle ∷ handles) results started ended = absurd started
  all-ends (job ∷ jobs) [] results started ended = absurd started
  all-ends (job ∷ jobs) (handle ∷ handles) [] started ended = absurd ended
  all-ends (job ∷ jobs) (handle ∷ handles) (result ∷ results) started ended =
      (one-end job handle result started.0 ended.0, all-ends jobs handles results started.1 ended.1)

  -- what each job came to, by the thread that was started for it
  pub ends_of : (jobs : List J) (handles : List (Started T P)) (results : List T) →
      AllZip (IsStarted comes_to job_of) (reverse jobs) handles → AllZip (Comes kept) (reverse handles) results →
      AllZip comes_to jobs results
  ends_of jobs handles results started ended =
      all-ends jobs (reverse handles) results
      (subst (λ all. AllZip (IsStarted comes_to job_of) all (reverse handles)) (reverse-reverse jobs)
      (zip-reverse (IsStarted comes_to job_of) (reverse jobs) handles started)) ended
