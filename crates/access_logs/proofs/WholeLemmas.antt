-- A log that was written from its beginning.
use Rattle.std.proofs.Common.{◌≡◌, ◌∙◌, ◌++◌, ◌-◌, ℕ, zero, suc, Bool, false, List, [], ◌∷◌, All, length, map, refl, sym, subst, ap, arith}
use Rattle.std.proofs.lemmas.List.{length-append}
use Rattle.std.proofs.lemmas.List.Elements.{All-head, All-tail}
use Rattle.streams.specs.Streams.{Known}
use Rattle.access_logs.specs.Queues.{HasReceived, HaveLogged, HaveWritten, IsWhole, WrittenIn}
use Rattle.access_logs.proofs.RoundLemmas.{HaveLogged-next}

-- a round is of all rings
HaveWritten-length :
    (befores afters : List (List ℕ)) (old new : Known) (was is : Bool) → HaveWritten befores afters old new was is →
    length befores ≡ length afters
HaveWritten-length [] [] old new was is written = refl
HaveWritten-length [] (after ∷ afters) old new was is written = absurd written
HaveWritten-length (before ∷ befores) [] old new was is written = absurd written
HaveWritten-length (before ∷ befores) (after ∷ afters) old new was is (between, was_between, one, rest) =
    ap suc (HaveWritten-length befores afters between new was_between is rest)

-- several rounds are of the same rings
WrittenIn-length :
    (rounds : ℕ) (befores afters : List (List ℕ)) (old new : Known) (was is : Bool) →
    WrittenIn rounds befores afters old new was is → length befores ≡ length afters
WrittenIn-length zero befores afters old new was is (same, same_known, same_cut) = ap length (sym same)
WrittenIn-length (suc rounds) befores afters old new was is (middles, between, was_between, one, rest) =
    HaveWritten-length befores middles old between was was_between one
    ∙ WrittenIn-length rounds middles afters between new was_between is rest

-- nothing was received of as many as there are
nothing-of :
    (nothings others : List (List ℕ)) → All (λ (xs : List ℕ). xs ≡ []) nothings → length nothings ≡ length others →
    nothings ≡ map (λ (_ : List ℕ). []) others
nothing-of [] [] all many = refl
nothing-of [] (other ∷ others) all many = absurd (omega (arith, many))
nothing-of (one ∷ nothings) [] all many = absurd (omega (arith, many))
nothing-of (one ∷ nothings) (other ∷ others) all many =
    ap (λ (xs : List ℕ). xs ∷ nothings) (All-head (λ (xs : List ℕ). xs ≡ []) one nothings all)
    ∙ ap (λ (xss : List (List ℕ)). [] ∷ xss)
    (nothing-of nothings others (All-tail (λ (xs : List ℕ). xs ≡ []) one nothings all) (omega (arith, many)))

-- what was logged from the beginning of so many rings, and then written in a last round, is whole
pub IsWhole-last :
    (befores middles afters sents : List (List ℕ)) (old between new : Known) (was was_between is : Bool) (total : ℕ) →
    length befores ≡ total → All (λ (xs : List ℕ). xs ≡ []) befores → was ≡ false →
    HaveLogged befores middles old between was was_between → HaveWritten middles afters between new was_between is →
    HasReceived sents afters → IsWhole (total - length sents) sents old new
IsWhole-last befores middles afters sents old between new was was_between is total rings unread whole logged written (others, all) =
    let last = HaveLogged-next befores middles afters old between new was was_between is logged written in
    let many : length befores ≡ length (sents ++ others) =
    WrittenIn-length last.0 befores afters old new was is last.1 ∙ ap length all
    in (
      others,
      is,
      omega (arith, rings, many, length-append sents others),
      subst (λ (those : List (List ℕ)). HaveLogged those (sents ++ others) old new false is)
          (nothing-of befores (sents ++ others) unread many)
          (subst (λ (those : List (List ℕ)). HaveLogged befores those old new false is) all
          (subst (λ (cut : Bool). HaveLogged befores afters old new cut is) whole last)),
    )
