-- What has been written in several rounds.
use Rattle.std.proofs.Common.{ℕ, zero, suc, Bool, List, refl, sym, subst}
use Rattle.streams.specs.Streams.{Known}
use Rattle.access_logs.specs.Queues.{HaveWritten, HaveLogged, WrittenIn}

-- another round
WrittenIn-next :
    (rounds : ℕ) (befores middles afters : List (List ℕ)) (old between new : Known) (was was_between is : Bool) →
    WrittenIn rounds befores middles old between was was_between → HaveWritten middles afters between new was_between is →
    WrittenIn (suc rounds) befores afters old new was is
WrittenIn-next zero befores middles afters old between new was was_between is (same, same_known, same_cut) written = (
  afters,
  new,
  is,
  subst (λ (those : List (List ℕ)). HaveWritten those afters old new was is) same
      (subst (λ (known : Known). HaveWritten middles afters known new was is) same_known
      (subst (λ (cut : Bool). HaveWritten middles afters between new cut is) same_cut written)),
  (refl, refl, refl),
)
WrittenIn-next (suc rounds) befores middles afters old between new was was_between is (firsts, first, was_first, one, rest) written =
    (firsts, first, was_first, one, WrittenIn-next rounds firsts middles afters first between new was_first was_between is rest written)

-- rounds after rounds
WrittenIn-after :
    (rounds others : ℕ) (befores middles afters : List (List ℕ)) (old between new : Known) (was was_between is : Bool) →
    WrittenIn rounds befores middles old between was was_between → WrittenIn others middles afters between new was_between is →
    HaveLogged befores afters old new was is
WrittenIn-after rounds zero befores middles afters old between new was was_between is some (same, same_known, same_cut) = (
  rounds,
  subst (λ (those : List (List ℕ)). WrittenIn rounds befores those old new was is) (sym same)
      (subst (λ (known : Known). WrittenIn rounds befores middles old known was is) (sym same_known)
      (subst (λ (cut : Bool). WrittenIn rounds befores middles old between was cut) (sym same_cut) some)),
)
WrittenIn-after rounds (suc others) befores middles afters old between new was was_between is some (nexts, next, was_next, one, rest) =
    WrittenIn-after (suc rounds) others befores nexts afters old next new was was_next is
    (WrittenIn-next rounds befores middles nexts old between next was was_between was_next some one) rest

-- what was logged twice in a row was logged
pub HaveLogged-after :
    (befores middles afters : List (List ℕ)) (old between new : Known) (was was_between is : Bool) →
    HaveLogged befores middles old between was was_between → HaveLogged middles afters between new was_between is →
    HaveLogged befores afters old new was is
HaveLogged-after befores middles afters old between new was was_between is (rounds, some) (others, more) =
    WrittenIn-after rounds others befores middles afters old between new was was_between is some more

-- what was logged, and then written in another round, was logged
pub HaveLogged-next :
    (befores middles afters : List (List ℕ)) (old between new : Known) (was was_between is : Bool) →
    HaveLogged befores middles old between was was_between → HaveWritten middles afters between new was_between is →
    HaveLogged befores afters old new was is
HaveLogged-next befores middles afters old between new was was_between is (rounds, some) written =
    (suc rounds, WrittenIn-next rounds befores middles afters old between new was was_between is some written)
