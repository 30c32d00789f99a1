-- What is known of a list of tests that finds no fault.
use Rattle.std.proofs.Common.{◌≡◌, Bool, true, false, not, List, [], ◌∷◌, Option, Some, None, refl}
use Rattle.std.specs.Option.{is_some, is_none}
use Rattle.catalogue.specs.Faults.{first_fault}
use Rattle.catalogue.specs.declared.fault.Fault.{Fault}

-- no test of the list is true
abbrev pub NoneHold : List (Bool × Fault) → Type 0
NoneHold [] = Unit {0}
NoneHold (test ∷ tests) = (test.0 ≡ false) × NoneHold tests

pub NoneHold-first_fault : (tests : List (Bool × Fault)) → first_fault tests ≡ None → NoneHold tests
NoneHold-first_fault [] h = tt
NoneHold-first_fault ((true, fault) ∷ tests) h = absurd cc
NoneHold-first_fault ((false, fault) ∷ tests) h = (refl, NoneHold-first_fault tests h)

pub None-from_not_some : {A : Type 0} (o : Option A) → is_some o ≡ false → o ≡ None
None-from_not_some None h = refl
None-from_not_some (Some x) h = absurd cc

pub Some-from_not_none : {A : Type 0} (o : Option A) → is_none o ≡ false → (x : A) × (o ≡ Some x)
Some-from_not_none None h = absurd cc
Some-from_not_none (Some x) h = (x, refl)

pub true-from_not : (b : Bool) → not b ≡ false → b ≡ true
true-from_not true h = refl
true-from_not false h = absurd cc
