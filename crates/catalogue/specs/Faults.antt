-- The first fault of an edit: its tests are tried in order; this project's profile.
use Rattle.std.specs.Prelude.{Bool, true, false, List, [], ◌∷◌, Option, Some, None}
use Rattle.catalogue.specs.declared.fault.Fault.{Fault}

-- the first fault of the list whose test is true
abbrev pub first_fault : List (Bool × Fault) → Option Fault
first_fault [] = None
first_fault ((true, fault) ∷ tests) = Some fault
first_fault ((false, fault) ∷ tests) = first_fault tests
