-- What a view has learnt, beside what it has seen; this project's profile.
use Rattle.std.specs.Prelude.{◌≡◌, ◌≤◌, Bool, false, true, List, ◌∷◌, length}
use Rattle.catalogue.specs.Histories.{History}
use Rattle.publisher.specs.Beginnings.{StartsWith}
use Rattle.publisher.specs.Heard.{GoesOn, newest}
use Rattle.publisher.specs.declared.learnt.Learnt.{Learnt}
use Rattle.publisher.specs.declared.learnt.Learnt.TheVariants as learnt

-- the histories that were heard, with the one that was learnt
abbrev pub heard_with : Learnt → List History → List History
heard_with learnt.Nothing heard = heard
heard_with (learnt.Of history) heard = history ∷ heard
heard_with learnt.Lost heard = heard

-- what was learnt fits no history
abbrev pub is_lost : Learnt → Bool
is_lost learnt.Nothing = false
is_lost (learnt.Of history) = false
is_lost learnt.Lost = true

-- a history was learnt beside what was learnt before: what begins with all that is learnt afterwards begins with both
abbrev pub Joins : Learnt → History → Learnt → Type 0
Joins before history after =
    (now : History) (heard : List History) → is_lost after ≡ false → GoesOn now (heard_with after heard)
    → (is_lost before ≡ false) × GoesOn now (heard_with before heard) × StartsWith now history

-- the number of what is heard and learnt afterwards is not below that of before, nor below the history's
abbrev pub IsLonger : Learnt → History → Learnt → Type 0
IsLonger before history after =
    (heard : List History) → is_lost after ≡ false
    → (is_lost before ≡ false)
    × (newest (heard_with before heard) ≤ newest (heard_with after heard))
    × (length history ≤ newest (heard_with after heard))
