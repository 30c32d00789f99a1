-- What a view has seen or learnt; this project's profile.
use Rattle.std.specs.Prelude.{◌≡◌, ℕ, Bool, false, List, [], ◌∷◌, length}
use Rattle.catalogue.specs.Histories.{History}
use Rattle.publisher.specs.Beginnings.{StartsWith}
use Rattle.publisher.specs.Heard.{GoesOn}

-- a view: the histories that it has seen or learnt, whether no history begins with all that it has learnt, and the
-- greatest number of them
pub record Sight : Type 0 where
  pub heard : List History
  pub lost : Bool
  pub seen : ℕ

-- rule: Entry of a view
-- a view may enter an edition of the history: it begins with all that the view has seen or learnt
abbrev pub Allows : Sight → History → Type 0
Allows sight now = (sight.lost ≡ false) × GoesOn now sight.heard

-- rule: Learnt history
-- a view has learnt a history: each history that it may enter afterwards begins with it, and could be entered before
abbrev pub Learns : Sight → History → Sight → Type 0
Learns before history after = (now : History) → Allows after now → Allows before now × StartsWith now history

-- a view that has seen one history
abbrev pub fresh : History → Sight
fresh history = record { heard = history ∷ []; lost = false; seen = length history }
