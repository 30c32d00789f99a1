-- How a view enters an edition for one call of a worker; this project's profile.
use Rattle.std.specs.Prelude.{◌≡◌, ◌≤◌, ◌⊎◌, true, length}
use Rattle.catalogue.specs.Histories.{History, LeadsTo}
use Rattle.editions.specs.Editions.{content_of}
use Rattle.publisher.specs.Sights.{Allows, Sight, fresh}

-- rule: Entry for a call
-- the view entered an edition whose history was accepted, begins with all that the view had seen or learnt and is
-- not shorter, and it then holds just that history
pub record Enters (before : Sight) (history : History) (after : Sight) : Type 0 where
  pub accepted : LeadsTo history (content_of history)
  pub allowed : Allows before history
  pub risen : before.seen ≤ length history
  pub left : after ≡ fresh history

-- the view found no entry: it is as it was, or lost, and has seen as many batches as before
abbrev pub FindsNoEntry : Sight → Sight → Type 0
FindsNoEntry before after = (after ≡ before) ⊎ ((after.lost ≡ true) × (after.seen ≡ before.seen))
