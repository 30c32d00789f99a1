-- Histories that go on from others.
use Rattle.std.proofs.Common.{◌≡◌, List, ◌++◌, ap, drop, length, sym, take, take-append-drop, ◌∙◌}
use Rattle.catalogue.specs.Histories.{History}
use Rattle.publisher.specs.Beginnings.{StartsWith}
use Rattle.service_desks.specs.States.{GoesOn}

-- said by what is left
pub StartsWith-goes_on : (later earlier : History) → GoesOn later earlier → StartsWith later earlier
StartsWith-goes_on later earlier on = (
  drop (length earlier) later,
  sym (take-append-drop (length earlier) later) ∙ ap (λ (first : History). first ++ drop (length earlier) later) on,
)
