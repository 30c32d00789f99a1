-- Beginnings of histories; this project's profile.
use Rattle.std.specs.Prelude.{◌≡◌, List, ◌++◌}
use Rattle.catalogue.specs.declared.edit.Edit.{Edit}

-- rule: Beginning of a history
-- the later history begins with all batches of the earlier one
abbrev pub StartsWith : List (List Edit) → List (List Edit) → Type 0
StartsWith later earlier = (rest : List (List Edit)) × (later ≡ earlier ++ rest)
