-- A history of accepted edits keeps a content valid.
use Rattle.std.proofs.Common.{List}
use Rattle.catalogue.proofs.ValidityLemmas.{IsValid-after}
use Rattle.catalogue.specs.declared.edit.Edit.{Edit}
use Rattle.catalogue.proofs.HistoryLemmas.{Makes, holds-Makes}
use Rattle.catalogue.proofs.KeyLemmas.{VersionLaws}
use Rattle.catalogue.specs.Validity.{IsValid}
use Rattle.catalogue.specs.declared.content.App.{App}
use Rattle.catalogue.specs.VersionLaws.{LenientAgrees, PrintIsPlain}

module _ (laws : VersionLaws) (agrees : LenientAgrees) (plain : PrintIsPlain) where
  -- what accepted edits make of a valid content
  pub IsValid-Makes :
      (edits : List Edit) (apps made : List App) → Makes edits apps made → IsValid apps → IsValid made
  IsValid-Makes = holds-Makes IsValid (IsValid-after laws agrees plain)
