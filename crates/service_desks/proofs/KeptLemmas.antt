-- The tables that a worker keeps, when its view looks a package up.
use Rattle.std.proofs.Common.{◌≡◌, inl, inr, ℕ, List, ◌++◌, Option, sym, ap, ◌∙◌, subst}
use Rattle.std.proofs.lemmas.Bool.{false≢true}
use Rattle.std.proofs.lemmas.List.{append_assoc}
use Rattle.catalogue.specs.Histories.{History}
use Rattle.publisher.specs.Beginnings.{StartsWith}
use Rattle.publisher.specs.Sights.{Allows, Sight, fresh}
use Rattle.values.specs.declared.declared.Declared.{Declared}
use Rattle.service_desks.specs.Entries.{Enters, FindsNoEntry}
use Rattle.service_desks.specs.Kept.{AreKept}
use Rattle.service_desks.specs.Workers.{Finds}
use Rattle.service_desks.specs.declared.kept_tables.KeptTables.{KeptTables}

-- a beginning of a beginning
begins-trans : (later now before : History) → StartsWith later now → StartsWith now before → StartsWith later before
begins-trans later now before on from =
    (from.0 ++ on.0, on.1 ∙ ap (λ (start : History). start ++ on.0) from.1 ∙ append_assoc before from.0 on.0)

module _ (kept : KeptTables) where
  -- a view that found no entry may enter what it could before, or nothing
  pub AreKept-lost : (before after : Sight) → FindsNoEntry before after → AreKept before kept → AreKept after kept
  AreKept-lost before after lost are = elim lost [
    | inl same ↦ subst (λ (sight : Sight). AreKept sight kept) (sym same) are
    | inr gone ↦ record {
      history = are.history;
      are = are.are;
      begin = λ now allows. absurd (false≢true (sym allows.0 ∙ gone.0));
    }
  ]

  -- after it entered, it may enter what begins with the history that it entered
  AreKept-entered : (before : Sight) (history : History) (after : Sight) → Enters before history after → AreKept before kept → AreKept after kept
  AreKept-entered before history after enters are = record {
    history = are.history;
    are = are.are;
    begin = λ later allows.
        let left : Allows (fresh history) later = subst (λ (sight : Sight). Allows sight later) enters.left allows in
        begins-trans later history are.history left.1.0 (are.begin history enters.allowed);
  }

  -- a look-up of a package leaves them
  pub AreKept-found : (before : Sight) (name : List ℕ) (found : Option Declared) (after : Sight) → Finds before name found after → AreKept before kept → AreKept after kept
  AreKept-found before name found after finds are = elim finds [
    | inl entered ↦ AreKept-entered before entered.0 after entered.1 are
    | inr lost ↦ AreKept-lost before after lost.0 are
  ]
