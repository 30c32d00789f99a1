-- What a history leads to is valid; what is not accepted leads to the empty content.
use Rattle.std.proofs.Common.{◌≡◌, List, [], Result, Ok, Err, refl, arith}
use Rattle.catalogue.specs.Batches.{run}
use Rattle.catalogue.specs.declared.fault.Refused.{Refused}
use Rattle.catalogue.specs.Histories.{HistoriesAreValid, History}
use Rattle.catalogue.specs.Validity.{IsValid}
use Rattle.catalogue.specs.declared.content.App.{App}
use Rattle.editions.specs.Editions.{content_of, content_or_none}

IsValid-empty : IsValid []
IsValid-empty =
    record { few_apps = omega arith; ids_once = λ id. omega arith; names_once = λ name. omega arith; apps_valid = tt }

pub IsValid-content : HistoriesAreValid → (history : History) → IsValid (content_of history)
IsValid-content are_valid history = cases (run history []) refl
  where
    cases : (result : Result (List App) Refused) → run history [] ≡ result → IsValid (content_or_none result)
    cases (Ok apps) led = are_valid history apps led
    cases (Err refused) led = IsValid-empty
