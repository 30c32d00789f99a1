-- What the workers and the operator of a service did, each by itself; this project's profile.
use Rattle.std.specs.Prelude.{◌≡◌, ℕ, ◌≤◌, List, [], length, None}
use Rattle.std.specs.List.{AllZip}
use Rattle.catalogue.specs.Histories.{History}
use Rattle.http_desks.specs.Calls.{Call, Leads}
use Rattle.mirror_ledger.specs.Asks.{Ask}
use Rattle.mirror_ledger.specs.Tills.{AreTotalsOf, HadNoRoom}
use Rattle.publisher.specs.Sights.{Allows, Sight, fresh}
use Rattle.catalogue.specs.declared.mirror.Mirror.{Mirror}
use Rattle.service_desks.specs.Operators.{IsCall as IsOperatorCall}
use Rattle.service_desks.specs.States.{State, Store}
use Rattle.service_desks.specs.Workers.{IsCall}

-- the proceedings of a service: the calls of each worker's desk, those of the operator's desk, and the totals
pub record Proceedings : Type 0 where
  pub workers : List (List Call)
  pub operator : List Call
  pub totals : List ℕ

-- a worker began with a view of a history, and had asked for nothing; its calls led it to these asks; and its view, as
-- it is then, may enter what the operator left
pub record IsWorked (mirrors : List Mirror) (start left : History) (calls : List Call) (asks : List Ask) : Type 0 where
  pub sight : Sight
  pub allowed : Allows sight left
  pub leads : Leads (IsCall mirrors) (record { sight = fresh start; asks = [] }) calls
      (record { sight = sight; asks = asks })

-- rule: Run of a service
-- one to four mirrors; an operator's calls led from a history, of which nothing was due, to what is left; each worker
-- worked; the totals are the sums of what the workers asked for, within the budgets that are left; and what was
-- rejected had no room, by the first budgets and the totals
pub record IsServed (mirrors : List Mirror) (start : History) (kept : Store) (proceedings : Proceedings)
    (left : State) : Type 0 where
  pub some : 1 ≤ length mirrors
  pub few : length mirrors ≤ 4
  pub due : kept.due ≡ None
  pub operated : Leads IsOperatorCall (record { mirrors = mirrors; history = start; store = kept })
      proceedings.operator left
  pub asks : List (List Ask)
  pub worked : AllZip (IsWorked mirrors start left.history) proceedings.workers asks
  pub summed : AreTotalsOf left.mirrors asks proceedings.totals
  pub rejected : HadNoRoom mirrors asks proceedings.totals
