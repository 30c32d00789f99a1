-- A restart: a service starts from what another one dumped, and replies as that one did; this project's profile.
use Rattle.std.specs.Prelude.{◌≡◌, ◌↔◌, ℕ, ◌<◌, ◌≤◌, List, [], ◌∷◌, length, Ok}
use Rattle.std.specs.List.{AllZip}
use Rattle.catalogue.specs.declared.edit.Edit.{Edit}
use Rattle.editions.specs.Editions.{IsAccepted, content_of}
use Rattle.http_desks.specs.Calls.{Call, Leads}
use Rattle.http_desks.specs.declared.desk.DeskStatus.{DeskStatus}
use Rattle.mirror_ledger.specs.Asks.{Ask}
use Rattle.omaha_json.specs.declared.request.Request.{Request}
use Rattle.service_desks.specs.Services.{service_of}
use Rattle.profile_toml.specs.Reading.{profile_of_bytes}
use Rattle.catalogue.specs.declared.mirror.Mirror.{Mirror}
use Rattle.service_desks.specs.Operators.{IsCall, IsDump}
use Rattle.service_desks.specs.States.{State, Store}
use Rattle.service_desks.specs.Workers.{stock_of}
use Rattle.replies.specs.Answering.{IsReply, Stock}
use Rattle.theorems.specs.Jobs.{Pending}
use Rattle.theorems.specs.Moves.{rendered_at}
use Rattle.theorems.specs.Services.{Service, content_at, opened, present}
use Rattle.theorems.specs.Ties.{state_of}

-- a mirror and the same one with a budget that is no less
pub record IsRaised (given now : Mirror) : Type 0 where
  pub name : now.name ≡ given.name
  pub codebase : now.codebase ≡ given.codebase
  pub from : given.budget ≤ now.budget

-- the calls of an operator leave the mirrors as they are, in order, with budgets that are no less
abbrev pub OperatorsOnlyRaise : Type 0
OperatorsOnlyRaise =
    (before after : State) (calls : List Call) → Leads IsCall before calls after → AllZip IsRaised before.mirrors after.mirrors

-- what starts from a profile: the program makes of it the service of one batch and its mirrors; the batch is accepted and
-- makes the content of a history, and the mirrors are those that were dumped, with their budgets at the dump
pub record StartsFrom (dumped : State) (text : List ℕ) : Type 0 where
  pub batch : List Edit
  pub read : profile_of_bytes text ≡ Ok (batch, dumped.mirrors)
  pub made : service_of (batch, dumped.mirrors) ≡ Ok (record { edition = batch ∷ []; mirrors = dumped.mirrors })
  pub opens : IsAccepted [] batch
  pub content : content_of (batch ∷ []) ≡ content_of dumped.history

-- each dump of a service is such a profile
abbrev pub DumpsAreProfiles : Type 0
DumpsAreProfiles =
    (state : State) (reply : DeskStatus × List ℕ) → IsDump state.mirrors state.history reply → StartsFrom state reply.1

-- two services reply alike to each request, at each time, by the same outcomes of their mirrors: what the one replies
-- the other may reply, and nothing else
pub record RepliesAlike (old new : Stock) : Type 0 where
  pub either :
      (request : Request) (moment : ℕ) (before after : List Ask) (text : List ℕ) →
      IsReply old request moment before after text ↔ IsReply new request moment before after text
  pub one :
      (request : Request) (moment : ℕ) (before after : List Ask) (text other : List ℕ) →
      IsReply old request moment before after text → IsReply new request moment before after other → other ≡ text

-- rule: Restart
-- a service that starts from a dump replies as the one that was dumped, whose operator called so much before
abbrev pub RestartsKeepReplies : Type 0
RestartsKeepReplies =
    (before dumped : State) (calls : List Call) (text : List ℕ) → Leads IsCall before calls dumped →
    (start : StartsFrom dumped text) →
    RepliesAlike (stock_of dumped.history before.mirrors) (stock_of (start.batch ∷ []) dumped.mirrors)

-- a service of the machine that opens with what a dump of another one is read as: its edition 1 has the content of the
-- other's last one, a job that enters either renders the same replies, each mirror has the same budget, and each total is
-- 0 again
pub record OpensAgain (mirrors : List Mirror) (old new : Service) : Type 0 where
  pub content : content_at new.history 1 ≡ content_at old.history (length old.history)
  pub replies :
      (moment : ℕ) (pending : Pending) →
      rendered_at (present mirrors old) (content_at new.history 1) moment pending
      ≡ rendered_at mirrors (content_at old.history (length old.history)) moment pending
  pub totals : (mirror : ℕ) → (new.books mirror).total ≡ 0
  pub budgets : (mirror : ℕ) → mirror < length mirrors → (new.books mirror).budget ≡ (old.books mirror).budget

-- each service that opens so does
abbrev pub ServicesOpenAgain : Type 0
ServicesOpenAgain =
    (mirrors : List Mirror) (service : Service) (store : Store) (text : List ℕ) (workers : ℕ)
    (start : StartsFrom (state_of mirrors service store) text) →
    OpensAgain mirrors service (opened (present mirrors service) (start.batch ∷ []) workers)
