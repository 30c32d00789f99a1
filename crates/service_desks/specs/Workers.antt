-- The desk of a worker: how it replies to a message, and which packages it knows; this project's profile.
use Rattle.std.specs.Prelude.{◌≡◌, ◌⊎◌, ℕ, List, [], Option, None, Result, Ok, Err}
use Rattle.catalogue.specs.Histories.{History}
use Rattle.editions.specs.Editions.{content_of}
use Rattle.http_desks.specs.Calls.{Call, Asks, Looks, Shows}
use Rattle.http_desks.specs.declared.desk.DeskStatus.{DeskStatus}
use Rattle.http_desks.specs.declared.desk.DeskStatus.TheVariants as status
use Rattle.http_desks.specs.declared.desk.Off.{Off}
use Rattle.http_desks.specs.declared.desk.Off.TheVariants as off
use Rattle.mirror_ledger.specs.Asks.{Ask}
use Rattle.omaha_json.specs.RequestReading.{request_of_bytes}
use Rattle.omaha_json.specs.declared.fault.RequestFault.{RequestFault}
use Rattle.omaha_json.specs.declared.request.Request.{Request}
use Rattle.publisher.specs.Sights.{Sight}
use Rattle.catalogue.specs.Lookups.{declared_of}
use Rattle.catalogue.specs.declared.mirror.Mirror.{Mirror}
use Rattle.values.specs.declared.declared.Declared.{Declared}
use Rattle.replies.specs.Answering.{HasBegun, IsReply, Stock}
use Rattle.service_desks.specs.Entries.{Enters, FindsNoEntry}

-- what a worker has seen or learnt, and what it has asked its mirrors for
pub record Progress : Type 0 where
  pub sight : Sight
  pub asks : List Ask

-- what is offered by a history over mirrors
abbrev pub stock_of : History → List Mirror → Stock
stock_of history mirrors = record { content = content_of history; mirrors = mirrors }

-- rule: Reply of a worker
-- what a request comes to: the reply by the one history that the view enters and then holds, by what its mirrors
-- grant; or a first part of the asks, as memory ran out; or nothing asked, as there is no entry
abbrev pub Replies : List Mirror → Progress → Request → ℕ → Result (List ℕ) Off → Progress → Type 0
Replies mirrors before request moment (Ok text) after =
    (history : History) × Enters before.sight history after.sight
    × IsReply (stock_of history mirrors) request moment before.asks after.asks text
Replies mirrors before request moment (Err off.Memory) after =
    (history : History) × Enters before.sight history after.sight
    × HasBegun (stock_of history mirrors) request before.asks after.asks
Replies mirrors before request moment (Err off.Closed) after =
    FindsNoEntry before.sight after.sight × (after.asks ≡ before.asks)

-- the status and the body for an input: 200 and the reply, by the history that the view then holds; or 400 and no
-- body if the input has a fault, and the worker is as it was
abbrev pub HasStatus : List Mirror → Progress → List ℕ → ℕ → DeskStatus → List ℕ → Progress → Type 0
HasStatus mirrors before input moment status.Success body after =
    (history : History) × Enters before.sight history after.sight
    × ((request : Request) × (request_of_bytes input ≡ Ok request)
    × IsReply (stock_of history mirrors) request moment before.asks after.asks body)
HasStatus mirrors before input moment status.BadRequest body after =
    (body ≡ []) × ((fault : RequestFault) × (request_of_bytes input ≡ Err fault)) × (after ≡ before)
HasStatus mirrors before input moment status.Conflict body after = ⊥
HasStatus mirrors before input moment status.UnprocessableContent body after = ⊥
HasStatus mirrors before input moment status.ServiceUnavailable body after = ⊥

-- what the desk returns for an input; it is off if memory runs out, before its view enters or after it, and if there
-- is no entry
abbrev pub IsAnswer : List Mirror → Progress → List ℕ → ℕ → Result (DeskStatus × List ℕ) Off → Progress → Type 0
IsAnswer mirrors before input moment (Ok answer) after =
    HasStatus mirrors before input moment answer.0 answer.1 after
IsAnswer mirrors before input moment (Err off.Memory) after =
    (after ≡ before)
    ⊎ ((request : Request) × (request_of_bytes input ≡ Ok request)
    × Replies mirrors before request moment (Err off.Memory) after)
IsAnswer mirrors before input moment (Err off.Closed) after =
    (request : Request) × (request_of_bytes input ≡ Ok request)
    × Replies mirrors before request moment (Err off.Closed) after

-- what a view finds of a package: by the history that it enters, or nothing if there is no entry
abbrev pub Finds : Sight → List ℕ → Option Declared → Sight → Type 0
Finds before name found after =
    ((history : History) × Enters before history after × (found ≡ declared_of (content_of history) name))
    ⊎ (FindsNoEntry before after × (found ≡ None))

-- rule: Desk of a worker
-- a call of the desk; a look-up asks for nothing, and there is no page
abbrev pub IsCall : List Mirror → Progress → Call → Progress → Type 0
IsCall mirrors before (Asks input moment answer) after = IsAnswer mirrors before input moment answer after
IsCall mirrors before (Looks name found) after =
    Finds before.sight name found after.sight × (after.asks ≡ before.asks)
IsCall mirrors before (Shows at page) after = (page ≡ Ok None) × (after ≡ before)
