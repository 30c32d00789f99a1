-- What the program replies to an input: the reply to the request that it is, from an edition at a time, over mirrors
-- that granted nothing before; or its first fault. This project's profile.
use Rattle.std.specs.Prelude.{◌≡◌, ⊤, ℕ, List, [], Result, Ok, Err, Vec}
use Rattle.catalogue.specs.Histories.{History}
use Rattle.mirror_ledger.specs.Asks.{Ask}
use Rattle.omaha_json.specs.RequestReading.{request_of_bytes}
use Rattle.omaha_json.specs.declared.fault.RequestFault.{RequestFault}
use Rattle.omaha_json.specs.declared.request.Request.{Request}
use Rattle.publisher.specs.Sights.{Sight}
use Rattle.catalogue.specs.declared.mirror.Mirror.{Mirror}
use Rattle.service_desks.specs.Workers.{Replies, stock_of as offered_by}
use Rattle.replies.specs.Answering.{IsReply, Stock}
use Rattle.replies.specs.Asking.{AreGranted}
use Rattle.omaha_commands.specs.declared.once.error.AnswerError.{AnswerError}
use Rattle.service_desks.specs.declared.services.service.Service.{Service}

-- what a service offers: its edition's content, at its mirrors
abbrev pub stock_of : Service → Stock
stock_of service = offered_by service.edition service.mirrors

-- the reply of a view to a request, by what the mirrors grant to a worker that is alone: the first with room each
-- time, beginning with nothing
pub record IsRepliedAlone (mirrors : List Mirror) (before : Sight) (request : Request) (moment : ℕ) (asks : List Ask)
    (reply : List ℕ) (after : Sight) : Type 0 where
  pub replies : Replies mirrors (record { sight = before; asks = [] }) request moment (Ok reply) (record { sight = after; asks = asks })
  pub granted : AreGranted mirrors [] asks

-- the reply to a request by one history, by what the mirrors grant so
pub record RepliesFor (history : History) (mirrors : List Mirror) (request : Request) (moment : ℕ) (reply : List ℕ) : Type 0 where
  pub asks : List Ask
  pub replied : IsReply (offered_by history mirrors) request moment [] asks reply
  pub granted : AreGranted mirrors [] asks

-- rule: Reply of the program
-- the reply to the request that the input is, by the service's one edition
abbrev pub IsAnswerTo : Service → ℕ → List ℕ → List ℕ → Type 0
IsAnswerTo service moment input text =
    (request : Request) × (request_of_bytes input ≡ Ok request)
    × RepliesFor service.edition service.mirrors request moment text

-- that; or the input's first fault; or no reply
abbrev pub Answers : {Z : Type 0} → Service → ℕ → List ℕ → Result (Result (Vec ℕ Z) RequestFault) AnswerError → Type 0
Answers service moment input (Ok (Ok reply)) = IsAnswerTo service moment input reply.items
Answers service moment input (Ok (Err fault)) = request_of_bytes input ≡ Err fault
Answers service moment input (Err error) = ⊤
