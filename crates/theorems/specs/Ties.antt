-- What the contracts of the program's functions say by helpers of events: `published`, `has_room`, `with_grant`,
-- `with_budget` and `IsReplyOf`; and by events, what the operator's calls say. `Calls` has those of a worker's desk.
use Rattle.std.specs.Prelude.{◌≡◌, ◌<◌, ◌≤◌, ◌⊎◌, ◌↔◌, ◌+◌, ◌-◌, ℕ, All, Bool, true, false, IfSome, List, ◌++◌, length, Option, option_to_list, Result, Ok, Err}
use Rattle.catalogue.specs.declared.edit.Edit.{Edit}
use Rattle.catalogue.specs.declared.fault.Refused.{Refused}
use Rattle.catalogue.specs.Histories.{History, LeadsTo}
use Rattle.editions.specs.Editions.{Continues, content_of}
use Rattle.editions.specs.declared.fault.NextError.TheVariants as error
use Rattle.http_desks.specs.Calls.{Call}
use Rattle.http_desks.specs.declared.desk.DeskStatus.{DeskStatus}
use Rattle.mirror_ledger.specs.Asks.{Ask}
use Rattle.mirror_books.specs.Budgets.{Account, Grants, HasRoom, Raises}
use Rattle.mirror_ledger.specs.Named.{budget_at}
use Rattle.mirror_ledger.specs.Raising.{IsAt, RaisesTo}
use Rattle.mirror_ledger.specs.declared.raise_error.RaiseError.{RaiseError}
use Rattle.mirror_ledger.specs.declared.raise_error.RaiseError.TheVariants as fault
use Rattle.omaha_json.specs.ReplyWriting.{reply_bytes}
use Rattle.omaha_json.specs.declared.reply.Reply.{Reply}
use Rattle.omaha_json.specs.declared.request.Request.{Request}
use Rattle.profile_toml.specs.Reading.{script_of_bytes}
use Rattle.publisher.specs.Publishing.{Publishes}
use Rattle.publisher.specs.declared.fault.PublishError.{PublishError}
use Rattle.publisher.specs.declared.fault.PublishError.TheVariants as publishing
use Rattle.catalogue.specs.declared.mirror.Mirror.{Mirror}
use Rattle.service_desks.specs.Lines.{IsUnkept}
use Rattle.service_desks.specs.Operators.{IsCall}
use Rattle.service_desks.specs.Scripts.{Performs}
use Rattle.service_desks.specs.States.{Publication, State, Store, earlier_in, settled}
use Rattle.service_desks.specs.Workers.{Progress, Replies, stock_of}
use Rattle.replies.specs.Answering.{IsReply, Stock}
use Rattle.replies.specs.Asking.{asks_of}
use Rattle.theorems.specs.Events.{Event, Grant, Publish, Raise, Reject, happens, run}
use Rattle.theorems.specs.Jobs.{Pending, is_decided, outcomes_of}
use Rattle.theorems.specs.InterleavingLaws.{IsReplyOf}
use Rattle.theorems.specs.Services.{Service, has_room, present, published, with_budget, with_grant}

-- `Edition::next`, from the edition that is published: an edition that it returns has the published history
abbrev pub NextIsPublished : Type 0
NextIsPublished =
    (history : History) (batch : List Edit) (next : History) →
    Continues history batch (Ok next) → published history (length history) batch ≡ next

-- where it returns a rejected edit, publishing changes nothing
abbrev pub RejectedIsNotPublished : Type 0
RejectedIsNotPublished =
    (history : History) (batch : List Edit) (refused : Refused) →
    Continues history batch (Err (error.Refused refused)) → published history (length history) batch ≡ history

-- and where the history is full
abbrev pub FullIsNotPublished : Type 0
FullIsNotPublished =
    (history : History) (batch : List Edit) →
    Continues history batch (Err error.HistoryFull) → published history (length history) batch ≡ history

-- `Press::publish` is a publish by somebody who knows of as many batches as its base says, or memory ran out and nothing
-- is published
abbrev pub PressPublishes : Type 0
PressPublishes =
    (before : History) (base : ℕ) (batch : List Edit) (result : Result History PublishError) (after : History) →
    Publishes before base batch result after →
    (after ≡ published before base batch) ⊎ ((result ≡ Err publishing.Memory) × (after ≡ before))

-- `Book::grant` succeeds exactly if the book has room
abbrev pub RoomIsTested : Type 0
RoomIsTested = (account : Account) (bytes : ℕ) → (has_room account bytes ≡ true) ↔ HasRoom account bytes

-- and the book is then the one of the event
abbrev pub GrantsAreBooked : Type 0
GrantsAreBooked =
    (books : ℕ → Account) (mirror bytes : ℕ) (new : Account) →
    Grants (books mirror) new bytes → with_grant books mirror bytes mirror ≡ new

-- a grant without room is a rejection
abbrev pub FullBooksReject : Type 0
FullBooksReject =
    (mirrors : List Mirror) (service : Service) (worker mirror bytes : ℕ) →
    has_room (service.books mirror) bytes ≡ false →
    happens mirrors service (Grant worker mirror bytes) ≡ happens mirrors service (Reject worker mirror bytes)

-- `Book::raise` is a raise of the mirror's budget to so many bytes, also if these are fewer and it changes nothing
abbrev pub RaisesAreEvents : Type 0
RaisesAreEvents =
    (books : ℕ → Account) (mirror bytes : ℕ) (new : Account) →
    (((books mirror).budget ≤ bytes) × Raises (books mirror) new bytes) ⊎ ((bytes < (books mirror).budget) × (new ≡ books mirror)) →
    with_budget books mirror bytes mirror ≡ new

-- the operator's view of a service over its mirrors: what is published, the mirrors with their present budgets, and what is
-- kept
abbrev pub state_of : List Mirror → Service → Store → State
state_of mirrors service store =
    record { mirrors = present mirrors service; history = service.history; store = store }

-- what is due, if anything is, continues the published history by a batch
abbrev pub IsDueAfter : History → Store → Type 0
IsDueAfter history store = IfSome store.due (λ next. (batch : List Edit) × Continues history batch (Ok next))

-- what a raise by a name comes to in a service: the event of that mirror and number; or nothing, and then the event
-- wouldn't change the service either, if the number is below the present budget
abbrev pub IsRaiseIn : List Mirror → Service → List Mirror → List ℕ → ℕ → Result (Unit {0}) RaiseError → Type 0
IsRaiseIn mirrors service new name budget (Ok done) =
    (index : ℕ) × IsAt mirrors name index × (new ≡ present mirrors (happens mirrors service (Raise index budget)))
IsRaiseIn mirrors service new name budget (Err (fault.Lower now)) =
    (index : ℕ) × IsAt mirrors name index × (now ≡ budget_at (present mirrors service) index)
    × (new ≡ present mirrors service) × (present mirrors (happens mirrors service (Raise index budget)) ≡ new)
IsRaiseIn mirrors service new name budget (Err other) = new ≡ present mirrors service

-- `Budgets::raise` from the present mirrors of a service is its event `Raise`
abbrev pub RaisesByNameAreEvents : Type 0
RaisesByNameAreEvents =
    (mirrors : List Mirror) (service : Service) (new : List Mirror) (name : List ℕ) (budget : ℕ)
    (result : Result (Unit {0}) RaiseError) →
    RaisesTo (present mirrors service) new name budget result → IsRaiseIn mirrors service new name budget result

-- an event of an operator
abbrev pub is_of_operator : Event → Bool
is_of_operator (Publish known batch) = true
is_of_operator (Raise mirror bytes) = true
is_of_operator event = false

-- a service comes from another one by events of an operator: by one at the most, but for the publish of what was due
pub record IsOperatorStep (mirrors : List Mirror) (before : Service) (due : Option History) (left : State) : Type 0 where
  pub events : List Event
  pub few : length events ≤ 1 + length (option_to_list due)
  pub own : All (λ event. is_of_operator event ≡ true) events
  pub leaves : state_of mirrors (run happens mirrors before events) left.store ≡ left
  pub follows : IsDueAfter left.history left.store

-- each call of the operator's desk is such a step
abbrev pub OperatorCallsAreEvents : Type 0
OperatorCallsAreEvents =
    (mirrors : List Mirror) (service : Service) (store : Store) (call : Call) (after : State) →
    IsDueAfter service.history store → IsCall (state_of mirrors service store) call after →
    IsOperatorStep mirrors service store.due after

-- a reply in bytes, and what was asked for it, are those of a reply in the making whose choices are all decided
pub record IsOfPending (stock : Stock) (request : Request) (moment : ℕ) (before after : List Ask)
    (text : List ℕ) : Type 0 where
  pub pending : Pending
  pub reply : Reply
  pub requested : pending.request ≡ request
  pub decided : is_decided pending ≡ true
  pub is : IsReplyOf stock.content stock.mirrors pending.request pending.choices (outcomes_of pending) moment reply
  pub asked : after ≡ before ++ asks_of pending.choices (outcomes_of pending)
  pub written : text ≡ reply_bytes reply

-- `reply_to` of `service_desks` replies so
abbrev pub AnswersAreOfPending : Type 0
AnswersAreOfPending =
    (stock : Stock) (request : Request) (moment : ℕ) (before after : List Ask) (text : List ℕ) →
    IsReply stock request moment before after text → IsOfPending stock request moment before after text

-- a reply is that of one history that was accepted, by a reply in the making; it has no fewer batches than the worker
-- had seen before, and as many as it has then seen
pub record IsOfOneHistory (mirrors : List Mirror) (before after : Progress) (request : Request) (moment : ℕ)
    (text : List ℕ) : Type 0 where
  pub history : History
  pub led : LeadsTo history (content_of history)
  pub risen : before.sight.seen ≤ length history
  pub seen : after.sight.seen ≡ length history
  pub is : IsOfPending (stock_of history mirrors) request moment before.asks after.asks text

-- a worker's desk replies so
abbrev pub WorkersReplyByOneHistory : Type 0
WorkersReplyByOneHistory =
    (mirrors : List Mirror) (before after : Progress) (request : Request) (moment : ℕ) (text : List ℕ) →
    Replies mirrors before request moment (Ok text) after → IsOfOneHistory mirrors before after request moment text

-- a script that the operator's desk replies to, unless it says that no server of its history took it, is a publish, after
-- what was due, by somebody who knows of as many batches as its base says
abbrev pub ScriptsArePublished : Type 0
ScriptsArePublished =
    (before : Publication) (input : List ℕ) (script : ℕ × List Edit) (reply : DeskStatus × List ℕ) (after : Publication) →
    script_of_bytes input ≡ Ok script → (IsUnkept reply → ⊥) → Performs before input (Ok reply) after →
    after.history ≡ published (settled before).history (script.0 - earlier_in before.store) script.1
