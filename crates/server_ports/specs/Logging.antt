-- What a server sends to its log; this project's profile.
use Rattle.std.specs.Prelude.{◌≡◌, ◌++◌, ⊤, ℕ, Bool, true, false, List, [], ◌∷◌, IfSome, bytes_eq, codes, if◌then◌else◌, length, option_to_list, Option, None, Some}
use Rattle.std.specs.List.{AllZip}
use Rattle.std.specs.Option.{is_some}
use Rattle.access_logs.specs.Logs.{IsLogOf}
use Rattle.http_ports.specs.Speech.{one_if}
use Rattle.http_ports.specs.Traffic.{Slot}
use Rattle.http_sessions.specs.Ports.{Passage}
use Rattle.access_logs.specs.Queues.{Ended, IsWhole, Sending}
use Rattle.access_logs.specs.declared.queues.page.Page.{Page}
use Rattle.rtrb.specs.Ring.{SameProducer}
use Rattle.streams.specs.Streams.{Known}
use Rattle.server_ports.specs.Passages.{Passages}
use Rattle.server_ports.specs.declared.place.Place.{Place}
use Rattle.server_ports.specs.declared.setup.Served.{Served}

-- what a sender has sent that a port began with, if it had one: the lines of the replies at its slots
abbrev pub HasSent : (ℕ → Slot) → Option Sending → Option Ended → Type 0
HasSent slots None None = ⊤
HasSent slots None (Some ended) = ⊥
HasSent slots (Some first) None = ⊥
HasSent slots (Some first) (Some ended) = IsLogOf slots ended.sent × SameProducer first.end ended.end

-- what is there of these
abbrev pub those_of : {A : Type 0} → List (Option A) → List A
those_of [] = []
those_of (None ∷ items) = those_of items
those_of (Some item ∷ items) = item ∷ those_of items

-- what the ports of a server have sent by: the workers', in order, and then the operator's
abbrev pub senders_of : List (Option Sending) → Option Sending → List Sending
senders_of clients operator = those_of clients ++ option_to_list operator

-- what a port came to at the log, if there is one
abbrev pub log_at : {P : Type 0} → Option (Served P) → Option Ended
log_at None = None
log_at (Some served) = served.log

-- what passed at each port that was served: those of the workers, in order, and then the operator's
abbrev pub passages_in_order : Passages → List Passage
passages_in_order passages = passages.clients ++ option_to_list passages.operator

-- rule: Log of a server
-- if replies are logged, this was sent to the log for each port that was served, in their order: the lines of its replies;
-- else nothing was
abbrev pub AreLogged : Bool → Passages → List (List ℕ) → Type 0
AreLogged false passages sents = sents ≡ []
AreLogged true passages sents =
    AllZip (λ (passage : Passage) (sent : List ℕ). IsLogOf passage.slots sent) (passages_in_order passages) sents

-- the path means the standard error, and no file
abbrev pub is_dash : List ℕ → Bool
is_dash path = bytes_eq path (codes "-")

-- replies are logged to the standard error
abbrev pub logs_here : Option (List ℕ) → Bool
logs_here None = false
logs_here (Some path) = is_dash path

-- the file of a log, if it has one
abbrev pub file_of : Option (List ℕ) → Option (List ℕ)
file_of None = None
file_of (Some path) = if is_dash path then None else Some path

-- no reply is logged to the standard error
abbrev pub LogsElsewhere : Option (List ℕ) → Type 0
LogsElsewhere (Some path) = is_dash path ≡ false
LogsElsewhere None = ⊤

-- nothing is written to the standard error: there is no log there, and the server says nothing of itself
abbrev pub IsSilent : Place → Type 0
IsSilent place = LogsElsewhere place.log × (place.named ≡ None)

-- there is a page for each line of a server: for those of its log, and for what it says of itself
pub record FitOutlets (place : Place) (errors file : Bool) : Type 0 where
  pub logged : file ≡ true → is_some place.log ≡ true
  pub written : is_some place.log ≡ true → file ≡ false → errors ≡ true
  pub named : is_some place.named ≡ true → errors ≡ true

-- both are there and so related, or neither is
abbrev pub Both : {A B : Type 0} → (A → B → Type 0) → Option A → Option B → Type 0
Both related None None = ⊤
Both related None (Some other) = ⊥
Both related (Some one) None = ⊥
Both related (Some one) (Some other) = related one other

-- these, but none if they are elsewhere
abbrev pub unless : {A : Type 0} → Bool → List A → List A
unless elsewhere items = if elsewhere then [] else items

-- a log was opened with these senders, and after them with so many others
abbrev pub BeginWith : ℕ → List Sending → List Sending → Type 0
BeginWith many senders opened = (others : List Sending) × (length others ≡ many) × (opened ≡ senders ++ others)

-- the log of a file was opened with the ports' senders, if there is one, and else that on the standard error; there is one
-- more sender for what a server says of itself, if it has a name
pub record AreOpened (named : Bool) (senders : List Sending) (errors file : Option (List Sending)) : Type 0 where
  pub here : IfSome errors (BeginWith (one_if named) (unless (is_some file) senders))
  pub there : IfSome file (BeginWith 0 senders)

-- after what a page had, it has what these have sent, and beside it what so many others did
abbrev pub IsFilled : {F : Type 0} → (F → Known) → ℕ → List (List ℕ) → Page F → Page F → Type 0
IsFilled output many sents before after =
    (after.out.ghost_name ≡ before.out.ghost_name) × IsWhole many sents (output before.out.now) (output after.out.now)

-- rule: Standard error of a server
-- after what was there, the standard error has what was sent for each port, if replies are logged there, and what one more
-- sender has sent, if the server has a name; without a log and a name it has nothing more
abbrev pub IsLoggedHere : Place → List (List ℕ) → Known → Known → Type 0
IsLoggedHere place sents old new =
    IsWhole (one_if (is_some place.named)) (if logs_here place.log then sents else []) old new
