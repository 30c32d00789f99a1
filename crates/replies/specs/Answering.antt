-- The reply to a request, by what the mirrors grant; this project's profile.
use Rattle.std.specs.Prelude.{◌≡◌, ◌⊎◌, ℕ, List, Option}
use Rattle.mirror_ledger.specs.Asks.{Ask}
use Rattle.omaha_json.specs.ReplyWriting.{reply_bytes}
use Rattle.omaha_json.specs.declared.request.Request.{Request}
use Rattle.catalogue.specs.declared.content.App.{App}
use Rattle.catalogue.specs.declared.mirror.Mirror.{Mirror}
use Rattle.replies.specs.Plans.{IsPlan, payloads_of}
use Rattle.replies.specs.Replies.{reply_of}
use Rattle.replies.specs.declared.choices.Choice.{Choice}
use Rattle.replies.specs.Asking.{AsksFirst, AsksFor}

-- what is offered: the catalogue's content, and the mirrors of its packages
pub record Stock : Type 0 where
  pub content : List App
  pub mirrors : List Mirror

-- rule: Reply to a request
-- the bytes are the reply to the request at a time, by a plan of the content and what the mirrors
-- granted for it
pub record IsReply (stock : Stock) (request : Request) (moment : ℕ) (before after : List Ask) (text : List ℕ) : Type 0 where
  pub plan : List (Option Choice)
  pub outcomes : List (Option ℕ)
  pub planned : IsPlan stock.content request plan
  pub asked : AsksFor stock.mirrors plan outcomes before after
  pub written : text ≡ reply_bytes (reply_of stock.content request (payloads_of plan) outcomes stock.mirrors moment)

-- a first part of a plan for the request was asked for, or nothing
abbrev pub HasBegun : Stock → Request → List Ask → List Ask → Type 0
HasBegun stock request before after =
    (after ≡ before)
    ⊎ ((plan : List (Option Choice)) × IsPlan stock.content request plan × AsksFirst stock.mirrors plan before after)
