-- The posts of a client to which a server of one catalogue replied; this project's profile of the Omaha
-- protocol 3.1.
use Rattle.std.specs.Prelude.{◌≡◌, ℕ, ◌<◌, ◌^◌, List, Option, Ok}
use Rattle.std.specs.List.{AllZip}
use Rattle.catalogue.specs.declared.content.App.{App}
use Rattle.catalogue.specs.declared.mirror.Mirror.{Mirror}
use Rattle.omaha_json.specs.ReplyWriting.{reply_bytes}
use Rattle.omaha_json.specs.RequestReading.{request_of_bytes}
use Rattle.omaha_json.specs.declared.request.Request.{Request}
use Rattle.update_client.specs.Walks.{Post}
use Rattle.replies.specs.Plans.{IsPlan, payloads_of}
use Rattle.replies.specs.Replies.{reply_of}
use Rattle.replies.specs.declared.choices.Choice.{Choice}
use Rattle.theorems.specs.Asks.{IsGranted}

-- the bytes are the reply to a request by a plan, whose bytes mirrors granted, at some time
pub record IsPlannedReply (apps : List App) (mirrors : List Mirror) (request : Request) (bytes : List ℕ) : Type 0 where
  pub plan : List (Option Choice)
  pub outcomes : List (Option ℕ)
  pub moment : ℕ
  pub planned : IsPlan apps request plan
  pub granted : AllZip (IsGranted mirrors) plan outcomes
  pub dated : moment < 2 ^ 64
  pub is : bytes ≡ reply_bytes (reply_of apps request (payloads_of plan) outcomes mirrors moment)

-- a server of these apps replied to the request that it reads in a post
abbrev pub IsServedPost : List App → List Mirror → Post → Type 0
IsServedPost apps mirrors post =
    (request : Request) → request_of_bytes post.0 ≡ Ok request → IsPlannedReply apps mirrors request post.1
