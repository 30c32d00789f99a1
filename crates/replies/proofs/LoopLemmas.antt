-- What the loops over a request's apps keep: what was made of the apps so far.
use Rattle.std.proofs.Common.{◌≡◌, ℕ, List, Option, map, take}
use Rattle.std.specs.List.{AllZip, zip}
use Rattle.catalogue.specs.declared.content.App.{App}
use Rattle.catalogue.specs.declared.mirror.Mirror.{Mirror}
use Rattle.omaha_json.specs.declared.reply.AppReply.{AppReply}
use Rattle.omaha_json.specs.declared.request.AppAsk.{AppAsk}
use Rattle.replies.specs.Clients.{IsAssigned}
use Rattle.replies.specs.Plans.{payloads_of}
use Rattle.replies.specs.Replies.{app_reply}
use Rattle.replies.specs.declared.choices.Choice.{Choice}
use Rattle.replies.specs.declared.client.Assignment.{Assignment}

-- the first apps have their clients
pub record HaveClients (apps : List App) (session : List ℕ) (asks : List AppAsk) (index : ℕ) (current : List ℕ)
    (clients : List (Option Assignment)) : Type 0 where
  pub same : current ≡ session
  pub assigned : AllZip (IsAssigned apps session) (take index asks) clients

-- the first apps have their replies
abbrev pub HaveReplies : (apps : List App) → (session : List ℕ) → (mirrors : List Mirror) → (asks : List AppAsk)
    → (plan : List (Option Choice)) → (outcomes : List (Option ℕ)) → (index : ℕ) → List AppReply → Type 0
HaveReplies apps session mirrors asks plan outcomes index replies =
    replies ≡ map (app_reply apps session mirrors) (take index (zip asks (zip (payloads_of plan) outcomes)))
