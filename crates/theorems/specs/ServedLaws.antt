-- What holds of a client's walk that ended well, over a server whose catalogue stays as it is.
use Rattle.std.specs.Prelude.{◌≡◌, ◌≤◌, ◌++◌, All, ℕ, List, length, true, Some, Ok, IsUtf8}
use Rattle.std.specs.List.{list_all}
use Rattle.catalogue.specs.Mirrors.{is_mirror}
use Rattle.catalogue.specs.Validity.{IsValid}
use Rattle.catalogue.specs.declared.content.App.{App}
use Rattle.catalogue.specs.declared.mirror.Mirror.{Mirror}
use Rattle.catalogue.specs.Histories.{History}
use Rattle.omaha_json.specs.declared.reply.AppReply.{AppReply}
use Rattle.payload_graph.specs.Chains.{IsAtTarget, IsChain}
use Rattle.payload_graph.specs.declared.payload.Payload.{Payload}
use Rattle.quotes.specs.Sums.{HasNoChain, IsLeast}
use Rattle.editions.specs.Editions.{content_of}
use Rattle.replies.specs.Clients.{Client, client_of, key_of}
use Rattle.theorems.specs.Asks.{place_at}
use Rattle.theorems.specs.Walks.{IsWalk, last_ask, offers_of, sum_of}
use Rattle.update_client.specs.Clients.{ask_of}
use Rattle.update_client.specs.Installed.{Installed}
use Rattle.update_client.specs.Walks.{Commit, Post, Walks}
use Rattle.update_client.specs.declared.walking.Walk.{Walk}
use Rattle.theorems.specs.Served.{IsServedPost}

-- a client went from one state to another by replies that are a walk: it made as many steps as there are
-- offers, and their bytes
pub record IsWalked (apps : List App) (mirrors : List Mirror) (client after : Installed) (walk : Walk) : Type 0 where
  pub replies : List AppReply
  pub walks : IsWalk apps mirrors client.session (ask_of client) replies
  pub last : last_ask (ask_of client) replies ≡ ask_of after
  pub steps : walk.steps ≡ length (offers_of replies)
  pub bytes : walk.bytes ≡ sum_of (offers_of replies)

-- rule: Walk over one catalogue
-- in a valid content, with valid mirrors, each walk of an app's client that ended well and whose posts were so served
-- is one
abbrev pub ServedWalksAreWalks : List ℕ → Type 0 → Type 0
ServedWalksAreWalks received ended =
    (apps : List App) (mirrors : List Mirror) (client after : Installed) (old posts : List Post)
    (asked opened : List (List ℕ)) (before commits : List Commit) (walk : Walk) →
    IsValid apps → list_all is_mirror mirrors ≡ true → IsUtf8 client.app →
    Walks client after old (old ++ posts) asked opened before commits received ended (Ok walk) →
    All (IsServedPost apps mirrors) posts →
    IsWalked apps mirrors client after walk

-- the walk of a client of an app: not long, for the least bytes to the target, or without a step if no chain
-- leads there
pub record IsShortest (asking : Client) (client after : Installed) (walk : Walk) : Type 0 where
  pub short : walk.steps ≤ length asking.app.releases
  pub least :
      (chain : List Payload) → IsChain asking.app (key_of asking) (place_at asking (ask_of client)) chain →
      IsLeast asking.app (key_of asking) (place_at asking (ask_of client)) walk.bytes
      × IsAtTarget asking.app (key_of asking) (place_at asking (ask_of after))
  pub nowhere :
      HasNoChain asking.app (key_of asking) (place_at asking (ask_of client)) →
      (walk.steps ≡ 0) × (walk.bytes ≡ 0)

-- in the content that a history leads to, each walk that ended well and was so served is such a walk
abbrev pub ServedWalksAreLeast : List ℕ → Type 0 → Type 0
ServedWalksAreLeast received ended =
    (history : History) (mirrors : List Mirror) (asking : Client) (client after : Installed) (old posts : List Post)
    (asked opened : List (List ℕ)) (before commits : List Commit) (walk : Walk) →
    list_all is_mirror mirrors ≡ true → IsUtf8 client.app →
    Walks client after old (old ++ posts) asked opened before commits received ended (Ok walk) →
    All (IsServedPost (content_of history) mirrors) posts →
    client_of (content_of history) client.session (ask_of client) ≡ Some asking →
    IsShortest asking client after walk
