-- Each app of a request gets a reply to its ask.
use Rattle.std.proofs.Common.{ℕ, List, [], ◌∷◌, map, Option, refl, sym, ap}
use Rattle.std.specs.List.{AllZip, zip}
use Rattle.catalogue.specs.declared.content.App.{App}
use Rattle.catalogue.specs.declared.mirror.Mirror.{Mirror}
use Rattle.omaha_json.specs.declared.reply.AppReply.{AppReply}
use Rattle.omaha_json.specs.declared.request.AppAsk.{AppAsk}
use Rattle.replies.specs.Plans.{IsChosen, payload_in}
use Rattle.replies.specs.Replies.{app_reply}
use Rattle.replies.specs.declared.choices.Choice.{Choice}
use Rattle.theorems.specs.Asks.{IsGranted, IsReplyTo}
use Rattle.theorems.specs.Laws.{AsksGetReplies, RepliesAreWhole}

module _ (apps : List App) (mirrors : List Mirror) (session : List ℕ) where
  each :
      (asks : List AppAsk) (plan : List (Option Choice)) (outcomes : List (Option ℕ)) →
      AllZip (IsChosen apps session) asks plan → AllZip (IsGranted mirrors) plan outcomes →
      AllZip (IsReplyTo apps mirrors session) asks
      (map (app_reply apps session mirrors) (zip asks (zip (map payload_in plan) outcomes)))
  each [] [] [] planned granted = tt
  each [] [] (outcome ∷ outcomes) planned granted = absurd granted
  each [] (choice ∷ plan) outcomes planned granted = absurd planned
  each (ask ∷ asks) [] outcomes planned granted = absurd planned
  each (ask ∷ asks) (choice ∷ plan) [] planned granted = absurd granted
  each (ask ∷ asks) (choice ∷ plan) (outcome ∷ outcomes) planned granted = (
    record { choice = choice; outcome = outcome; chosen = planned.0; granted = granted.0; is = refl },
    each asks plan outcomes planned.1 granted.1,
  )

pub asks_get_replies : AsksGetReplies
asks_get_replies apps mirrors request plan outcomes moment planned granted =
    each apps mirrors request.session request.apps plan outcomes planned granted

pub replies_are_whole : RepliesAreWhole
replies_are_whole apps mirrors session ask reply replied =
    record {
      plan = replied.choice ∷ [];
      outcomes = replied.outcome ∷ [];
      planned = (replied.chosen, tt);
      granted = (replied.granted, tt);
      is = λ moment. ap (λ (r : AppReply). r ∷ []) (sym replied.is);
    }
