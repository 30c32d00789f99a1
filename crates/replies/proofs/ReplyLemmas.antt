-- Every reply is writable.
use Rattle.std.proofs.Common.{List, map, Option, None, Some, All, ℕ, get_or}
use Rattle.std.proofs.lemmas.List.Elements.{All-map}
use Rattle.catalogue.specs.declared.content.App.{App}
use Rattle.catalogue.specs.declared.mirror.Mirror.{Mirror}
use Rattle.catalogue.specs.declared.content.Diff.{Diff}
use Rattle.catalogue.specs.declared.content.Release.{Release}
use Rattle.omaha_json.specs.ReplyWriting.{IsCheckWritable, IsStateWritable}
use Rattle.omaha_json.specs.declared.reply.AppReply.{AppReply}
use Rattle.omaha_json.specs.declared.request.AppAsk.{AppAsk}
use Rattle.omaha_json.specs.declared.request.Check.{Check}
use Rattle.std.specs.Option.{option_map}
use Rattle.replies.specs.Clients.{Client, client_of}
use Rattle.replies.specs.Replies.{app_reply, check_reply, Decision, state_of, update_reply}

IsCheckWritable-check_reply :
    (mirrors : List Mirror) (release : Option Release) (diff : Option Diff) (outcome : Option ℕ) →
    IsCheckWritable (Some (check_reply mirrors release diff outcome))
IsCheckWritable-check_reply mirrors None diff outcome = tt
IsCheckWritable-check_reply mirrors (Some release) diff None = tt
IsCheckWritable-check_reply mirrors (Some release) diff (Some mirror) = tt

check_written : (mirrors : List Mirror) (app : App) (decision : Decision) (check : Option Check) → IsCheckWritable (option_map (λ _. update_reply mirrors app decision) check)
check_written mirrors app decision None = tt
check_written mirrors app decision (Some check) = IsCheckWritable-check_reply mirrors _ _ decision.1

IsStateWritable-state_of : (mirrors : List Mirror) (client : Option Client) (ask : AppAsk) (decision : Decision) → IsStateWritable (state_of mirrors client ask decision)
IsStateWritable-state_of mirrors None ask decision = tt
IsStateWritable-state_of mirrors (Some client) ask decision =
    check_written mirrors client.app decision ask.check

IsStateWritable-one : (apps : List App) (session : List ℕ) (mirrors : List Mirror) (asked : AppAsk × Decision) → IsStateWritable (app_reply apps session mirrors asked).state
IsStateWritable-one apps session mirrors asked =
    IsStateWritable-state_of mirrors (client_of apps session asked.0) asked.0 asked.1

-- each reply for an app is writable
pub IsStateWritable-app_reply : (apps : List App) (session : List ℕ) (mirrors : List Mirror) (asked : List (AppAsk × Decision)) → All (λ (reply : AppReply). IsStateWritable reply.state) (map (app_reply apps session mirrors) asked)
IsStateWritable-app_reply apps session mirrors asked =
    All-map (λ (reply : AppReply). IsStateWritable reply.state) (app_reply apps session mirrors) asked (λ index one within. IsStateWritable-one apps session mirrors (get_or asked index one))
