-- What is sent for optional members and for lists, as the JSON data that it is.
use Rattle.std.proofs.Common.{◌≡◌, ℕ, zero, suc, List, [], ◌∷◌, length, map, Option, Some, None, refl, ap, sym, subst, replicate, codes}
use Rattle.serde.specs.Event.{Log, Logs, WritesEach, WritesSeq, seq_begins, seq_ends}
use Rattle.serde_json.specs.Data.{Data, Members}
use Rattle.serde_json.specs.Events.{items_len, SendsItems, SendsMembers, SendsValue}
use Rattle.serde_json.specs.View.{items_of}
use Rattle.omaha_json.specs.declared.reply.AppReply.{AppReply}
use Rattle.omaha_json.specs.ReplyWriting.{optional_member, app_data, apps_data, status_data}
use Rattle.omaha_json.specs.Sending.{SendsOptional}

pub sends_optional : (name : List ℕ) (value : Option Data) (rest : Members) (old mid new : Log)
    → SendsOptional name value old mid → SendsMembers rest mid new
    → SendsMembers (optional_member name value rest) old new
sends_optional name None rest old mid new sent ended = subst (λ log. SendsMembers rest log new) sent ended
sends_optional name (Some value) rest old mid new sent ended = (sent.0, mid, sent.1, sent.2, ended)

abbrev SendsApp : AppReply → Log → Log → Type 0
SendsApp app = SendsValue (app_data app)

items_len-apps : (apps : List AppReply) → items_len (items_of (map app_data apps)) ≡ length apps
items_len-apps [] = refl
items_len-apps (app ∷ apps) = ap suc (items_len-apps apps)

sends_each : (apps : List AppReply) (old last new : Log)
    → WritesEach SendsApp apps old last → Logs last new seq_ends
    → SendsItems (items_of (map app_data apps)) old new
sends_each [] old last new each ended = subst (λ log. Logs log new seq_ends) each ended
sends_each (app ∷ apps) old last new each ended =
    (each.0, each.1, sends_each apps each.0 last new each.2 ended)

pub sends_apps : (apps : List AppReply) (old new : Log)
    → WritesSeq SendsApp apps old new → SendsValue (apps_data apps) old new
sends_apps apps old new sent =
    let begun = subst (λ count. Logs old sent.0 (seq_begins (Some count))) (sym (items_len-apps apps)) sent.2 in
    (sent.0, begun, sends_each apps sent.0 sent.1 new sent.3 sent.4)

-- so many acknowledgements, and the end of their list
abbrev pub SendsStatuses : ℕ → Log → Log → Type 0
SendsStatuses count = SendsItems (items_of (replicate count (status_data (codes "ok"))))

pub items_len-statuses : (count : ℕ) → items_len (items_of (replicate count (status_data (codes "ok")))) ≡ count
items_len-statuses zero = refl
items_len-statuses (suc count) = ap suc (items_len-statuses count)
