-- The replies of a desk that adopts records of other servers.
use Rattle.std.proofs.Common.{◌≡◌, ℕ, List, MatchResult, Option, None, Result, Ok, Err, ap, ap₂, inl, inr, subst, sym, unwrap_or, ◌∙◌}
use Rattle.catalogue.specs.Histories.{History}
use Rattle.http_desks.specs.Calls.{answer_in}
use Rattle.http_desks.specs.declared.desk.Answer.{Answer}
use Rattle.http_desks.specs.declared.desk.DeskStatus.{DeskStatus}
use Rattle.http_desks.specs.declared.desk.DeskStatus.TheVariants as status
use Rattle.http_desks.specs.declared.desk.Off.{Off}
use Rattle.http_desks.specs.declared.desk.Off.TheVariants as off
use Rattle.kept_records.specs.declared.record.Record.{Record}
use Rattle.catalogue.specs.declared.mirror.Mirror.{Mirror}
use Rattle.service_desks.specs.Following.{Adopts, Follows, GivesWay, StopsEarly, number_in, settled_state, state}
use Rattle.service_desks.specs.Lines.{edition_line, followed_line, stale_line}
use Rattle.service_desks.specs.States.{State}

-- the state once what was due is shown
pub settles : (mirrors : List Mirror) (history now : History) (first : ℕ) (records : List Record) (due left : Option History) →
    now ≡ unwrap_or due history → left ≡ None →
    settled_state (state mirrors history first records due) ≡ state mirrors now first records left
settles mirrors history now first records due left is none =
    ap₂ (λ (h : History) (d : Option History). state mirrors h first records d) (sym is) (sym none)

-- a reply of that status, with that line; or memory ran out
abbrev IsReply : DeskStatus → List ℕ → Result Answer Off → Type 0
IsReply kind line reply =
    MatchResult reply (λ sent. (sent.status ≡ kind) × (sent.body.items ≡ line)) (λ why. why ≡ off.Memory)

pub follows-adopted : (before after : State) (number : ℕ) (reply : Result Answer Off) → Adopts (settled_state before) after →
    number ≡ number_in after → IsReply status.Success (followed_line number) reply → Follows before (answer_in reply) after
follows-adopted before after number (Ok sent) adopted is (kind, line) =
    inl (adopted, ap₂ (λ (s : DeskStatus) (b : List ℕ). (s, b)) kind (line ∙ ap followed_line is))
follows-adopted before after number (Err why) adopted is memory =
    subst (λ (o : Off). StopsEarly before o after) (sym memory) (inr (inr (inr adopted)))

pub follows-none : (before after : State) (number : ℕ) (reply : Result Answer Off) → after ≡ settled_state before →
    number ≡ number_in after → IsReply status.Success (edition_line number) reply → Follows before (answer_in reply) after
follows-none before after number (Ok sent) same is (kind, line) =
    inr (inl (same, ap₂ (λ (s : DeskStatus) (b : List ℕ). (s, b)) kind (line ∙ ap edition_line is)))
follows-none before after number (Err why) same is memory =
    subst (λ (o : Off). StopsEarly before o after) (sym memory) (inr (inl same))

pub gives-adopted : (before after : State) (number : ℕ) (reply : Result Answer Off) → Adopts (settled_state before) after →
    number ≡ number_in after → IsReply status.Conflict (stale_line number) reply → GivesWay before (answer_in reply) after
gives-adopted before after number (Ok sent) adopted is (kind, line) =
    inl (adopted, ap₂ (λ (s : DeskStatus) (b : List ℕ). (s, b)) kind (line ∙ ap stale_line is))
gives-adopted before after number (Err why) adopted is memory =
    subst (λ (o : Off). StopsEarly before o after) (sym memory) (inr (inr (inr adopted)))
