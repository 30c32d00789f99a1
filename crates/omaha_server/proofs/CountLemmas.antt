-- Calls that come to nothing which is counted, and say nothing of the history.
use Rattle.std.proofs.Common.{◌≡◌, ◌≤◌, ◌+◌, ◌∙◌, ℕ, Bool, false, true, List, MatchResult, Option, Some, None, Result, Ok, Err, ap, arith, length, nat_lt, refl, subst, sym}
use Rattle.std.proofs.lemmas.Bool.Decides.{nat_tests}
use Rattle.catalogue.specs.Histories.{History}
use Rattle.http_desks.specs.Calls.{Asks, answer_in}
use Rattle.http_desks.specs.declared.desk.Answer.{Answer}
use Rattle.http_desks.specs.declared.desk.DeskStatus.{DeskStatus}
use Rattle.http_desks.specs.declared.desk.DeskStatus.TheVariants as status
use Rattle.http_desks.specs.declared.desk.Off.{Off}
use Rattle.http_desks.specs.declared.desk.Off.TheVariants as off
use Rattle.operator_pages.specs.declared.counts.Counts.{Counts}
use Rattle.operator_pages.specs.declared.counts.Outcome.{Outcome}
use Rattle.operator_pages.specs.declared.counts.Reach.{Reach}
use Rattle.operator_pages.specs.declared.counts.Reach.TheVariants as reach
use Rattle.operator_pages.specs.declared.publishes.Publish.{Publish}
use Rattle.service_desks.specs.States.{State}
use Rattle.omaha_server.specs.Outcomes.{outcome_in, reach_in, status_word, stop_word}
use Rattle.omaha_server.specs.Overviews.{Overview, counted_at, counts_after, has_more, publish_of, published_by, publishes_after, settled_count}
use Rattle.omaha_server.specs.Showing.{ShowsStatus}
use Rattle.operator_pages.specs.Health.{stopping_line}
use Rattle.omaha_server.specs.Stopping.{IsEnding}

-- a call comes to nothing, and says nothing of the history
abbrev pub IsNothing : Bool → List ℕ → Result (DeskStatus × List ℕ) Off → Type 0
IsNothing published body answer = (None ≡ outcome_in body answer) × (reach.Unasked ≡ reach_in published body answer)

-- a word that gets 200
word-nothing :
    (published : Bool) (word body : List ℕ) (reply : DeskStatus × List ℕ) →
    IsNothing published word (Ok (status.Success, reply.1)) → body ≡ word → reply.0 ≡ status.Success →
    IsNothing published body (Ok reply)
word-nothing published word body reply here is success =
    subst (λ (b : List ℕ). IsNothing published b (Ok reply)) (sym is)
    (subst (λ (s : DeskStatus). IsNothing published word (Ok (s, reply.1))) (sym success) here)

-- a word for which memory runs out
word-failed :
    (published : Bool) (word body : List ℕ) → IsNothing published word (Err off.Memory) → body ≡ word →
    IsNothing published body (Err off.Memory)
word-failed published word body here is =
    subst (λ (b : List ℕ). IsNothing published b (Err off.Memory)) (sym is) here

pub status-nothing :
    (published : Bool) (version body : List ℕ) (before : Overview) (answer : Result (DeskStatus × List ℕ) Off) →
    body ≡ status_word → ShowsStatus version before answer → IsNothing published body answer
status-nothing published version body before (Ok reply) is (shown, known, replied) =
    word-nothing published status_word body reply (refl, refl) is (ap (λ (r : DeskStatus × List ℕ). r.0) replied)
status-nothing published version body before (Err off.Memory) is shows = word-failed published status_word body (refl, refl) is
status-nothing published version body before (Err off.Closed) is never = absurd never

pub stop-nothing :
    (published : Bool) (body : List ℕ) (before after : Overview) (answer : Result (DeskStatus × List ℕ) Off) →
    body ≡ stop_word → IsEnding before answer after → IsNothing published body answer
stop-nothing published body before after (Ok reply) is (replied, same, ending) =
    word-nothing published stop_word body reply (refl, refl) is (ap (λ (r : DeskStatus × List ℕ). r.0) replied)
stop-nothing published body before after (Err off.Memory) is unmoved = word-failed published stop_word body (refl, refl) is
stop-nothing published body before after (Err off.Closed) is never = absurd never

-- whoever asked the server to end has its reply, or there was no memory for it
pub ending-stopped :
    (before after : Overview) (result : Result Answer Off) → after.state ≡ before.state →
    MatchResult result
    (λ (answer : Answer). (answer.status ≡ status.Success) × (answer.body.items ≡ stopping_line) × (after.ending ≡ true))
    (λ (error : Off). (error ≡ off.Memory) × (after.ending ≡ before.ending)) → IsEnding before (answer_in result) after
ending-stopped before after (Ok answer) same (success, line, ending) = (cc (success, line), same, ending)
ending-stopped before after (Err off.Memory) same (memory, ending) = record { state = same; ending = ending }
ending-stopped before after (Err off.Closed) same (memory, ending) = cc memory

-- what it leaves of the counts
pub counts-nothing :
    (published : Bool) (body : List ℕ) (moment : ℕ) (answer : Result (DeskStatus × List ℕ) Off) (counts : Counts) →
    IsNothing published body answer → counts ≡ counts_after (Asks body moment answer) published counts
counts-nothing published body moment answer counts (nothing, unasked) =
    ap (λ (found : Option Outcome). counted_at moment found reach.Unasked counts) nothing
    ∙ ap (λ (found : Reach). counted_at moment (outcome_in body answer) found counts) unasked

not-below : (m n : ℕ) → n ≤ m → nat_lt m n ≡ false
not-below m n above = grind (arith, nat_tests)

-- no more is published in a history than in itself
pub no-more : (history : History) (due : Option History) → has_more (settled_count history due) history ≡ false
no-more history None = not-below (length history) (length history) (omega arith)
no-more history (Some next) = not-below (length history + 1) (length history) (omega arith)

-- what it leaves of the publishes
pub publishes-nothing :
    (history : History) (due : Option History) (body : List ℕ) (moment : ℕ) (answer : Result (DeskStatus × List ℕ) Off)
    (state : State) (publishes : List Publish) → None ≡ outcome_in body answer →
    publishes ≡ publishes_after (Asks body moment answer) (has_more (settled_count history due) history) state publishes
publishes-nothing history due body moment answer state publishes nothing =
    ap (λ (found : Bool). published_by None found (publish_of state moment) publishes) (sym (no-more history due))
    ∙ ap (λ (found : Option Outcome). published_by found (has_more (settled_count history due) history) (publish_of state moment) publishes) nothing
