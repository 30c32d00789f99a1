-- A service that starts from a dump replies as the one that was dumped.
use Rattle.std.proofs.Common.{◌≡◌, ℕ, zero, suc, ◌<◌, List, [], ◌∷◌, ◌++◌, length, map, Option, None, Some, Result, refl, sym, ap, ◌∙◌, subst}
use Rattle.std.specs.List.{AllZip, zip}
use Rattle.std.specs.Option.{option_and_then, option_map}
use Rattle.std.specs.Result.{is_ok}
use Rattle.std.proofs.Math.Seq.{take-length}
use Rattle.std.proofs.lemmas.Bool.{false≢true}
use Rattle.std.proofs.lemmas.List.{append_cancel_left}
use Rattle.std.proofs.lemmas.List.Elements.{length_all_zip}
use Rattle.catalogue.specs.Batches.{run, then_run}
use Rattle.catalogue.specs.declared.fault.Refused.{Refused}
use Rattle.catalogue.specs.Contents.{edits_of_content}
use Rattle.catalogue.specs.Histories.{History}
use Rattle.editions.specs.Editions.{content_of, content_or_none}
use Rattle.mirror_ledger.specs.Asks.{Ask}
use Rattle.mirror_books.specs.Budgets.{Account}
use Rattle.omaha_json.specs.ReplyWriting.{reply_bytes}
use Rattle.omaha_json.specs.declared.reply.AppReply.{AppReply}
use Rattle.omaha_json.specs.declared.reply.AppState.TheVariants as state
use Rattle.omaha_json.specs.declared.reply.CheckReply.{CheckReply}
use Rattle.omaha_json.specs.declared.reply.CheckReply.TheVariants as check
use Rattle.omaha_json.specs.declared.reply.Reply.{Reply}
use Rattle.omaha_json.specs.declared.request.AppAsk.{AppAsk}
use Rattle.omaha_json.specs.declared.request.Request.{Request}
use Rattle.service_desks.specs.Services.{service_if}
use Rattle.payload_graph.specs.declared.payload.Payload.{Payload}
use Rattle.catalogue.specs.declared.content.App.{App}
use Rattle.catalogue.specs.declared.content.Diff.{Diff}
use Rattle.catalogue.specs.declared.content.Release.{Release}
use Rattle.catalogue.specs.declared.mirror.Mirror.{Mirror}
use Rattle.replies.specs.Clients.{Client, client_of}
use Rattle.replies.specs.Plans.{payloads_of}
use Rattle.replies.specs.Replies.{AreOutcomes, Decision, app_reply, check_reply, client_reply, codebase_at, diff_of, offer_of, release_by, reply_of, with_check}
use Rattle.replies.specs.declared.choices.Choice.{Choice}
use Rattle.service_desks.specs.Workers.{stock_of}
use Rattle.theorems.specs.Laws.{PlansAreOne}
use Rattle.replies.specs.Answering.{IsReply}
use Rattle.replies.specs.Asking.{asks_of}
use Rattle.theorems.specs.Jobs.{outcomes_of}
use Rattle.theorems.specs.Moves.{rendered_at}
use Rattle.theorems.specs.Restart.{DumpsAreProfiles, IsRaised, RestartsKeepReplies, ServicesOpenAgain}
use Rattle.theorems.specs.Services.{content_at, present, with_budgets_of}
use Rattle.theorems.proofs.RaiseLemmas.{operators_only_raise}
use Rattle.theorems.proofs.PresentLemmas.{budget_at-present}

pub dumps_are_profiles : DumpsAreProfiles
dumps_are_profiles state reply dump =
    let made = dump.reads_back.made in
    record {
      batch = edits_of_content (content_of state.history);
      read = dump.reads_back.read;
      made = ap (service_if (edits_of_content (content_of state.history), state.mirrors)) made;
      opens = ap (λ (r : Result (List App) Refused). is_ok r) made;
      content = ap (λ (r : Result (List App) Refused). content_or_none (then_run (run []) r)) made;
    }

map-same : {A B : Type 0} (one other : A → B) (items : List A) → ((item : A) → one item ≡ other item) →
    map one items ≡ map other items
map-same one other [] same = refl
map-same one other (item ∷ items) same =
    let first = same item in
    let rest = map-same one other items same in
    cc

-- raised mirrors have the same codebases
same-codebase : (mirrors named : List Mirror) → AllZip IsRaised mirrors named → (index : ℕ) →
    codebase_at named index ≡ codebase_at mirrors index
same-codebase [] [] raised index = refl
same-codebase [] (other ∷ named) raised index = absurd raised
same-codebase (mirror ∷ mirrors) [] raised index = absurd raised
same-codebase (mirror ∷ mirrors) (other ∷ named) raised zero = raised.0.codebase
same-codebase (mirror ∷ mirrors) (other ∷ named) raised (suc index) = same-codebase mirrors named raised.1 index

-- and so have those of a service
present-codebase : (books : ℕ → Account) (mirrors : List Mirror) (index : ℕ) →
    codebase_at (with_budgets_of books mirrors) index ≡ codebase_at mirrors index
present-codebase books [] index = refl
present-codebase books (mirror ∷ mirrors) zero = refl
present-codebase books (mirror ∷ mirrors) (suc index) = present-codebase (λ i. books (suc i)) mirrors index

-- so a reply is the same over both
module _ (mirrors named : List Mirror) (codebases : (index : ℕ) → codebase_at named index ≡ codebase_at mirrors index) where
  same-check : (release : Option Release) (diff : Option Diff) (outcome : Option ℕ) →
      check_reply named release diff outcome ≡ check_reply mirrors release diff outcome
  same-check None diff outcome = refl
  same-check (Some release) diff None = refl
  same-check (Some release) diff (Some mirror) =
      ap (λ (codebase : List ℕ). check.Offered (offer_of codebase release diff)) (codebases mirror)

  same-client : (client : Option Client) (asked : AppAsk × Decision) →
      client_reply named client asked ≡ client_reply mirrors client asked
  same-client None asked = refl
  same-client (Some client) asked =
      let app = client.app in
      let decision = asked.1 in
      ap
      (λ (reply : CheckReply).
      record {
        appid = asked.0.appid;
        state = state.Known (with_check client asked.0 (option_map (λ _. reply) asked.0.check));
      })
      (same-check (option_and_then (release_by app) decision.0) (option_and_then (diff_of app) decision.0) decision.1)

  same-reply :
      (apps : List App) (request : Request) (payloads : List (Option Payload)) (outcomes : List (Option ℕ)) (moment : ℕ) →
      reply_of apps request payloads outcomes named moment ≡ reply_of apps request payloads outcomes mirrors moment
  same-reply apps request payloads outcomes moment =
      ap (λ (replies : List AppReply). record (reply_of apps request payloads outcomes mirrors moment) { apps = replies })
      (map-same (app_reply apps request.session named) (app_reply apps request.session mirrors)
      (zip request.apps (zip payloads outcomes))
      (λ asked. same-client (client_of apps request.session asked.0) asked))

-- outcomes name the mirrors of a list of the same length
same-outcomes :
    (mirrors named : List Mirror) (plan : List (Option Choice)) (outcomes : List (Option ℕ)) →
    length mirrors ≡ length named → AreOutcomes mirrors plan outcomes → AreOutcomes named plan outcomes
same-outcomes mirrors named [] [] same decided = tt
same-outcomes mirrors named [] (outcome ∷ outcomes) same decided = absurd decided
same-outcomes mirrors named (choice ∷ plan) [] same decided = absurd decided
same-outcomes mirrors named (choice ∷ plan) (None ∷ outcomes) same decided =
    (tt, same-outcomes mirrors named plan outcomes same decided.1)
same-outcomes mirrors named (choice ∷ plan) (Some mirror ∷ outcomes) same decided = (
  (decided.0.0, subst (λ (count : ℕ). mirror < count) same decided.0.1),
  same-outcomes mirrors named plan outcomes same decided.1,
)

-- of two lists of outcomes with the same asks
outcomes-by-asks :
    (mirrors : List Mirror) (plan : List (Option Choice)) (one other : List (Option ℕ)) →
    AreOutcomes mirrors plan one → AreOutcomes mirrors plan other → asks_of plan one ≡ asks_of plan other → one ≡ other
outcomes-by-asks mirrors [] [] [] first second asks = refl
outcomes-by-asks mirrors [] [] (outcome ∷ other) first second asks = absurd second
outcomes-by-asks mirrors [] (outcome ∷ one) other first second asks = absurd first
outcomes-by-asks mirrors (choice ∷ plan) [] other first second asks = absurd first
outcomes-by-asks mirrors (choice ∷ plan) (outcome ∷ one) [] first second asks = absurd second
outcomes-by-asks mirrors (None ∷ plan) (None ∷ one) (None ∷ other) first second asks =
    ap (λ (rest : List (Option ℕ)). None ∷ rest) (outcomes-by-asks mirrors plan one other first.1 second.1 asks)
outcomes-by-asks mirrors (None ∷ plan) (None ∷ one) (Some mirror ∷ other) first second asks =
    absurd (false≢true second.0.0)
outcomes-by-asks mirrors (None ∷ plan) (Some mirror ∷ one) (outcome ∷ other) first second asks =
    absurd (false≢true first.0.0)
outcomes-by-asks mirrors (Some choice ∷ plan) (outcome ∷ one) (next ∷ other) first second asks =
    let first_ask : Ask = (choice.bytes, outcome) in
    let second_ask : Ask = (choice.bytes, next) in
    let ask : first_ask ≡ second_ask = cc in
    let rest : asks_of plan one ≡ asks_of plan other = cc in
    let same : outcome ≡ next = ap (λ (a : Ask). a.1) ask in
    let others = outcomes-by-asks mirrors plan one other first.1 second.1 rest in
    cc

-- a reply over the one is a reply over the other
IsReply-same :
    (apps : List App) (mirrors named : List Mirror) (request : Request) (moment : ℕ) (before after : List Ask)
    (text : List ℕ) → length mirrors ≡ length named →
    ((plan : List (Option Choice)) (outcomes : List (Option ℕ)) →
    reply_of apps request (payloads_of plan) outcomes named moment
    ≡ reply_of apps request (payloads_of plan) outcomes mirrors moment) →
    IsReply (record { content = apps; mirrors = mirrors }) request moment before after text →
    IsReply (record { content = apps; mirrors = named }) request moment before after text
IsReply-same apps mirrors named request moment before after text long same reply =
    record {
      plan = reply.plan;
      outcomes = reply.outcomes;
      planned = reply.planned;
      asked = record {
        decided = same-outcomes mirrors named reply.plan reply.outcomes long reply.asked.decided;
        asked = reply.asked.asked;
      };
      written = reply.written ∙ ap reply_bytes (sym (same reply.plan reply.outcomes));
    }

-- two replies to a request beside the same asks are the same
IsReply-one :
    (plans : PlansAreOne) (history : History) (mirrors : List Mirror) (request : Request) (moment : ℕ)
    (before after : List Ask) (text other : List ℕ) →
    IsReply (stock_of history mirrors) request moment before after text →
    IsReply (stock_of history mirrors) request moment before after other → other ≡ text
IsReply-one plans history mirrors request moment before after text other first second =
    let plan : second.plan ≡ first.plan = plans history request second.plan first.plan second.planned first.planned in
    let decided = subst (λ (p : List (Option Choice)). AreOutcomes mirrors p second.outcomes) plan second.asked.decided in
    let asked = subst (λ (p : List (Option Choice)). after ≡ before ++ asks_of p second.outcomes) plan second.asked.asked in
    let outcomes =
    outcomes-by-asks mirrors first.plan second.outcomes first.outcomes decided first.asked.decided
    (append_cancel_left before (asks_of first.plan second.outcomes) (asks_of first.plan first.outcomes)
    (sym asked ∙ first.asked.asked)) in
    second.written
    ∙ ap
    (λ (p : List (Option Choice)).
    reply_bytes (reply_of (content_of history) request (payloads_of p) second.outcomes mirrors moment))
    plan
    ∙ ap
    (λ (os : List (Option ℕ)).
    reply_bytes (reply_of (content_of history) request (payloads_of first.plan) os mirrors moment))
    outcomes
    ∙ sym first.written

pub restarts_keep_replies : PlansAreOne → RestartsKeepReplies
restarts_keep_replies plans began dumped calls text leads start =
    let apps = content_of dumped.history in
    let mirrors = began.mirrors in
    let named = dumped.mirrors in
    let raised = operators_only_raise began dumped calls leads in
    let long = length_all_zip IsRaised mirrors named raised in
    let same = λ (request : Request) (moment : ℕ) (plan : List (Option Choice)) (outcomes : List (Option ℕ)).
    same-reply mirrors named (same-codebase mirrors named raised) apps request (payloads_of plan) outcomes moment in
    let there = λ (request : Request) (moment : ℕ) (before after : List Ask) (text : List ℕ).
    IsReply-same apps mirrors named request moment before after text long (same request moment) in
    let back = λ (request : Request) (moment : ℕ) (before after : List Ask) (text : List ℕ).
    IsReply-same apps named mirrors request moment before after text (sym long)
    (λ plan outcomes. sym (same request moment plan outcomes)) in
    record {
      either = λ request moment before after text. (
        λ reply. subst (λ (c : List App). IsReply (record { content = c; mirrors = named }) request moment before after text) (sym start.content)
            (there request moment before after text reply),
        λ reply. back request moment before after text
            (subst (λ (c : List App). IsReply (record { content = c; mirrors = named }) request moment before after text) start.content reply),
      );
      one = λ request moment before after text other first second.
          IsReply-one plans dumped.history mirrors request moment before after text other first
          (back request moment before after other
          (subst (λ (c : List App). IsReply (record { content = c; mirrors = named }) request moment before after other) start.content second));
    }

pub services_open_again : ServicesOpenAgain
services_open_again mirrors service store text workers start =
    let last = ap content_of (take-length service.history) in
    let content = start.content ∙ sym last in
    let now = present mirrors service in
    record {
      content = content;
      replies = λ moment pending.
          let apps = content_at service.history (length service.history) in
          ap (λ (c : List App). rendered_at now c moment pending) content
          ∙ ap (λ (reply : Reply). record { moment = moment; reply = reply })
          (same-reply mirrors now (present-codebase service.books mirrors) apps pending.request (payloads_of pending.choices)
          (outcomes_of pending) moment);
      totals = λ mirror. refl;
      budgets = λ mirror below. budget_at-present service.books mirrors mirror below;
    }
