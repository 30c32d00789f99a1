-- The reply to a whole message, as a part of a session.
use Rattle.std.proofs.Common.{◌≡◌, ◌∙◌, ◌+◌, ◌<◌, ◌==◌, ◌++◌, ◌||◌, ℕ, Bool, true, false, List, [], ◌∷◌, append-nil, drop, length, Option, Some, refl, sym, subst, ap, arith}
use Rattle.std.specs.Prelude.{Ok, Err}
use Rattle.std.proofs.Math.Seq.{drop-append_seam}
use Rattle.std.specs.Io.KnownBytes.{Appends}
use Rattle.http_desks.specs.declared.answering.Handled.{Handled}
use Rattle.http_desks.specs.declared.method.Method.{Method}
use Rattle.http_desks.specs.Calls.{Call, Leads}
use Rattle.http_desks.specs.Replies.{Answers, reply_to}
use Rattle.http_desks.specs.Uses.{Broken, Fetched, Use, calls_of}
use Rattle.http_sessions.specs.declared.ends.End.{End}
use Rattle.http_sessions.specs.declared.foreseeing.Found.{Found}
use Rattle.http_sessions.specs.Messages.{Exchange, IsExchange, IsOpen, asks_close, closing, exchange_bytes, exchange_calls, open_reply}
use Rattle.http_sessions.specs.Readings.{IsFound}
use Rattle.http_sessions.specs.Sessions.{Writes}
use Rattle.http_sessions.specs.Stops.{Last, More, Stop, end_after, stop_bytes}
use Rattle.http_sessions.specs.Talks.{IsSent}
use Rattle.http_sessions.specs.Leaves.{EndsFailed, EndsOpen, EndsOver, EndsSending, Fails, IsDone, IsNew, IsStarted, Leaves, Makes}
use Rattle.http_sessions.specs.declared.talks.outcome.After.{After}
use Rattle.http_sessions.specs.declared.talks.outcome.After.TheVariants as after
use Rattle.http_sessions.specs.declared.talks.talk.Sending.{Sending}
use Rattle.values.specs.declared.declared.Declared.{Declared}
use Rattle.values.specs.declared.failed.Failed.{Failed}

-- what keeps a connection open
open_left : (a b : Bool) → (a || b) ≡ false → a ≡ false
open_left true b e = cc
open_left false b e = refl

-- of the end after a reply whose outcome is known
end_as :
    (closes last : Bool) (handled : Handled) (came : Option Handled) (how : End) → closes ≡ last → came ≡ Some handled →
    end_after closes (Some handled) ≡ Some how → end_after last came ≡ Some how
end_as closes last handled came how same is ends =
    ap (end_after last) is ∙ ap (λ (b : Bool). end_after b (Some handled)) (sym same) ∙ ends

module _
    {D : Type 0} (IsFit : Method → List ℕ → Use → Type 0) (steps : D → Call → D → Type 0) (kind : List ℕ) (start : ℕ)
    (kept : List ℕ) (found : Found) (is : IsFound kept found) (few : start < 1000) (before behind : D)
  where
    abbrev message : Use → Exchange
    message used = record { head = is.head; body = found.request.body.now; used = used }

    cut_off : (used : Use) → kept ≡ exchange_bytes (message used) ++ drop found.length kept
    cut_off used =
        let bytes = exchange_bytes (message used) in
        is.whole ∙ ap (λ (l : List ℕ). bytes ++ l)
        (sym (ap (λ (n : ℕ). drop n kept) is.long ∙ ap (λ (l : List ℕ). drop (length bytes) l) is.whole ∙ drop-append_seam bytes is.after))

    fits : (used : Use) → IsFit found.request.method found.request.target.now used → IsExchange IsFit (message used)
    fits used fit = record {
      head = is.valid;
      short = is.short;
      framed = is.framed;
      fits = subst (λ (m : Method). IsFit m is.head.target used) is.method
          (subst (λ (t : List ℕ). IsFit found.request.method t used) is.target fit);
    }

    -- the message ends the session, or its reply is not yet whole
    made_last :
        (used : Use) (whole : Bool) (made : List ℕ) (IsEnd : ℕ → Stop → List ℕ → Type 0) →
        IsFit found.request.method found.request.target.now used →
        Writes whole (Some []) (Some made) [] (reply_to kind (closing (start == 999) is.head) used) →
        Leads steps before (calls_of found.request.body.now used) behind →
        IsEnd 0 (Last (message used)) (exchange_bytes (message used)) →
        Makes IsFit steps kind start IsEnd whole kept (drop found.length kept) made before behind
    made_last used whole made IsEnd fit written calls ends =
        let none : start ≡ start + length {A = Exchange} [] = omega arith in record {
          given = exchange_bytes (message used);
          exchanges = [];
          stop = Last (message used);
          rest = exchange_bytes (message used);
          consumed = cut_off used;
          cut = refl;
          each = tt;
          few = omega (arith, few);
          stops = ([], sym (append-nil (exchange_bytes (message used))), fits used fit);
          written = subst (λ (n : ℕ). Writes whole (Some []) (Some made) [] (stop_bytes kind (n == 999) (Last (message used)))) none written;
          calls = calls;
          ends = ends;
        }

    -- the session goes on after it
    made_open :
        (used : Use) (made : List ℕ) (IsEnd : ℕ → Stop → List ℕ → Type 0) →
        IsOpen IsFit (message used) → start + 1 < 1000 → made ≡ reply_to kind false used →
        Leads steps before (calls_of found.request.body.now used) behind → IsEnd 1 More [] →
        Makes IsFit steps kind start IsEnd true kept (drop found.length kept) made before behind
    made_open used made IsEnd stays one_more written calls ends = record {
      given = exchange_bytes (message used);
      exchanges = message used ∷ [];
      stop = More;
      rest = [];
      consumed = cut_off used;
      cut = sym (append-nil (exchange_bytes (message used) ++ []) ∙ append-nil (exchange_bytes (message used)));
      each = (stays, tt);
      few = one_more;
      stops = tt;
      written = written ∙ sym (append-nil (open_reply kind (message used) ++ []) ∙ append-nil (open_reply kind (message used)));
      calls = subst (λ (made : List Call). Leads steps before made behind)
          (sym (append-nil (exchange_calls (message used) ++ []) ∙ append-nil (exchange_calls (message used)))) calls;
      ends = ends;
    }

    -- a reply that is written
    pub done_leaves :
        (handled : Handled) (closes : Bool) (made : List ℕ) (left : After) → closes ≡ closing (start == 999) is.head →
        Answers (IsFit found.request.method found.request.target.now) steps kind found.request.body.now closes before behind
        (Some []) (Some made) (Ok handled) →
        IsDone start handled closes (drop found.length kept) made left →
        Leaves IsFit steps kind start kept before behind left
    done_leaves handled closes made (after.Open opened) same answers (answered, stays, begun, kept_is, made_is) =
        let (came, sent) = answers.writes in
        let on : closing (start == 999) is.head ≡ false = sym same ∙ stays in (
          drop found.length kept,
          made_open answers.used opened.made.items (EndsOpen start (drop found.length kept) opened)
              (record {
                exchange = fits answers.used answers.fits;
                stays = open_left (asks_close is.head) (start == 999) on;
                whole = came ∙ ap Some answered;
              })
              (omega (arith, begun, opened.few))
              (made_is ∙ sent ∙ ap (λ (b : Bool). reply_to kind b answers.used) stays)
              answers.calls (refl, refl, kept_is, begun),
        )
    done_leaves handled closes made (after.Sends started) same answers done = absurd done
    done_leaves handled closes made (after.Over bytes) same answers ((how, ends), made_is) =
        let (came, sent) = answers.writes in (
          drop found.length kept,
          made_last answers.used true bytes.items (EndsOver start (drop found.length kept)) answers.fits
              (made_is ∙ sent ∙ ap (λ (b : Bool). reply_to kind b answers.used) same) answers.calls
              (refl, (how, end_as closes (closing (start == 999) is.head) handled _ how same came ends), refl),
        )
    done_leaves handled closes made (after.Failed bytes) same answers done = absurd done
    done_leaves handled closes made after.Lost same answers done = absurd done

    -- the head of a package
    pub started_leaves :
        (name : List ℕ) (declared : Declared) (closes : Bool) (sending : Sending) (made : List ℕ) (left : After) →
        closes ≡ closing (start == 999) is.head →
        IsFit found.request.method found.request.target.now (Fetched name declared (Broken [])) →
        Leads steps before (calls_of found.request.body.now (Fetched name declared (Broken []))) behind →
        Appends (Some []) (Some made) (reply_to kind closes (Fetched name declared (Broken []))) →
        IsNew name declared closes sending →
        IsStarted start sending (drop found.length kept) made left →
        Leaves IsFit steps kind start kept before behind left
    started_leaves name declared closes sending made (after.Open opened) same fit calls head new done = absurd done
    started_leaves name declared closes sending made (after.Sends started) same fit calls head new (is_sending, count, kept_is, made_is) =
        let used = Fetched name declared (Broken []) in
        let sent : IsSent (start == 999) sending (message used) [] = record {
          used = ap (λ (n : List ℕ). Fetched n declared (Broken [])) (sym new.path)
              ∙ ap (λ (d : Declared). Fetched sending.name.items d (Broken [])) (sym new.known);
          closes = new.ends ∙ same;
          size = new.size ∙ ap (λ (d : Declared). d.size) (sym new.known);
          blocks_made = new.none_made;
        } in
        subst (λ (l : List ℕ). Makes IsFit steps kind start (EndsSending start started) true kept l started.made.items before behind) (sym kept_is)
        (made_last used true started.made.items (EndsSending start started) fit
        (made_is ∙ head ∙ ap (λ (b : Bool). reply_to kind b used) same) calls (
          refl,
          (λ stays. count (ap (λ (s : Sending). s.closes) (sym is_sending) ∙ stays)),
          (
            message used,
            [],
            refl,
            refl,
            subst (λ (s : Sending). IsSent (start == 999) s (message used) []) (sym is_sending) sent,
          ),
        ))
    started_leaves name declared closes sending made (after.Over bytes) same fit calls head new done = absurd done
    started_leaves name declared closes sending made (after.Failed bytes) same fit calls head new done = absurd done
    started_leaves name declared closes sending made after.Lost same fit calls head new done = absurd done

    -- memory ran out for the package's name
    pub unstarted_leaves :
        (name : List ℕ) (declared : Declared) (closes : Bool) (made : List ℕ) → closes ≡ closing (start == 999) is.head →
        IsFit found.request.method found.request.target.now (Fetched name declared (Broken [])) →
        Leads steps before (calls_of found.request.body.now (Fetched name declared (Broken []))) behind →
        Appends (Some []) (Some made) (reply_to kind closes (Fetched name declared (Broken []))) →
        Fails IsFit steps kind start kept before behind
    unstarted_leaves name declared closes made same fit calls head = (
      drop found.length kept,
      made,
      true,
      made_last (Fetched name declared (Broken [])) true made EndsFailed fit
          (head ∙ ap (λ (b : Bool). reply_to kind b (Fetched name declared (Broken []))) same) calls (refl, refl),
    )

    -- memory ran out for the reply
    pub failed_leaves :
        (closes : Bool) (made : List ℕ) (failed : Failed) → closes ≡ closing (start == 999) is.head →
        Answers (IsFit found.request.method found.request.target.now) steps kind found.request.body.now closes before behind
        (Some []) (Some made) (Err failed) →
        Fails IsFit steps kind start kept before behind
    failed_leaves closes made failed same answers = (
      drop found.length kept,
      made,
      false,
      made_last answers.used false made EndsFailed answers.fits
          (subst (λ (b : Bool). Writes false (Some []) (Some made) [] (reply_to kind b answers.used)) same answers.writes)
          answers.calls (refl, refl),
    )
