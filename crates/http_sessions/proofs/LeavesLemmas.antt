-- A reply, after what was said.
use Rattle.std.proofs.Common.{◌≡◌, ◌∙◌, ◌+◌, ◌==◌, ◌++◌, ℕ, Bool, true, List, [], ◌∷◌, append-nil, append_assoc, length, length-append, Option, Some, refl, sym, subst, ap, arith}
use Rattle.std.specs.Prelude.{flat_map}
use Rattle.std.proofs.lemmas.Grind.{flat_map-append}
use Rattle.http_desks.specs.declared.method.Method.{Method}
use Rattle.http_desks.specs.Calls.{Call}
use Rattle.http_desks.specs.Uses.{Use}
use Rattle.http_ports.specs.Traffic.{later, timestamp_of}
use Rattle.http_ports.specs.declared.timestamp.Timestamp.{Timestamp}
use Rattle.http_sessions.specs.Messages.{Exchange, IsOpen, exchange_bytes, exchange_calls, open_reply}
use Rattle.http_sessions.specs.Stops.{Ends, Stop, stop_bytes, stop_calls}
use Rattle.http_sessions.specs.Sessions.{Serves}
use Rattle.http_sessions.specs.Talks.{IsAt, Said, SendsFor, failure_reply, pending, phase_of, waiting_at, waiting_of}
use Rattle.http_sessions.specs.Timestamps.{AreTimed, IsAskedAt, IsLastTimed, IsPlaced}
use Rattle.http_sessions.specs.Leaves.{GoesOn, IsApplied, Leaves}
use Rattle.http_sessions.specs.declared.talks.outcome.After.{After}
use Rattle.http_sessions.specs.declared.talks.outcome.After.TheVariants as after
use Rattle.http_sessions.specs.declared.talks.talk.Stage.{Stage}
use Rattle.http_sessions.specs.declared.talks.talk.Stage.TheVariants as stage
use Rattle.http_sessions.specs.declared.talks.talk.Talk.{Talk}
use Rattle.http_sessions.proofs.TalkLemmas.{RepliesAt, Said-lost, all_replies}
use Rattle.http_sessions.proofs.TimestampLemmas.{ArePlaced-later, ArePlaced-more, AreTimed-later, AreTimed-now, AreTimed-then, IsBusy, IsLastTimed-now, IsOnce, all_append, busy_of, none_once, one_once, placed_after, Said-busy}
use Rattle.http_sessions.proofs.WiderLemmas.{all_wider, stops_wider}

-- no items
nil_of : {A : Type 0} (items : List A) → length items ≡ 0 → items ≡ []
nil_of [] none = refl
nil_of (item ∷ items) none = absurd (omega (arith, none))

module _
    (IsNow IsFit : Method → List ℕ → Use → Type 0) (kind : List ℕ) (seconds : ℕ)
    (now : (method : Method) (target : List ℕ) (used : Use) → IsNow method target used →
    IsFit method target used × IsAskedAt used seconds)
  where
    module _ {D : Type 0} (steps : D → Call → D → Type 0) where
      -- what was said, and then a part of a session
      extended :
          (timestamps : List Timestamp) (talk next : Talk) (received sent left : List ℕ) (calls : List Call) (IsEnd : ℕ → Stop → List ℕ → Type 0) (whole : Bool)
          (old new : Option (List ℕ)) (before behind : D) (said : Said IsFit kind timestamps talk received sent calls) →
          talk.stage ≡ stage.Busy → IsBusy kind talk sent said.exchanges said.stop said.rest said.unread →
          (part : Serves IsNow steps kind talk.begun IsEnd whole [] (Some talk.kept.items) (Some left) old new before behind) →
          IsOnce part.exchanges part.stop →
          RepliesAt kind next.stage sent (pending next) (said.exchanges ++ part.exchanges) part.stop →
          IsAt next.stage next.begun next.kept.items next.need (length (said.exchanges ++ part.exchanges)) part.stop part.rest left →
          Said IsFit kind (later timestamps seconds (waiting_of talk) received sent) next received sent (calls ++ (flat_map exchange_calls part.exchanges ++ stop_calls part.stop))
      extended timestamps talk next received sent left calls IsEnd whole old new before behind said is_busy busy part once replies is_at = record {
        exchanges = said.exchanges ++ part.exchanges;
        stop = part.stop;
        rest = part.rest;
        unread = left;
        cut = said.cut
            ∙ ap (λ (l : List ℕ). flat_map exchange_bytes said.exchanges ++ l)
            (sym busy.kept ∙ part.consumed ∙ ap (λ (l : List ℕ). l ++ left) part.cut
            ∙ append_assoc (flat_map exchange_bytes part.exchanges) part.rest left)
            ∙ sym (append_assoc (flat_map exchange_bytes said.exchanges) (flat_map exchange_bytes part.exchanges) (part.rest ++ left))
            ∙ ap (λ (l : List ℕ). l ++ (part.rest ++ left)) (sym (flat_map-append exchange_bytes said.exchanges part.exchanges));
        each = all_append (IsOpen IsFit) said.exchanges part.exchanges said.each (all_wider IsNow IsFit fits part.exchanges part.each);
        few = omega (arith, length-append said.exchanges part.exchanges, busy.count, part.few);
        stops = stops_wider IsNow IsFit fits part.stop part.rest part.stops;
        called = ap (λ (l : List Call). l ++ (flat_map exchange_calls part.exchanges ++ stop_calls part.stop))
            (said.called ∙ ap (λ (s : Stop). flat_map exchange_calls said.exchanges ++ stop_calls s) busy.stopped
            ∙ append-nil (flat_map exchange_calls said.exchanges))
            ∙ sym (append_assoc (flat_map exchange_calls said.exchanges) (flat_map exchange_calls part.exchanges) (stop_calls part.stop))
            ∙ ap (λ (l : List Call). l ++ stop_calls part.stop) (sym (flat_map-append exchange_calls said.exchanges part.exchanges));
        timed = subst (λ (w : Option (List ℕ)). AreTimed kind (later timestamps seconds w received sent) 0 0 (said.exchanges ++ part.exchanges)) (sym waits)
            (AreTimed-then kind (later timestamps seconds (Some kept) received sent) said.exchanges part.exchanges
            (AreTimed-later kind timestamps (timestamp_of seconds (Some kept) received sent) 0 0 said.exchanges said.timed)
            (AreTimed-now IsNow kind seconds asked timestamps kept received sent part.exchanges part.stop (part.rest ++ left) _ _ once part.each
            cut came (ap length busy.all_sent)));
        last_timed = subst
            (λ (w : Option (List ℕ)). IsLastTimed (later timestamps seconds w received sent)
            (length (flat_map exchange_bytes (said.exchanges ++ part.exchanges)))
            (length (flat_map (open_reply kind) (said.exchanges ++ part.exchanges))) part.stop) (sym waits)
            (subst
            (λ (n : ℕ). IsLastTimed (later timestamps seconds (Some kept) received sent) n
            (length (flat_map (open_reply kind) (said.exchanges ++ part.exchanges))) part.stop)
            (length_of exchange_bytes)
            (subst
            (λ (n : ℕ). IsLastTimed (later timestamps seconds (Some kept) received sent)
            (length (flat_map exchange_bytes said.exchanges) + length (flat_map exchange_bytes part.exchanges)) n part.stop)
            (length_of (open_reply kind))
            (IsLastTimed-now IsNow kind seconds asked timestamps kept received sent part.exchanges part.stop part.rest left _ _ once part.stops
            cut came (ap length busy.all_sent))));
        placed = ArePlaced-later kind timestamps (timestamp_of seconds (waiting_of talk) received sent) (said.exchanges ++ part.exchanges)
            (ArePlaced-more kind timestamps said.exchanges part.exchanges said.placed)
            (subst (IsPlaced kind (said.exchanges ++ part.exchanges) (length received) (length sent)) (sym waits)
            (placed_after kind said.exchanges part.exchanges kept received sent
            (said.cut ∙ ap (λ (l : List ℕ). flat_map exchange_bytes said.exchanges ++ l) (sym busy.kept)) busy.all_sent));
        replies = replies;
        is_at = is_at;
      }
        where
          fits : (method : Method) (target : List ℕ) (used : Use) → IsNow method target used → IsFit method target used
          fits method target used is = (now method target used is).0

          asked : (method : Method) (target : List ℕ) (used : Use) → IsNow method target used → IsAskedAt used seconds
          asked method target used is = (now method target used is).1

          kept : List ℕ
          kept = talk.kept.items

          waits : waiting_of talk ≡ Some kept
          waits = ap (λ (at : Stage). waiting_at at kept) is_busy

          cut : kept ≡ flat_map exchange_bytes part.exchanges ++ (part.rest ++ left)
          cut = part.consumed ∙ ap (λ (l : List ℕ). l ++ left) part.cut ∙ append_assoc (flat_map exchange_bytes part.exchanges) part.rest left

          came : length received ≡ length (flat_map exchange_bytes said.exchanges) + length kept
          came = ap length said.cut ∙ length-append (flat_map exchange_bytes said.exchanges) (said.rest ++ said.unread)
              ∙ ap (λ (l : List ℕ). length (flat_map exchange_bytes said.exchanges) + length l) (sym busy.kept)

          length_of :
              (bytes_of : Exchange → List ℕ) →
              length (flat_map bytes_of said.exchanges) + length (flat_map bytes_of part.exchanges)
              ≡ length (flat_map bytes_of (said.exchanges ++ part.exchanges))
          length_of bytes_of =
              sym (length-append (flat_map bytes_of said.exchanges) (flat_map bytes_of part.exchanges))
              ∙ ap length (sym (flat_map-append bytes_of said.exchanges part.exchanges))

      -- what was sent, and what a whole part made, are the replies
      made_replies :
          (talk : Talk) (sent left made : List ℕ) (exchanges : List Exchange) (stop : Stop) (rest unread : List ℕ)
          (IsEnd : ℕ → Stop → List ℕ → Type 0) (before behind : D) → IsBusy kind talk sent exchanges stop rest unread →
          (part : Serves IsNow steps kind talk.begun IsEnd true [] (Some talk.kept.items) (Some left) (Some []) (Some made) before behind) →
          sent ++ made ≡ all_replies kind (exchanges ++ part.exchanges) part.stop
      made_replies talk sent left made exchanges stop rest unread IsEnd before behind busy part =
          let same : talk.begun + length part.exchanges ≡ length (exchanges ++ part.exchanges) =
          omega (arith, busy.count, length-append exchanges part.exchanges) in
          let after = stop_bytes kind (talk.begun + length part.exchanges == 999) part.stop in
          ap (λ (l : List ℕ). l ++ made) busy.all_sent
          ∙ ap (λ (l : List ℕ). flat_map (open_reply kind) exchanges ++ l) part.written
          ∙ sym (append_assoc (flat_map (open_reply kind) exchanges) (flat_map (open_reply kind) part.exchanges) after)
          ∙ ap (λ (l : List ℕ). l ++ after) (sym (flat_map-append (open_reply kind) exchanges part.exchanges))
          ∙ ap (λ (n : ℕ). flat_map (open_reply kind) (exchanges ++ part.exchanges) ++ stop_bytes kind (n == 999) part.stop) same

      -- the connection after what was left
      pub left_on :
          (talk next : Talk) (before behind : D) (left : After) → talk.stage ≡ stage.Busy → pending talk ≡ [] →
          Leaves IsNow steps kind talk.begun talk.kept.items before behind left → IsApplied talk left next →
          GoesOn IsFit steps kind seconds talk before next behind
      left_on talk next before behind (after.Open opened) busy none (left, part) (stage_is, begun_is, kept_is, waits) =
          let (one, more, kept_new, begun_new) = part.ends in (
            flat_map exchange_calls part.exchanges ++ stop_calls part.stop,
            part.calls,
            λ received sent timestamps calls said.
                let is_busy = busy_of IsFit kind timestamps talk received sent calls busy none said in
                extended timestamps talk next received sent left calls _ true (Some []) (Some opened.made.items) before behind said busy is_busy part (one_once part.exchanges part.stop one more)
                (subst (λ (at : Stage). RepliesAt kind at sent (pending next) (said.exchanges ++ part.exchanges) part.stop) (sym stage_is)
                (ap (λ (l : List ℕ). sent ++ l) waits
                ∙ made_replies talk sent left opened.made.items said.exchanges said.stop said.rest said.unread _ before behind is_busy part))
                (subst (λ (at : Stage). IsAt at next.begun next.kept.items next.need (length (said.exchanges ++ part.exchanges)) part.stop part.rest left) (sym stage_is) (
                  more,
                  omega (arith, begun_is, begun_new, one, is_busy.count, length-append said.exchanges part.exchanges),
                  kept_is ∙ kept_new,
                )),
          )
      left_on talk next before behind (after.Sends started) busy none part (stage_is, begun_is, kept_is, waits) =
          let (zero_count, counts, sends) = part.ends in (
            flat_map exchange_calls part.exchanges ++ stop_calls part.stop,
            part.calls,
            λ received sent timestamps calls said.
                let is_busy = busy_of IsFit kind timestamps talk received sent calls busy none said in
                let same : talk.begun ≡ length (said.exchanges ++ part.exchanges) =
                omega (arith, is_busy.count, zero_count, length-append said.exchanges part.exchanges) in
                extended timestamps talk next received sent started.kept.items calls _ true (Some []) (Some started.made.items) before behind said busy is_busy part (none_once part.exchanges part.stop zero_count)
                (subst (λ (at : Stage). RepliesAt kind at sent (pending next) (said.exchanges ++ part.exchanges) part.stop) (sym stage_is)
                (ap (λ (l : List ℕ). sent ++ l) waits
                ∙ made_replies talk sent started.kept.items started.made.items said.exchanges said.stop said.rest said.unread _ before behind is_busy part))
                (subst (λ (at : Stage). IsAt at next.begun next.kept.items next.need (length (said.exchanges ++ part.exchanges)) part.stop part.rest started.kept.items) (sym stage_is) (
                  (λ stays. begun_is ∙ counts stays ∙ ap (λ (n : ℕ). n + 1) same),
                  kept_is,
                  subst (λ (n : ℕ). SendsFor (n == 999) started.sending part.stop part.rest) same sends,
                )),
          )
      left_on talk next before behind (after.Over made) busy none (left, part) (stage_is, waits) =
          let (zero_count, (how, ends), one) = part.ends in (
            flat_map exchange_calls part.exchanges ++ stop_calls part.stop,
            part.calls,
            λ received sent timestamps calls said.
                let is_busy = busy_of IsFit kind timestamps talk received sent calls busy none said in
                let same : talk.begun ≡ length (said.exchanges ++ part.exchanges) =
                omega (arith, is_busy.count, zero_count, length-append said.exchanges part.exchanges) in
                extended timestamps talk next received sent left calls _ true (Some []) (Some made.items) before behind said busy is_busy part (none_once part.exchanges part.stop zero_count)
                (subst (λ (at : Stage). RepliesAt kind at sent (pending next) (said.exchanges ++ part.exchanges) part.stop) (sym stage_is)
                (ap (λ (l : List ℕ). sent ++ l) waits
                ∙ made_replies talk sent left made.items said.exchanges said.stop said.rest said.unread _ before behind is_busy part))
                (subst (λ (at : Stage). IsAt at next.begun next.kept.items next.need (length (said.exchanges ++ part.exchanges)) part.stop part.rest left) (sym stage_is)
                (how, subst (λ (n : ℕ). Ends (n == 999) (Some left) part.stop part.rest how) same ends, one)),
          )
      left_on talk next before behind (after.Failed bytes) busy none (is, fails) (stage_is, waits) =
          let (left, made, whole, part) = fails in
          let (zero_count, one) = part.ends in (
            flat_map exchange_calls part.exchanges ++ stop_calls part.stop,
            part.calls,
            λ received sent timestamps calls said.
                let is_busy = busy_of IsFit kind timestamps talk received sent calls busy none said in
                extended timestamps talk next received sent left calls _ _ (Some []) (Some made) before behind said busy is_busy part (none_once part.exchanges part.stop zero_count)
                (subst (λ (at : Stage). RepliesAt kind at sent (pending next) (said.exchanges ++ part.exchanges) part.stop) (sym stage_is)
                (ap (λ (l : List ℕ). sent ++ l) (waits ∙ is)
                ∙ ap (λ (l : List ℕ). l ++ failure_reply)
                (is_busy.all_sent ∙ ap (flat_map (open_reply kind))
                (sym (append-nil said.exchanges) ∙ ap (λ (l : List Exchange). said.exchanges ++ l) (sym (nil_of part.exchanges zero_count))))))
                (subst (λ (at : Stage). IsAt at next.begun next.kept.items next.need (length (said.exchanges ++ part.exchanges)) part.stop part.rest left) (sym stage_is) one),
          )
      left_on talk next before behind after.Lost busy none leads (stage_is, waits) = (
        [],
        leads,
        λ received sent timestamps calls said.
            Said-lost IsFit kind (later timestamps seconds (waiting_of talk) received sent) talk next received sent (calls ++ [])
            (ap phase_of busy) none stage_is (waits ∙ none) (Said-busy IsFit kind timestamps seconds talk received sent calls busy none said),
      )
