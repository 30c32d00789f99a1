-- What is said on a connection, after more bytes were sent or came, or memory ran out.
use Rattle.std.proofs.Common.{◌≡◌, ◌⊎◌, ◌∙◌, ◌+◌, ◌-◌, ◌==◌, ◌++◌, ◌<◌, ℕ, List, [], ◌∷◌, append-nil, append_assoc, inl, inr, length, length-append, length-drop, take, drop, refl, sym, subst, ap, arith}
use Rattle.std.specs.Prelude.{flat_map}
use Rattle.std.proofs.Math.Seq.{take-append_seam}
use Rattle.std.proofs.lemmas.List.{take_all}
use Rattle.std.proofs.lemmas.Simd.{chunk-drop}
use Rattle.http_desks.specs.declared.method.Method.{Method}
use Rattle.http_desks.specs.Calls.{Call}
use Rattle.http_desks.specs.Uses.{Use}
use Rattle.http_sessions.specs.Messages.{Exchange, exchange_bytes, exchange_calls, open_reply}
use Rattle.http_sessions.specs.Readings.{IsPart}
use Rattle.http_sessions.specs.Stops.{More, Stop, Waits, stop_bytes, stop_calls}
use Rattle.http_ports.specs.Speech.{Busy, Waiting}
use Rattle.http_ports.specs.declared.timestamp.Timestamp.{Timestamp}
use Rattle.http_sessions.specs.Talks.{AreReplies, IsAt, Said, StaysPart, pending, phase_of}
use Rattle.http_sessions.specs.declared.talks.talk.Stage.{Stage}
use Rattle.http_sessions.specs.declared.talks.talk.Stage.TheVariants as stage
use Rattle.http_sessions.specs.declared.talks.talk.Talk.{Talk}

-- the replies to some messages, and to what is after them
abbrev pub all_replies : List ℕ → List Exchange → Stop → List ℕ
all_replies kind exchanges stop = flat_map (open_reply kind) exchanges ++ stop_bytes kind (length exchanges == 999) stop

-- what was sent and is pending are the replies to them, at this stage
abbrev pub RepliesAt : List ℕ → Stage → List ℕ → List ℕ → List Exchange → Stop → Type 0
RepliesAt kind at sent waits exchanges stop =
    AreReplies at sent waits (flat_map (open_reply kind) exchanges) (stop_bytes kind (length exchanges == 999) stop)

-- of what is pending a first part was sent
pub AreReplies-sent :
    (at : Stage) (sent waits left earlier last first : List ℕ) →
    waits ≡ first ++ left → AreReplies at sent waits earlier last → AreReplies at (sent ++ first) left earlier last
AreReplies-sent stage.Busy sent waits left earlier last first cut is =
    append_assoc sent first left ∙ ap (λ (l : List ℕ). sent ++ l) (sym cut) ∙ is
AreReplies-sent stage.Part sent waits left earlier last first cut is =
    append_assoc sent first left ∙ ap (λ (l : List ℕ). sent ++ l) (sym cut) ∙ is
AreReplies-sent (stage.Sends sending) sent waits left earlier last first cut is =
    append_assoc sent first left ∙ ap (λ (l : List ℕ). sent ++ l) (sym cut) ∙ is
AreReplies-sent stage.Over sent waits left earlier last first cut is =
    append_assoc sent first left ∙ ap (λ (l : List ℕ). sent ++ l) (sym cut) ∙ is
AreReplies-sent stage.Failed sent waits left earlier last first cut is =
    append_assoc sent first left ∙ ap (λ (l : List ℕ). sent ++ l) (sym cut) ∙ is
AreReplies-sent stage.Lost sent waits left earlier last [] cut (none, (rest, is), heard) =
    let same = append-nil sent in (
      sym cut ∙ none,
      (rest, is ∙ ap (λ (l : List ℕ). l ++ rest) (sym same)),
      subst (λ (l : List ℕ). (last ≡ []) ⊎ (length earlier < length l)) (sym same) heard,
    )
AreReplies-sent stage.Lost sent waits left earlier last (byte ∷ first) cut (none, rest, heard) = absurd (grind (arith, cut, none))

-- some of the last reply was sent, if it has any bytes and all replies were
heard_of :
    (earlier last sent : List ℕ) → earlier ++ last ≡ sent → (last ≡ []) ⊎ (0 < length last) →
    (last ≡ []) ⊎ (length earlier < length sent)
heard_of earlier last sent all (inl none) = inl none
heard_of earlier last sent all (inr some) = inr (omega (arith, length-append earlier last, some, ap length all))

-- a list has items, or none
none_or_some : (bytes : List ℕ) → (bytes ≡ []) ⊎ (0 < length bytes)
none_or_some [] = inl refl
none_or_some (byte ∷ bytes) = inr (omega arith)

-- a busy connection that was given up: a first part of the replies was sent, and some of the last one
AreReplies-given_up :
    (at : Stage) (sent waits earlier last : List ℕ) → phase_of at ≡ Busy → waits ≡ [] →
    (last ≡ []) ⊎ (0 < length last) → AreReplies at sent waits earlier last → AreReplies stage.Lost sent [] earlier last
AreReplies-given_up stage.Busy sent waits earlier last busy none ends is =
    let all : earlier ++ last ≡ sent = sym is ∙ ap (λ (l : List ℕ). sent ++ l) none ∙ append-nil sent in
    (refl, ([], all ∙ sym (append-nil sent)), heard_of earlier last sent all ends)
AreReplies-given_up stage.Part sent waits earlier last busy none ends is = absurd (grind (arith, busy))
AreReplies-given_up (stage.Sends sending) sent waits earlier last busy none ends is =
    let all : earlier ++ last ≡ sent = sym is ∙ ap (λ (l : List ℕ). sent ++ l) none ∙ append-nil sent in
    (refl, ([], all ∙ sym (append-nil sent)), heard_of earlier last sent all ends)
AreReplies-given_up stage.Over sent waits earlier last busy none ends is = absurd (grind (arith, busy))
AreReplies-given_up stage.Failed sent waits earlier last busy none ends is = absurd (grind (arith, busy))
AreReplies-given_up stage.Lost sent waits earlier last busy none ends is = absurd (grind (arith, busy))

-- a connection that waits for bytes has a part of a message
pub part_of : (at : Stage) → phase_of at ≡ Waiting → at ≡ stage.Part
part_of stage.Busy is = absurd (grind (arith, is))
part_of stage.Part is = refl
part_of (stage.Sends sending) is = absurd (grind (arith, is))
part_of stage.Over is = absurd (grind (arith, is))
part_of stage.Failed is = absurd (grind (arith, is))
part_of stage.Lost is = absurd (grind (arith, is))

pub drop-cut : (bytes : List ℕ) (at count : ℕ) → drop at bytes ≡ take count (drop at bytes) ++ drop (at + count) bytes
drop-cut bytes at count = chunk-drop at count bytes

-- bytes that were written over the first of others, without these
pub written_over : (len : ℕ) (block items : List ℕ) → length block ≡ len → take len (block ++ items) ≡ block
written_over len block items long = subst (λ (n : ℕ). take n (block ++ items) ≡ block) long (take-append_seam block items)

-- the bytes from a place on
pub rest_from : (at : ℕ) (bytes : List ℕ) → take (length bytes - at) (drop at bytes) ≡ drop at bytes
rest_from at bytes = take_all (length bytes - at) (drop at bytes) (omega (arith, length-drop at bytes))

-- a connection that was accepted
pub Said-nothing :
    (IsFit : Method → List ℕ → Use → Type 0) (kind : List ℕ) (talk : Talk) → talk.stage ≡ stage.Busy → talk.begun ≡ 0 → talk.kept.items ≡ [] → pending talk ≡ [] →
    Said IsFit kind [] talk [] [] []
Said-nothing IsFit kind talk busy none empty waits = record {
  exchanges = [];
  stop = More;
  rest = [];
  unread = [];
  cut = refl;
  each = tt;
  few = omega arith;
  stops = tt;
  called = refl;
  timed = tt;
  last_timed = tt;
  placed = tt;
  replies = subst (λ (at : Stage). AreReplies at [] (pending talk) [] []) (sym busy) waits;
  is_at = subst (λ (at : Stage). IsAt at talk.begun talk.kept.items talk.need 0 More [] []) (sym busy) (refl, none, empty);
}

module _ (IsFit : Method → List ℕ → Use → Type 0) (kind : List ℕ) (timestamps : List Timestamp) where
  -- some of what is pending was sent
  pub Said-sent :
      (talk next : Talk) (received sent first : List ℕ) (calls : List Call) →
      next.stage ≡ talk.stage → next.begun ≡ talk.begun → next.kept.items ≡ talk.kept.items → next.need ≡ talk.need →
      pending talk ≡ first ++ pending next →
      Said IsFit kind timestamps talk received sent calls → Said IsFit kind timestamps next received (sent ++ first) calls
  Said-sent talk next received sent first calls same begun kept needs cut said = record {
    exchanges = said.exchanges;
    stop = said.stop;
    rest = said.rest;
    unread = said.unread;
    cut = said.cut;
    each = said.each;
    few = said.few;
    stops = said.stops;
    called = said.called;
    timed = said.timed;
    last_timed = said.last_timed;
    placed = said.placed;
    replies = subst (λ (at : Stage). RepliesAt kind at (sent ++ first) (pending next) said.exchanges said.stop) (sym same)
        (AreReplies-sent talk.stage sent (pending talk) (pending next) _ _ first cut said.replies);
    is_at = subst (λ (at : Stage). IsAt at next.begun next.kept.items next.need (length said.exchanges) said.stop said.rest said.unread) (sym same)
        (subst (λ (n : ℕ). IsAt talk.stage n next.kept.items next.need (length said.exchanges) said.stop said.rest said.unread) (sym begun)
        (subst (λ (l : List ℕ). IsAt talk.stage talk.begun l next.need (length said.exchanges) said.stop said.rest said.unread) (sym kept)
        (subst (λ (n : ℕ). IsAt talk.stage talk.begun talk.kept.items n (length said.exchanges) said.stop said.rest said.unread) (sym needs) said.is_at)));
  }

  -- a busy connection is given up, and nothing passed
  pub Said-lost :
      (talk next : Talk) (received sent : List ℕ) (calls : List Call) → phase_of talk.stage ≡ Busy → pending talk ≡ [] →
      next.stage ≡ stage.Lost → pending next ≡ [] →
      Said IsFit kind timestamps talk received sent calls → Said IsFit kind timestamps next received sent calls
  Said-lost talk next received sent calls busy over is none said = record {
    exchanges = said.exchanges;
    stop = said.stop;
    rest = said.rest;
    unread = said.unread;
    cut = said.cut;
    each = said.each;
    few = said.few;
    stops = said.stops;
    called = said.called;
    timed = said.timed;
    last_timed = said.last_timed;
    placed = said.placed;
    replies = subst (λ (at : Stage). RepliesAt kind at sent (pending next) said.exchanges said.stop) (sym is)
        (subst (λ (waits : List ℕ). RepliesAt kind stage.Lost sent waits said.exchanges said.stop) (sym none)
        (AreReplies-given_up talk.stage sent (pending talk) _ _ busy over (none_or_some _) said.replies));
    is_at = subst (λ (at : Stage). IsAt at next.begun next.kept.items next.need (length said.exchanges) said.stop said.rest said.unread) (sym is) tt;
  }

  -- bytes came after a part of a message
  pub Said-came :
      (talk next : Talk) (received sent bytes : List ℕ) (calls : List Call) →
      talk.stage ≡ stage.Part → next.stage ≡ stage.Busy → next.begun ≡ talk.begun →
      next.kept.items ≡ talk.kept.items ++ bytes → pending next ≡ pending talk →
      Said IsFit kind timestamps talk received sent calls → Said IsFit kind timestamps next (received ++ bytes) sent calls
  Said-came talk next received sent bytes calls part busy begun kept waits said =
      let (stop, count, rest, none, stays) =
      subst (λ (at : Stage). IsAt at talk.begun talk.kept.items talk.need (length said.exchanges) said.stop said.rest said.unread) part said.is_at in
      let replies = subst (λ (at : Stage). RepliesAt kind at sent (pending talk) said.exchanges said.stop) part said.replies in
      record {
        exchanges = said.exchanges;
        stop = More;
        rest = said.rest ++ bytes;
        unread = [];
        cut = ap (λ (l : List ℕ). l ++ bytes) said.cut
            ∙ append_assoc (flat_map exchange_bytes said.exchanges) (said.rest ++ said.unread) bytes
            ∙ ap (λ (l : List ℕ). flat_map exchange_bytes said.exchanges ++ l)
            (ap (λ (l : List ℕ). (said.rest ++ l) ++ bytes) none
            ∙ ap (λ (l : List ℕ). l ++ bytes) (append-nil said.rest) ∙ sym (append-nil (said.rest ++ bytes)));
        each = said.each;
        few = said.few;
        stops = tt;
        called = said.called ∙ ap (λ (s : Stop). flat_map exchange_calls said.exchanges ++ stop_calls s) stop;
        timed = said.timed;
        last_timed = tt;
        placed = said.placed;
        replies = subst (λ (at : Stage). AreReplies at sent (pending next) (flat_map (open_reply kind) said.exchanges) []) (sym busy)
            (ap (λ (l : List ℕ). sent ++ l) waits ∙ replies ∙ ap (all_replies kind said.exchanges) stop);
        is_at = subst (λ (at : Stage). IsAt at next.begun next.kept.items next.need (length said.exchanges) More (said.rest ++ bytes) []) (sym busy)
            (refl, begun ∙ count, kept ∙ ap (λ (l : List ℕ). l ++ bytes) rest ∙ sym (append-nil (said.rest ++ bytes)));
      }

  -- bytes came after a part of a message, and are still one
  pub Said-came_part :
      (talk next : Talk) (received sent bytes : List ℕ) (calls : List Call) →
      talk.stage ≡ stage.Part → next.stage ≡ stage.Part → next.begun ≡ talk.begun →
      next.kept.items ≡ talk.kept.items ++ bytes → next.need ≡ talk.need → pending next ≡ pending talk →
      length (talk.kept.items ++ bytes) < talk.need →
      Said IsFit kind timestamps talk received sent calls → Said IsFit kind timestamps next (received ++ bytes) sent calls
  Said-came_part talk next received sent bytes calls part still begun kept needs waits less said =
      let (stop, count, rest, none, stays) =
      subst (λ (at : Stage). IsAt at talk.begun talk.kept.items talk.need (length said.exchanges) said.stop said.rest said.unread) part said.is_at in
      let replies = subst (λ (at : Stage). RepliesAt kind at sent (pending talk) said.exchanges said.stop) part said.replies in
      record {
        exchanges = said.exchanges;
        stop = Waits;
        rest = said.rest ++ bytes;
        unread = [];
        cut = ap (λ (l : List ℕ). l ++ bytes) said.cut
            ∙ append_assoc (flat_map exchange_bytes said.exchanges) (said.rest ++ said.unread) bytes
            ∙ ap (λ (l : List ℕ). flat_map exchange_bytes said.exchanges ++ l)
            (ap (λ (l : List ℕ). (said.rest ++ l) ++ bytes) none
            ∙ ap (λ (l : List ℕ). l ++ bytes) (append-nil said.rest) ∙ sym (append-nil (said.rest ++ bytes)));
        each = said.each;
        few = said.few;
        stops = subst (λ (l : List ℕ). IsPart (l ++ bytes)) rest (stays bytes less);
        called = said.called ∙ ap (λ (s : Stop). flat_map exchange_calls said.exchanges ++ stop_calls s) stop;
        timed = said.timed;
        last_timed = tt;
        placed = said.placed;
        replies = subst (λ (at : Stage). AreReplies at sent (pending next) (flat_map (open_reply kind) said.exchanges) []) (sym still)
            (ap (λ (l : List ℕ). sent ++ l) waits ∙ replies ∙ ap (all_replies kind said.exchanges) stop);
        is_at = subst (λ (at : Stage). IsAt at next.begun next.kept.items next.need (length said.exchanges) Waits (said.rest ++ bytes) []) (sym still) (
          refl,
          begun ∙ count,
          kept ∙ ap (λ (l : List ℕ). l ++ bytes) rest,
          refl,
          λ more below.
              let all : next.kept.items ++ more ≡ talk.kept.items ++ (bytes ++ more) =
              ap (λ (l : List ℕ). l ++ more) kept ∙ append_assoc talk.kept.items bytes more in
              subst (λ (l : List ℕ). IsPart l) (sym all) (stays (bytes ++ more) (omega (arith, below, needs, ap length all))),
        );
      }

  -- what is kept is less than a message
  pub Said-part :
      (talk next : Talk) (received sent : List ℕ) (calls : List Call) →
      talk.stage ≡ stage.Busy → next.stage ≡ stage.Part → next.begun ≡ talk.begun → next.kept.items ≡ talk.kept.items →
      pending next ≡ pending talk → IsPart talk.kept.items → StaysPart next.kept.items next.need →
      Said IsFit kind timestamps talk received sent calls → Said IsFit kind timestamps next received sent calls
  Said-part talk next received sent calls busy part begun kept waits is_part stays said =
      let (stop, count, all) =
      subst (λ (at : Stage). IsAt at talk.begun talk.kept.items talk.need (length said.exchanges) said.stop said.rest said.unread) busy said.is_at in
      let replies = subst (λ (at : Stage). RepliesAt kind at sent (pending talk) said.exchanges said.stop) busy said.replies in
      record {
        exchanges = said.exchanges;
        stop = Waits;
        rest = said.rest ++ said.unread;
        unread = [];
        cut = said.cut ∙ ap (λ (l : List ℕ). flat_map exchange_bytes said.exchanges ++ l) (sym (append-nil (said.rest ++ said.unread)));
        each = said.each;
        few = said.few;
        stops = subst (λ (l : List ℕ). IsPart l) all is_part;
        called = said.called ∙ ap (λ (s : Stop). flat_map exchange_calls said.exchanges ++ stop_calls s) stop;
        timed = said.timed;
        last_timed = tt;
        placed = said.placed;
        replies = subst (λ (at : Stage). AreReplies at sent (pending next) (flat_map (open_reply kind) said.exchanges) []) (sym part)
            (ap (λ (l : List ℕ). sent ++ l) waits ∙ replies ∙ ap (all_replies kind said.exchanges) stop);
        is_at = subst (λ (at : Stage). IsAt at next.begun next.kept.items next.need (length said.exchanges) Waits (said.rest ++ said.unread) []) (sym part)
            (refl, begun ∙ count, kept ∙ all, refl, stays);
      }

  -- bytes came, and memory ran out for them
  pub Said-came_lost :
      (talk next : Talk) (received sent bytes : List ℕ) (calls : List Call) →
      talk.stage ≡ stage.Part → next.stage ≡ stage.Lost → pending next ≡ [] →
      Said IsFit kind timestamps talk received sent calls → Said IsFit kind timestamps next (received ++ bytes) sent calls
  Said-came_lost talk next received sent bytes calls part is none said =
      let (waits, count, rest, empty, stays) =
      subst (λ (at : Stage). IsAt at talk.begun talk.kept.items talk.need (length said.exchanges) said.stop said.rest said.unread) part said.is_at in
      let replies = subst (λ (at : Stage). RepliesAt kind at sent (pending talk) said.exchanges said.stop) part said.replies in
      record {
        exchanges = said.exchanges;
        stop = said.stop;
        rest = said.rest;
        unread = said.unread ++ bytes;
        cut = ap (λ (l : List ℕ). l ++ bytes) said.cut
            ∙ append_assoc (flat_map exchange_bytes said.exchanges) (said.rest ++ said.unread) bytes
            ∙ ap (λ (l : List ℕ). flat_map exchange_bytes said.exchanges ++ l) (append_assoc said.rest said.unread bytes);
        each = said.each;
        few = said.few;
        stops = said.stops;
        called = said.called;
        timed = said.timed;
        last_timed = said.last_timed;
        placed = said.placed;
        replies = subst (λ (at : Stage). RepliesAt kind at sent (pending next) said.exchanges said.stop) (sym is)
            (none, (pending talk, sym replies), inl (ap (stop_bytes kind (length said.exchanges == 999)) waits));
        is_at = subst (λ (at : Stage). IsAt at next.begun next.kept.items next.need (length said.exchanges) said.stop said.rest (said.unread ++ bytes)) (sym is) tt;
      }
