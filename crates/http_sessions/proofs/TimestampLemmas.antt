-- The timestamps of messages: with one more of each, and with more messages.
use Rattle.std.proofs.Common.{◌≡◌, ◌∙◌, ◌+◌, ◌++◌, ℕ, List, [], ◌∷◌, append-nil, append_assoc, length, length-append, refl, sym, subst, ap, arith, Option, None, Some}
use Rattle.std.specs.Prelude.{⊤, flat_map}
use Rattle.std.specs.List.{AllByRecursion}
use Rattle.http_desks.specs.Downloads.{Reads}
use Rattle.http_desks.specs.declared.method.Method.{Method}
use Rattle.http_desks.specs.Calls.{Call}
use Rattle.http_desks.specs.Uses.{Asked, Barred, Fetched, IsUse, Misused, Paged, Unknown, Untaken, Use}
use Rattle.http_ports.specs.Traffic.{IsTime, later, timestamp_of}
use Rattle.http_ports.specs.declared.timestamp.Timestamp.{Timestamp}
use Rattle.http_sessions.specs.Messages.{Exchange, IsOpen, exchange_bytes, open_reply}
use Rattle.http_sessions.specs.Stops.{Bad, Last, Long, More, Refuses, Stop, StopsAt, Waits}
use Rattle.http_sessions.specs.Timestamps.{ArePlaced, AreTimed, HasStart, IsAnyTime, IsAskedAt, IsLastTimed, IsPlaced}
use Rattle.http_sessions.specs.Talks.{IsAt, Said, pending, waiting_at, waiting_of}
use Rattle.http_sessions.specs.declared.talks.talk.Stage.{Stage}
use Rattle.http_sessions.specs.declared.talks.talk.Stage.TheVariants as stage
use Rattle.http_sessions.specs.declared.talks.talk.Talk.{Talk}
use Rattle.http_sessions.proofs.TalkLemmas.{RepliesAt, all_replies}

pub all_append :
    {A : Type 0} (Holds : A → Type 0) (first second : List A) →
    AllByRecursion Holds first → AllByRecursion Holds second → AllByRecursion Holds (first ++ second)
all_append Holds [] second one two = two
all_append Holds (item ∷ first) second (here, one) two = (here, all_append Holds first second one two)

-- of a busy session all replies were sent, and what is kept is what comes after its messages
pub record IsBusy (kind : List ℕ) (talk : Talk) (sent : List ℕ) (exchanges : List Exchange) (stop : Stop)
    (rest unread : List ℕ) : Type 0 where
  pub stopped : stop ≡ More
  pub count : talk.begun ≡ length exchanges
  pub kept : talk.kept.items ≡ rest ++ unread
  pub all_sent : sent ≡ flat_map (open_reply kind) exchanges

module _ (IsFit : Method → List ℕ → Use → Type 0) (kind : List ℕ) where
  pub busy_of :
      (timestamps : List Timestamp) (talk : Talk) (received sent : List ℕ) (calls : List Call) →
      talk.stage ≡ stage.Busy → pending talk ≡ [] →
      (said : Said IsFit kind timestamps talk received sent calls) → IsBusy kind talk sent said.exchanges said.stop said.rest said.unread
  busy_of timestamps talk received sent calls busy none said =
      let (stop, count, kept) =
      subst (λ (at : Stage). IsAt at talk.begun talk.kept.items talk.need (length said.exchanges) said.stop said.rest said.unread) busy said.is_at in
      let replies = subst (λ (at : Stage). RepliesAt kind at sent (pending talk) said.exchanges said.stop) busy said.replies in
      record {
        stopped = stop;
        count = count;
        kept = kept;
        all_sent = sym (append-nil sent) ∙ ap (λ (l : List ℕ). sent ++ l) (sym none) ∙ replies
            ∙ ap (all_replies kind said.exchanges) stop
            ∙ append-nil (flat_map (open_reply kind) said.exchanges);
      }

-- with one more timestamp
HasStart-later :
    (timestamps : List Timestamp) (timestamp : Timestamp) (start gone : ℕ) (message : List ℕ) (Asks : ℕ → Type 0) →
    HasStart timestamps start gone message Asks → HasStart (timestamps ++ timestamp ∷ []) start gone message Asks
HasStart-later timestamps timestamp start gone message Asks began = record {
  earlier = began.earlier;
  timestamp = began.timestamp;
  after = began.after ++ timestamp ∷ [];
  among = ap (λ (l : List Timestamp). l ++ timestamp ∷ []) began.among
      ∙ append_assoc began.earlier (began.timestamp ∷ began.after) (timestamp ∷ []);
  is_start = began.is_start;
}

-- whenever the desk was asked
pub at_any_time :
    (timestamps : List Timestamp) (start gone : ℕ) (message : List ℕ) (Asks : ℕ → Type 0) →
    HasStart timestamps start gone message Asks → HasStart timestamps start gone message IsAnyTime
at_any_time timestamps start gone message Asks began = record {
  earlier = began.earlier;
  timestamp = began.timestamp;
  after = began.after;
  among = began.among;
  is_start = record {
    more = began.is_start.more;
    waited = began.is_start.waited;
    came = began.is_start.came;
    sent = began.is_start.sent;
    asked = tt;
  };
}

pub AreTimed-later :
    (kind : List ℕ) (timestamps : List Timestamp) (timestamp : Timestamp) (come gone : ℕ) (exchanges : List Exchange) →
    AreTimed kind timestamps come gone exchanges → AreTimed kind (timestamps ++ timestamp ∷ []) come gone exchanges
AreTimed-later kind timestamps timestamp come gone [] timed = tt
AreTimed-later kind timestamps timestamp come gone (e ∷ exchanges) (one, timed) = (
  HasStart-later timestamps timestamp come gone (exchange_bytes e) (IsAskedAt e.used) one,
  AreTimed-later kind timestamps timestamp (come + length (exchange_bytes e)) (gone + length (open_reply kind e)) exchanges timed,
)

IsLastTimed-later :
    (timestamps : List Timestamp) (timestamp : Timestamp) (come gone : ℕ) (stop : Stop) →
    IsLastTimed timestamps come gone stop → IsLastTimed (timestamps ++ timestamp ∷ []) come gone stop
IsLastTimed-later timestamps timestamp come gone More timed = tt
IsLastTimed-later timestamps timestamp come gone Waits timed = tt
IsLastTimed-later timestamps timestamp come gone Bad timed = HasStart-later timestamps timestamp come gone [] IsAnyTime timed
IsLastTimed-later timestamps timestamp come gone Long timed = HasStart-later timestamps timestamp come gone [] IsAnyTime timed
IsLastTimed-later timestamps timestamp come gone (Refuses head status) timed =
    HasStart-later timestamps timestamp come gone [] IsAnyTime timed
IsLastTimed-later timestamps timestamp come gone (Last e) timed =
    HasStart-later timestamps timestamp come gone (exchange_bytes e) (IsAskedAt e.used) timed

module _ (kind : List ℕ) where
  IsPlaced-more :
      (exchanges more : List Exchange) (received sent : ℕ) (waiting : Option (List ℕ)) →
      IsPlaced kind exchanges received sent waiting → IsPlaced kind (exchanges ++ more) received sent waiting
  IsPlaced-more exchanges more received sent None placed = tt
  IsPlaced-more exchanges more received sent (Some waiting) (start, came, between) = (
    start,
    came,
    record {
      first = between.first;
      others = between.others ++ more;
      among = ap (λ (l : List Exchange). l ++ more) between.among ∙ append_assoc between.first between.others more;
      come = between.come;
      sent = between.sent;
    },
  )

  -- with more messages
  pub ArePlaced-more :
      (timestamps : List Timestamp) (exchanges more : List Exchange) →
      ArePlaced kind exchanges timestamps → ArePlaced kind (exchanges ++ more) timestamps
  ArePlaced-more [] exchanges more placed = tt
  ArePlaced-more (t ∷ timestamps) exchanges more (one, placed) =
      (IsPlaced-more exchanges more t.received t.sent t.waiting one, ArePlaced-more timestamps exchanges more placed)

  -- the bytes after some messages, to which all replies were sent
  pub placed_after :
      (first others : List Exchange) (waiting received sent : List ℕ) →
      received ≡ flat_map exchange_bytes first ++ waiting → sent ≡ flat_map (open_reply kind) first →
      IsPlaced kind (first ++ others) (length received) (length sent) (Some waiting)
  placed_after first others waiting received sent came gone = (
    length (flat_map exchange_bytes first),
    ap length came ∙ length-append (flat_map exchange_bytes first) waiting,
    record { first = first; others = others; among = refl; come = refl; sent = ap length gone },
  )

  -- with one more timestamp
  pub ArePlaced-later :
      (timestamps : List Timestamp) (timestamp : Timestamp) (exchanges : List Exchange) →
      ArePlaced kind exchanges timestamps → IsPlaced kind exchanges timestamp.received timestamp.sent timestamp.waiting →
      ArePlaced kind exchanges (timestamps ++ timestamp ∷ [])
  ArePlaced-later timestamps timestamp exchanges placed one =
      all_append (λ (t : Timestamp). IsPlaced kind exchanges t.received t.sent t.waiting) timestamps (timestamp ∷ []) placed (one, tt)

module _ (IsFit : Method → List ℕ → Use → Type 0) (kind : List ℕ) (timestamps : List Timestamp) (seconds : ℕ) (talk : Talk) where
  -- what was said, with one more timestamp, at which the desk was not called
  noted :
      (waiting : Option (List ℕ)) (received sent : List ℕ) (calls : List Call)
      (said : Said IsFit kind timestamps talk received sent calls) →
      IsPlaced kind said.exchanges (length received) (length sent) waiting →
      Said IsFit kind (later timestamps seconds waiting received sent) talk received sent (calls ++ [])
  noted waiting received sent calls said placed = record {
    exchanges = said.exchanges;
    stop = said.stop;
    rest = said.rest;
    unread = said.unread;
    cut = said.cut;
    each = said.each;
    few = said.few;
    stops = said.stops;
    called = append-nil calls ∙ said.called;
    timed = AreTimed-later kind timestamps (timestamp_of seconds waiting received sent) 0 0 said.exchanges said.timed;
    last_timed = IsLastTimed-later timestamps (timestamp_of seconds waiting received sent) _ _ said.stop said.last_timed;
    placed = ArePlaced-later kind timestamps (timestamp_of seconds waiting received sent) said.exchanges said.placed placed;
    replies = said.replies;
    is_at = said.is_at;
  }

  -- while no bytes wait with which a message may begin
  pub Said-idle :
      (received sent : List ℕ) (calls : List Call) → waiting_of talk ≡ None →
      Said IsFit kind timestamps talk received sent calls →
      Said IsFit kind (later timestamps seconds (waiting_of talk) received sent) talk received sent (calls ++ [])
  Said-idle received sent calls none said =
      noted (waiting_of talk) received sent calls said
      (subst (IsPlaced kind said.exchanges (length received) (length sent)) (sym none) tt)

  -- while less than a message waits, and all replies were sent
  pub Said-busy :
      (received sent : List ℕ) (calls : List Call) → talk.stage ≡ stage.Busy → pending talk ≡ [] →
      Said IsFit kind timestamps talk received sent calls →
      Said IsFit kind (later timestamps seconds (waiting_of talk) received sent) talk received sent (calls ++ [])
  Said-busy received sent calls busy none said =
      let is_busy = busy_of IsFit kind timestamps talk received sent calls busy none said in
      noted (waiting_of talk) received sent calls said
      (subst (IsPlaced kind said.exchanges (length received) (length sent)) (sym (ap (λ (at : Stage). waiting_at at talk.kept.items) busy))
      (subst (λ (l : List Exchange). IsPlaced kind l (length received) (length sent) (Some talk.kept.items)) (append-nil said.exchanges)
      (placed_after kind said.exchanges [] talk.kept.items received sent
      (said.cut ∙ ap (λ (l : List ℕ). flat_map exchange_bytes said.exchanges ++ l) (sym is_busy.kept)) is_busy.all_sent)))

module _ (kind : List ℕ) (timestamps : List Timestamp) where
  -- some messages, and then others
  AreTimed-append :
      (first second : List Exchange) (come gone : ℕ) → AreTimed kind timestamps come gone first →
      AreTimed kind timestamps (come + length (flat_map exchange_bytes first)) (gone + length (flat_map (open_reply kind) first)) second →
      AreTimed kind timestamps come gone (first ++ second)
  AreTimed-append [] second come gone one two =
      let same_come : come + 0 ≡ come = omega arith in
      let same_gone : gone + 0 ≡ gone = omega arith in
      subst (λ (n : ℕ). AreTimed kind timestamps n gone second) same_come
      (subst (λ (n : ℕ). AreTimed kind timestamps (come + 0) n second) same_gone two)
  AreTimed-append (e ∷ first) second come gone (one, timed) two = (
    one,
    let bytes = exchange_bytes e in
        let reply = open_reply kind e in
        let far : come + length (bytes ++ flat_map exchange_bytes first) ≡ (come + length bytes) + length (flat_map exchange_bytes first) =
        omega (arith, length-append bytes (flat_map exchange_bytes first)) in
        let long : gone + length (reply ++ flat_map (open_reply kind) first) ≡ (gone + length reply) + length (flat_map (open_reply kind) first) =
        omega (arith, length-append reply (flat_map (open_reply kind) first)) in
        AreTimed-append first second (come + length bytes) (gone + length reply) timed
        (subst (λ (n : ℕ). AreTimed kind timestamps n ((gone + length reply) + length (flat_map (open_reply kind) first)) second) far
        (subst (λ (n : ℕ). AreTimed kind timestamps (come + length (bytes ++ flat_map exchange_bytes first)) n second) long two)),
  )

  -- all messages, and then others
  pub AreTimed-then :
      (first second : List Exchange) → AreTimed kind timestamps 0 0 first →
      AreTimed kind timestamps (length (flat_map exchange_bytes first)) (length (flat_map (open_reply kind) first)) second →
      AreTimed kind timestamps 0 0 (first ++ second)
  AreTimed-then first second one two =
      let far : length (flat_map exchange_bytes first) ≡ 0 + length (flat_map exchange_bytes first) = omega arith in
      let long : length (flat_map (open_reply kind) first) ≡ 0 + length (flat_map (open_reply kind) first) = omega arith in
      AreTimed-append first second 0 0 one
      (subst (λ (n : ℕ). AreTimed kind timestamps n (0 + length (flat_map (open_reply kind) first)) second) far
      (subst (λ (n : ℕ). AreTimed kind timestamps (length (flat_map exchange_bytes first)) n second) long two))

-- a use that fits at just one timestamp
pub fits_at :
    (path : List ℕ) (seconds : ℕ) (sizes : List ℕ → Option ℕ → Type 0) (reads : List ℕ → Reads) → IsTime seconds →
    (method : Method) (target : List ℕ) (used : Use) → IsUse path (λ time. time ≡ seconds) sizes reads method target used →
    IsUse path IsTime sizes reads method target used × IsAskedAt used seconds
fits_at path seconds sizes reads time method target (Asked at answer) (routed, asked, is) =
    ((routed, asked, subst IsTime (sym is) time), is)
fits_at path seconds sizes reads time method target (Paged other by page) fits = (fits, tt)
fits_at path seconds sizes reads time method target Misused fits = (fits, tt)
fits_at path seconds sizes reads time method target Barred fits = (fits, tt)
fits_at path seconds sizes reads time method target (Unknown name) fits = (fits, tt)
fits_at path seconds sizes reads time method target (Untaken name declared) fits = (fits, tt)
fits_at path seconds sizes reads time method target (Fetched name declared fetch) fits = (fits, tt)

-- one message, after which the session goes on; or none
abbrev pub IsOnce : List Exchange → Stop → Type 0
IsOnce [] stop = ⊤
IsOnce (e ∷ []) stop = stop ≡ More
IsOnce (e ∷ other ∷ exchanges) stop = ⊥

pub none_once : (exchanges : List Exchange) (stop : Stop) → length exchanges ≡ 0 → IsOnce exchanges stop
none_once [] stop none = tt
none_once (e ∷ exchanges) stop none = absurd (omega (arith, none))

pub one_once : (exchanges : List Exchange) (stop : Stop) → length exchanges ≡ 1 → stop ≡ More → IsOnce exchanges stop
one_once [] stop one more = tt
one_once (e ∷ []) stop one more = more
one_once (e ∷ other ∷ exchanges) stop one more = absurd (omega (arith, one))

module _
    (IsNow : Method → List ℕ → Use → Type 0) (kind : List ℕ) (seconds : ℕ)
    (now : (method : Method) (target : List ℕ) (used : Use) → IsNow method target used → IsAskedAt used seconds)
    (timestamps : List Timestamp) (waiting received sent : List ℕ)
  where
    -- a message that waits whole, of whose reply nothing was sent
    HasStart-now :
        (start gone : ℕ) (message more : List ℕ) (Asks : ℕ → Type 0) → Asks seconds → waiting ≡ message ++ more →
        length received ≡ start + length waiting → length sent ≡ gone →
        HasStart (later timestamps seconds (Some waiting) received sent) start gone message Asks
    HasStart-now start gone message more Asks asked cut came all_sent = record {
      earlier = timestamps;
      timestamp = timestamp_of seconds (Some waiting) received sent;
      after = [];
      among = refl;
      is_start = record {
        more = more;
        waited = ap Some cut;
        came = came ∙ ap (λ (l : List ℕ). start + length l) cut;
        sent = all_sent;
        asked = asked;
      };
    }

    pub AreTimed-now :
        (exchanges : List Exchange) (stop : Stop) (left : List ℕ) (start gone : ℕ) → IsOnce exchanges stop →
        AllByRecursion (IsOpen IsNow) exchanges → waiting ≡ flat_map exchange_bytes exchanges ++ left →
        length received ≡ start + length waiting → length sent ≡ gone →
        AreTimed kind (later timestamps seconds (Some waiting) received sent) start gone exchanges
    AreTimed-now [] stop left start gone once each cut came all_sent = tt
    AreTimed-now (e ∷ []) stop left start gone once (stays, each) cut came all_sent = (
      HasStart-now start gone (exchange_bytes e) left (IsAskedAt e.used) (now _ _ e.used stays.exchange.fits)
          (cut ∙ ap (λ (l : List ℕ). l ++ left) (append-nil (exchange_bytes e))) came all_sent,
      tt,
    )
    AreTimed-now (e ∷ other ∷ exchanges) stop left start gone once each cut came all_sent = absurd once

    last_now :
        (stop : Stop) (rest left : List ℕ) (start gone : ℕ) → StopsAt IsNow stop rest → waiting ≡ rest ++ left →
        length received ≡ start + length waiting → length sent ≡ gone →
        IsLastTimed (later timestamps seconds (Some waiting) received sent) start gone stop
    last_now More rest left start gone stops cut came all_sent = tt
    last_now Waits rest left start gone stops cut came all_sent = tt
    last_now Bad rest left start gone stops cut came all_sent = HasStart-now start gone [] waiting IsAnyTime tt refl came all_sent
    last_now Long rest left start gone stops cut came all_sent = HasStart-now start gone [] waiting IsAnyTime tt refl came all_sent
    last_now (Refuses head status) rest left start gone stops cut came all_sent =
        HasStart-now start gone [] waiting IsAnyTime tt refl came all_sent
    last_now (Last e) rest left start gone (after, ends, exchange) cut came all_sent =
        HasStart-now start gone (exchange_bytes e) (after ++ left) (IsAskedAt e.used) (now _ _ e.used exchange.fits)
        (cut ∙ ap (λ (l : List ℕ). l ++ left) ends ∙ append_assoc (exchange_bytes e) after left) came all_sent

    pub IsLastTimed-now :
        (exchanges : List Exchange) (stop : Stop) (rest left : List ℕ) (start gone : ℕ) → IsOnce exchanges stop →
        StopsAt IsNow stop rest → waiting ≡ flat_map exchange_bytes exchanges ++ (rest ++ left) →
        length received ≡ start + length waiting → length sent ≡ gone →
        IsLastTimed (later timestamps seconds (Some waiting) received sent) (start + length (flat_map exchange_bytes exchanges))
        (gone + length (flat_map (open_reply kind) exchanges)) stop
    IsLastTimed-now [] stop rest left start gone once stops cut came all_sent =
        let same_start : start ≡ start + 0 = omega arith in
        let same_gone : gone ≡ gone + 0 = omega arith in
        subst (λ (n : ℕ). IsLastTimed (later timestamps seconds (Some waiting) received sent) n (gone + 0) stop) same_start
        (subst (λ (n : ℕ). IsLastTimed (later timestamps seconds (Some waiting) received sent) start n stop) same_gone
        (last_now stop rest left start gone stops cut came all_sent))
    IsLastTimed-now (e ∷ []) stop rest left start gone once stops cut came all_sent =
        subst (λ (s : Stop). IsLastTimed (later timestamps seconds (Some waiting) received sent)
        (start + length (flat_map exchange_bytes (e ∷ []))) (gone + length (flat_map (open_reply kind) (e ∷ []))) s) (sym once) tt
    IsLastTimed-now (e ∷ other ∷ exchanges) stop rest left start gone once stops cut came all_sent = absurd once
