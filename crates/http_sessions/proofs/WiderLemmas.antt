-- A part of a session in which no block is sent is one of any uses that fit.
use Rattle.std.proofs.Common.{◌≡◌, ◌<◌, ℕ, Bool, true, false, List, [], ◌∷◌, append-nil, inl, inr, refl, sym, subst, ap, ◌∙◌, ◌⊎◌, arith}
use Rattle.std.specs.List.{AllByRecursion}
use Rattle.http_desks.specs.declared.method.Method.{Method}
use Rattle.http_desks.specs.Calls.{Call}
use Rattle.http_desks.specs.Uses.{Use}
use Rattle.http_sessions.specs.Messages.{Exchange, IsExchange, IsOpen}
use Rattle.http_sessions.specs.Readings.{IsPart}
use Rattle.http_sessions.specs.Stops.{Bad, Last, Long, More, Refuses, Stop, StopsAt, Waits}
use Rattle.http_sessions.specs.Leaves.{AtOnce, EndsAnyhow, GivesUp, IsApplied, Leaves, Makes, MakesAtOnce}
use Rattle.http_sessions.specs.Talks.{is_lost, pending}
use Rattle.http_sessions.specs.declared.talks.outcome.After.{After}
use Rattle.http_sessions.specs.declared.talks.outcome.After.TheVariants as after
use Rattle.http_sessions.specs.declared.talks.talk.Talk.{Talk}

-- uses that fit, of which each fits otherwise, too
module _
    (IsNow IsFit : Method → List ℕ → Use → Type 0)
    (wider : (method : Method) (target : List ℕ) (used : Use) → IsNow method target used → IsFit method target used)
  where
    exchange_wider : (e : Exchange) → IsExchange IsNow e → IsExchange IsFit e
    exchange_wider e is =
        record { head = is.head; short = is.short; framed = is.framed; fits = wider _ _ e.used is.fits }

    pub all_wider : (exchanges : List Exchange) → AllByRecursion (IsOpen IsNow) exchanges → AllByRecursion (IsOpen IsFit) exchanges
    all_wider [] all = tt
    all_wider (e ∷ exchanges) (here, all) =
        (record { exchange = exchange_wider e here.exchange; stays = here.stays; whole = here.whole }, all_wider exchanges all)

    pub stops_wider : (stop : Stop) (rest : List ℕ) → StopsAt IsNow stop rest → StopsAt IsFit stop rest
    stops_wider More rest stops = tt
    stops_wider Waits rest stops = stops
    stops_wider Bad rest stops = stops
    stops_wider Long rest stops = stops
    stops_wider (Refuses head status) rest stops = stops
    stops_wider (Last e) rest (others, cut, exchange) = (others, cut, exchange_wider e exchange)

module _ (IsFit : Method → List ℕ → Use → Type 0) where
  module _ {D : Type 0} (steps : D → Call → D → Type 0) (kind : List ℕ) (start : ℕ) (kept : List ℕ) (before behind : D) where
    -- the same part, whatever its end
    anyhow :
        (IsFits : Method → List ℕ → Use → Type 0) (IsEnd : ℕ → Stop → List ℕ → Type 0) (left made : List ℕ) →
        Makes IsFits steps kind start IsEnd true kept left made before behind →
        Makes IsFits steps kind start EndsAnyhow true kept left made before behind
    anyhow IsFits IsEnd left made part = record {
      given = part.given;
      exchanges = part.exchanges;
      stop = part.stop;
      rest = part.rest;
      consumed = part.consumed;
      cut = part.cut;
      each = part.each;
      few = part.few;
      stops = part.stops;
      written = part.written;
      calls = part.calls;
      ends = tt;
    }

    made_at_once :
        (old mid : Talk) (left : After) → Leaves (AtOnce IsFit) steps kind start kept before behind left →
        IsApplied old left mid → is_lost mid.stage ≡ false →
        (rest : List ℕ) × Makes (AtOnce IsFit) steps kind start EndsAnyhow true kept rest (pending mid) before behind
    made_at_once old mid (after.Open opened) (rest, part) (stage_is, begun_is, kept_is, waits) kept_on = (
      rest,
      subst (λ (made : List ℕ). Makes (AtOnce IsFit) steps kind start EndsAnyhow true kept rest made before behind) (sym waits)
          (anyhow (AtOnce IsFit) _ rest opened.made.items part),
    )
    made_at_once old mid (after.Sends started) part (stage_is, begun_is, kept_is, waits) kept_on = (
      started.kept.items,
      subst (λ (made : List ℕ). Makes (AtOnce IsFit) steps kind start EndsAnyhow true kept started.kept.items made before behind) (sym waits)
          (anyhow (AtOnce IsFit) _ started.kept.items started.made.items part),
    )
    made_at_once old mid (after.Over made) (rest, part) (stage_is, waits) kept_on = (
      rest,
      subst (λ (made : List ℕ). Makes (AtOnce IsFit) steps kind start EndsAnyhow true kept rest made before behind) (sym waits)
          (anyhow (AtOnce IsFit) _ rest made.items part),
    )
    made_at_once old mid (after.Failed bytes) part (stage_is, waits) kept_on =
        let lost : ◌≡◌ {A = Bool} true false = sym (ap is_lost stage_is) ∙ kept_on in cc
    made_at_once old mid after.Lost part (stage_is, waits) kept_on =
        let lost : ◌≡◌ {A = Bool} true false = sym (ap is_lost stage_is) ∙ kept_on in cc

  -- a step that applied what was left, and perhaps gave the connection up then
  pub steps_at_once :
      {D : Type 0} (steps : D → Call → D → Type 0) (kind : List ℕ) (old mid new : Talk) (before behind : D) (left : After) →
      Leaves (AtOnce IsFit) steps kind old.begun old.kept.items before behind left → IsApplied old left mid →
      (new ≡ mid) ⊎ GivesUp mid new →
      MakesAtOnce IsFit steps kind old before new behind
  steps_at_once steps kind old mid new before behind left leaves applied (inl same) = λ busy kept_on.
      let (rest, part) =
      made_at_once steps kind old.begun old.kept.items before behind old mid left leaves applied
      (ap (λ (talk : Talk). is_lost talk.stage) (sym same) ∙ kept_on) in (
        rest,
        subst (λ (made : List ℕ). Makes (AtOnce IsFit) steps kind old.begun EndsAnyhow true old.kept.items rest made before behind)
            (ap pending (sym same)) part,
      )
  steps_at_once steps kind old mid new before behind left leaves applied (inr gives_up) = λ busy kept_on.
      let lost : ◌≡◌ {A = Bool} true false = sym (ap is_lost gives_up.lost) ∙ kept_on in cc

  -- what is kept is less than a message
  pub part_at_once :
      {D : Type 0} (steps : D → Call → D → Type 0) (kind : List ℕ) (start : ℕ) (few : start < 1000) (kept made : List ℕ) (desk : D) →
      IsPart kept → made ≡ [] →
      (left : List ℕ) × Makes (AtOnce IsFit) steps kind start EndsAnyhow true kept left made desk desk
  part_at_once steps kind start few kept made desk part none = (
    [],
    record {
      given = kept;
      exchanges = [];
      stop = Waits;
      rest = kept;
      consumed = sym (append-nil kept);
      cut = refl;
      each = tt;
      few = omega (arith, few);
      stops = part;
      written = none;
      calls = refl;
      ends = tt;
    },
  )
