-- A session, turn by turn.
use Rattle.std.proofs.Common.{◌≡◌, ℕ, ◌+◌, ◌<◌, Bool, true, false, ◌==◌, List, [], append-nil, length, Option, Ok, Err, refl, sym, subst, arith}
use Rattle.http_desks.specs.Downloads.{Reads}
use Rattle.http_desks.specs.declared.method.Method.{Method}
use Rattle.http_desks.specs.Calls.{Call}
use Rattle.http_desks.specs.Uses.{IsUse, Use}
use Rattle.http_sessions.specs.declared.ends.Fault.{Fault}
use Rattle.http_sessions.specs.declared.ends.Fault.TheVariants as fault
use Rattle.http_sessions.specs.declared.ends.Served.{Served}
use Rattle.http_sessions.specs.declared.session.Session.{Session}
use Rattle.http_sessions.specs.declared.session.Turn.{Turn}
use Rattle.http_sessions.specs.declared.session.Turn.TheVariants.{Open, Ended}
use Rattle.http_sessions.specs.Stops.{Ends, More, Stop, begun}
use Rattle.http_sessions.specs.Laws.{AreJoined, Comes}
use Rattle.http_sessions.specs.Sessions.{Serves, SessionEnds, TurnEnds, replies, waiting, wrote}
use Rattle.http_sessions.proofs.ReadingLemmas.{Consumes-nothing}
use Rattle.http_sessions.proofs.SessionLemmas.{Appends-nothing, joined, stopped}

-- the session is still open, and these bytes wait
abbrev pub GoesOnWith : ℕ → List ℕ → ℕ → ℕ → Stop → List ℕ → Type 0
GoesOnWith start waits here count stop rest = (stop ≡ More) × (waits ≡ rest) × (here ≡ start + count)

-- the same of a desk whose path and type stayed as they were
pub at_desk :
    {D : Type 0} (tells : ℕ → Type 0) (sizes : List ℕ → Option ℕ → Type 0) (reads : List ℕ → Reads)
    (steps : D → Call → D → Type 0) (path place kind type : List ℕ) (start : ℕ) (IsEnd : ℕ → Stop → List ℕ → Type 0)
    (whole : Bool) (first : List ℕ) (left after old new : Option (List ℕ)) (before behind : D) →
    path ≡ place →
    kind ≡ type →
    Serves (IsUse path tells sizes reads) steps kind start IsEnd whole first left after old new before behind →
    Serves (IsUse place tells sizes reads) steps type start IsEnd whole first left after old new before behind
at_desk tells sizes reads steps path place kind type start IsEnd whole first left after old new before behind paths types serves =
    subst (λ (p : List ℕ). Serves (IsUse p tells sizes reads) steps type start IsEnd whole first left after old new before behind) paths
    (subst (λ (t : List ℕ). Serves (IsUse path tells sizes reads) steps t start IsEnd whole first left after old new before behind) types serves)

turn_goes_on :
    (after : Option (List ℕ)) (start here count more : ℕ) (next : Session) (stop : Stop) (rest : List ℕ) →
    here ≡ start + count →
    TurnEnds after here (Ok (Open next)) more stop rest →
    GoesOnWith start (waiting next) (replies next) (count + more) stop rest
turn_goes_on after start here count more next stop rest so_far (one, stops, waits, begun_now) =
    (stops, waits, omega (arith, so_far, one, begun_now))

turn_ends :
    (after : Option (List ℕ)) (start here count more : ℕ) (served : Served) (stop : Stop) (rest : List ℕ) →
    here ≡ start + count →
    TurnEnds after here (Ok (Ended served)) more stop rest →
    SessionEnds after start (Ok served) (count + more) stop rest
turn_ends after start here count more served stop rest so_far (none, requests, ends) =
    let same : here ≡ start + (count + more) = omega (arith, so_far, none) in
    let total : served.requests ≡ start + (count + more) + begun stop = omega (arith, same, requests) in
    (total, subst (λ (n : ℕ). Ends (n == 999) after stop rest served.end) same ends)

module _ {D : Type 0} (IsFit : Method → List ℕ → Use → Type 0) (steps : D → Call → D → Type 0) (kind : List ℕ) where
  -- before the first turn
  pub begins :
      (start : ℕ) (first : List ℕ) (left old : Option (List ℕ)) (desk : D) →
      start < 1000 →
      Serves IsFit steps kind start (GoesOnWith start first start) true first left left old old desk desk
  begins start first left old desk few =
      let none : start ≡ start + 0 = omega arith in
      stopped IsFit steps kind start (GoesOnWith start first start) true first [] left left old old desk desk More
      (Consumes-nothing left) few tt (Appends-nothing old) refl (refl, sym (append-nil first), none)

  -- the turns so far, and one more
  continued :
      (start here : ℕ) (IsNext IsEnd : ℕ → Stop → List ℕ → Type 0) (whole : Bool) (first waits : List ℕ)
      (left mid after old between new : Option (List ℕ)) (before amid behind : D) →
      Serves IsFit steps kind start (GoesOnWith start waits here) true first left mid old between before amid →
      Serves IsFit steps kind here IsNext whole waits mid after between new amid behind →
      ((count more : ℕ) (stop : Stop) (rest : List ℕ) → here ≡ start + count → IsNext more stop rest → IsEnd (count + more) stop rest) →
      Serves IsFit steps kind start IsEnd whole first left after old new before behind
  continued start here IsNext IsEnd whole first waits left mid after old between new before amid behind one two ends =
      let (more, rests, so_far) = one.ends in
      let moved = subst (λ (h : ℕ). Serves IsFit steps kind h IsNext whole waits mid after between new amid behind) so_far two in
      let next = subst (λ (w : List ℕ). Serves IsFit steps kind (start + length one.exchanges) IsNext whole w mid after between new amid behind) rests moved in
      joined IsFit steps kind start (GoesOnWith start waits here) IsNext IsEnd whole first left mid after old between new before amid behind
      one more next (ends (length one.exchanges) (length next.exchanges) next.stop next.rest so_far next.ends)

  pub goes_on :
      (start here : ℕ) (next : Session) (first waits : List ℕ)
      (left mid after old between new : Option (List ℕ)) (before amid behind : D) →
      Serves IsFit steps kind start (GoesOnWith start waits here) true first left mid old between before amid →
      Serves IsFit steps kind here (TurnEnds after here (Ok (Open next))) true waits mid after between new amid behind →
      Serves IsFit steps kind start (GoesOnWith start (waiting next) (replies next)) true first left after old new before behind
  goes_on start here next first waits left mid after old between new before amid behind one two =
      continued start here (TurnEnds after here (Ok (Open next))) (GoesOnWith start (waiting next) (replies next)) true first waits
      left mid after old between new before amid behind one two
      (λ count more stop rest so_far ends. turn_goes_on after start here count more next stop rest so_far ends)

  pub ends :
      (start here : ℕ) (served : Served) (first waits : List ℕ)
      (left mid after old between new : Option (List ℕ)) (before amid behind : D) →
      Serves IsFit steps kind start (GoesOnWith start waits here) true first left mid old between before amid →
      Serves IsFit steps kind here (TurnEnds after here (Ok (Ended served))) true waits mid after between new amid behind →
      Serves IsFit steps kind start (SessionEnds after start (Ok served)) true first left after old new before behind
  ends start here served first waits left mid after old between new before amid behind one two =
      continued start here (TurnEnds after here (Ok (Ended served))) (SessionEnds after start (Ok served)) true first waits
      left mid after old between new before amid behind one two
      (λ count more stop rest so_far ends. turn_ends after start here count more served stop rest so_far ends)

  pub faults :
      (start here : ℕ) (why : Fault) (first waits : List ℕ)
      (left mid after old between new : Option (List ℕ)) (before amid behind : D) →
      Serves IsFit steps kind start (GoesOnWith start waits here) true first left mid old between before amid →
      Serves IsFit steps kind here (TurnEnds after here (Err why)) (wrote {A = Turn} (Err why)) waits mid after between new amid behind →
      Serves IsFit steps kind start (SessionEnds after start (Err why)) (wrote {A = Served} (Err why)) first left after old new before behind
  faults start here fault.Read first waits left mid after old between new before amid behind one two =
      continued start here (TurnEnds after here (Err fault.Read)) (SessionEnds after start (Err fault.Read)) true first waits
      left mid after old between new before amid behind one two (λ count more stop rest so_far ends. ends.1)
  faults start here fault.Write first waits left mid after old between new before amid behind one two =
      continued start here (TurnEnds after here (Err fault.Write)) (SessionEnds after start (Err fault.Write)) false first waits
      left mid after old between new before amid behind one two (λ count more stop rest so_far ends. tt)
  faults start here fault.Memory first waits left mid after old between new before amid behind one two = absurd two.ends

  -- nothing was read or written
  pub unserved :
      (left old : Option (List ℕ)) (desk : D) →
      Serves IsFit steps kind 0 (SessionEnds left 0 (Err fault.Memory)) true [] left left old old desk desk
  unserved left old desk =
      stopped IsFit steps kind 0 (SessionEnds left 0 (Err fault.Memory)) true [] [] left left old old desk desk More
      (Consumes-nothing left) (omega arith) tt (Appends-nothing old) refl (refl, refl)

  -- a part that goes on where the one before ended
  pub parts_joined : AreJoined IsFit steps kind
  parts_joined start count more first waits rest stop whole left mid after old between new before amid behind one two =
      let (so_far, open_still, waited) = one.ends in
      let same : start + count ≡ start + length one.exchanges = omega (arith, so_far) in
      let moved = subst (λ (h : ℕ). Serves IsFit steps kind h (Comes more stop rest) whole waits mid after between new amid behind) same two in
      let next = subst (λ (w : List ℕ). Serves IsFit steps kind (start + length one.exchanges) (Comes more stop rest) whole w mid after between new amid behind) (sym waited) moved in
      let (then, stops, left_over) = next.ends in
      let all : length one.exchanges + length next.exchanges ≡ count + more = omega (arith, so_far, then) in
      joined IsFit steps kind start (Comes count More waits) (Comes more stop rest) (Comes (count + more) stop rest) whole first
      left mid after old between new before amid behind one open_still next (all, stops, left_over)
