-- Parts of a session, each after the one before.
use Rattle.std.proofs.Common.{◌≡◌, ℕ, ◌+◌, ◌<◌, Bool, true, false, ◌==◌, List, [], ◌∷◌, ◌++◌, append-nil, append_assoc, length, length-append, Option, None, Some, refl, sym, subst, ap, ◌∙◌, arith}
use Rattle.std.proofs.lemmas.Grind.{flat_map-append}
use Rattle.std.specs.Prelude.{flat_map}
use Rattle.std.specs.List.{AllByRecursion}
use Rattle.std.specs.Io.KnownBytes.{Appends, Consumes}
use Rattle.http_wire.proofs.KnownLemmas.{Appends-then, Consumes-then}
use Rattle.http_desks.specs.declared.method.Method.{Method}
use Rattle.http_desks.specs.Calls.{Call, Leads}
use Rattle.http_desks.specs.Uses.{Use}
use Rattle.http_sessions.specs.Messages.{Exchange, IsOpen, exchange_bytes, exchange_calls, open_reply}
use Rattle.http_sessions.specs.Stops.{More, Stop, StopsAt, stop_bytes, stop_calls}
use Rattle.http_sessions.specs.Sessions.{Serves, Writes}

pub Leads-append :
    {D : Type 0} (steps : D → Call → D → Type 0) (before between after : D) (first second : List Call) →
    Leads steps before first between →
    Leads steps between second after →
    Leads steps before (first ++ second) after
Leads-append steps before between after [] second one two = subst (λ d. Leads steps d second after) one two
Leads-append steps before between after (call ∷ first) second (next, here, one) two =
    (next, here, Leads-append steps next between after first second one two)

AllByRecursion-append :
    {A : Type 0} (Holds : A → Type 0) (first second : List A) →
    AllByRecursion Holds first →
    AllByRecursion Holds second →
    AllByRecursion Holds (first ++ second)
AllByRecursion-append Holds [] second one two = two
AllByRecursion-append Holds (a ∷ first) second (here, one) two = (here, AllByRecursion-append Holds first second one two)

Writes-behind :
    (whole : Bool) (old between new : Option (List ℕ)) (first before text : List ℕ) →
    Appends old between first →
    Writes whole between new before text →
    Writes whole old new (first ++ before) text
Writes-behind true old between new first before text one two =
    subst (Appends old new) (sym (append_assoc first before text)) (Appends-then old between new first (before ++ text) one two)
Writes-behind false old between new first before text one (sent, left, cut, some, two) = (
  sent,
  left,
  cut,
  some,
  subst (Appends old new) (sym (append_assoc first before sent)) (Appends-then old between new first (before ++ sent) one two),
)

pub Appends-nothing : (held : Option (List ℕ)) → Appends held held []
Appends-nothing None = tt
Appends-nothing (Some bytes) = sym (append-nil bytes)

module _ {D : Type 0} (IsFit : Method → List ℕ → Use → Type 0) (steps : D → Call → D → Type 0) (kind : List ℕ) where
  -- no message kept the connection open
  pub stopped :
      (start : ℕ) (IsEnd : ℕ → Stop → List ℕ → Type 0) (whole : Bool) (first given : List ℕ)
      (left after old new : Option (List ℕ)) (before behind : D) (stop : Stop) →
      Consumes left after given →
      start < 1000 →
      StopsAt IsFit stop (first ++ given) →
      Writes whole old new [] (stop_bytes kind (start == 999) stop) →
      Leads steps before (stop_calls stop) behind →
      IsEnd 0 stop (first ++ given) →
      Serves IsFit steps kind start IsEnd whole first left after old new before behind
  stopped start IsEnd whole first given left after old new before behind stop consumed few stops written calls ends =
      let none : start ≡ start + length {A = Exchange} [] = omega arith in record {
        given = given;
        exchanges = [];
        stop = stop;
        rest = first ++ given;
        consumed = consumed;
        cut = refl;
        each = tt;
        few = omega arith;
        stops = stops;
        written = subst (λ (n : ℕ). Writes whole old new [] (stop_bytes kind (n == 999) stop)) none written;
        calls = calls;
        ends = ends;
      }

  -- a message that kept the connection open
  pub opened :
      (start : ℕ) (IsEnd : ℕ → Stop → List ℕ → Type 0) (first given rest : List ℕ)
      (left after old new : Option (List ℕ)) (before behind : D) (e : Exchange) →
      Consumes left after given →
      first ++ given ≡ exchange_bytes e ++ rest →
      IsOpen IsFit e →
      start + 1 < 1000 →
      Appends old new (open_reply kind e) →
      Leads steps before (exchange_calls e) behind →
      IsEnd 1 More rest →
      Serves IsFit steps kind start IsEnd true first left after old new before behind
  opened start IsEnd first given rest left after old new before behind e consumed cut stays few written calls ends = record {
    given = given;
    exchanges = e ∷ [];
    stop = More;
    rest = rest;
    consumed = consumed;
    cut = cut ∙ ap (λ (m : List ℕ). m ++ rest) (sym (append-nil (exchange_bytes e)));
    each = (stays, tt);
    few = few;
    stops = tt;
    written = subst (Appends old new) (sym (append-nil (open_reply kind e ++ []) ∙ append-nil (open_reply kind e))) written;
    calls = subst (λ (made : List Call). Leads steps before made behind)
        (sym (append-nil (exchange_calls e ++ []) ∙ append-nil (exchange_calls e))) calls;
    ends = ends;
  }

  -- two parts, the second after the first
  pub joined :
      (start : ℕ) (IsFirst IsNext IsEnd : ℕ → Stop → List ℕ → Type 0) (whole : Bool) (first : List ℕ)
      (left mid after old between new : Option (List ℕ)) (before amid behind : D) →
      (one : Serves IsFit steps kind start IsFirst true first left mid old between before amid) →
      one.stop ≡ More →
      (two : Serves IsFit steps kind (start + length one.exchanges) IsNext whole one.rest mid after between new amid behind) →
      IsEnd (length one.exchanges + length two.exchanges) two.stop two.rest →
      Serves IsFit steps kind start IsEnd whole first left after old new before behind
  joined start IsFirst IsNext IsEnd whole first left mid after old between new before amid behind one more two ends =
      let all = length-append one.exchanges two.exchanges in
      let count : start + length one.exchanges + length two.exchanges ≡ start + length (one.exchanges ++ two.exchanges) =
      omega (arith, all) in
      let wrote : Appends old between (flat_map (open_reply kind) one.exchanges) =
      subst (Appends old between) (ap (λ (s : Stop). flat_map (open_reply kind) one.exchanges ++ stop_bytes kind (start + length one.exchanges == 999) s) more ∙ append-nil (flat_map (open_reply kind) one.exchanges)) one.written in
      let asked : Leads steps before (flat_map exchange_calls one.exchanges) amid =
      subst (λ (made : List Call). Leads steps before made amid) (ap (λ (s : Stop). flat_map exchange_calls one.exchanges ++ stop_calls s) more ∙ append-nil (flat_map exchange_calls one.exchanges)) one.calls in
      record {
        given = one.given ++ two.given;
        exchanges = one.exchanges ++ two.exchanges;
        stop = two.stop;
        rest = two.rest;
        consumed = Consumes-then left mid after one.given two.given one.consumed two.consumed;
        cut = sym (append_assoc first one.given two.given)
            ∙ ap (λ (front : List ℕ). front ++ two.given) one.cut
            ∙ append_assoc (flat_map exchange_bytes one.exchanges) one.rest two.given
            ∙ ap (λ (back : List ℕ). flat_map exchange_bytes one.exchanges ++ back) two.cut
            ∙ sym (append_assoc (flat_map exchange_bytes one.exchanges) (flat_map exchange_bytes two.exchanges) two.rest)
            ∙ ap (λ (front : List ℕ). front ++ two.rest) (sym (flat_map-append exchange_bytes one.exchanges two.exchanges));
        each = AllByRecursion-append (IsOpen IsFit) one.exchanges two.exchanges one.each two.each;
        few = omega (arith, count, two.few);
        stops = two.stops;
        written = subst (λ (n : ℕ). Writes whole old new (flat_map (open_reply kind) (one.exchanges ++ two.exchanges)) (stop_bytes kind (n == 999) two.stop)) count
            (subst (λ (text : List ℕ). Writes whole old new text (stop_bytes kind (start + length one.exchanges + length two.exchanges == 999) two.stop)) (sym (flat_map-append (open_reply kind) one.exchanges two.exchanges))
            (Writes-behind whole old between new (flat_map (open_reply kind) one.exchanges) (flat_map (open_reply kind) two.exchanges)
            (stop_bytes kind (start + length one.exchanges + length two.exchanges == 999) two.stop) wrote two.written));
        calls = subst (λ (made : List Call). Leads steps before made behind)
            (sym (append_assoc (flat_map exchange_calls one.exchanges) (flat_map exchange_calls two.exchanges) (stop_calls two.stop))
            ∙ ap (λ (made : List Call). made ++ stop_calls two.stop) (sym (flat_map-append exchange_calls one.exchanges two.exchanges)))
            (Leads-append steps before amid behind (flat_map exchange_calls one.exchanges) (flat_map exchange_calls two.exchanges ++ stop_calls two.stop) asked two.calls);
        ends = subst (λ (n : ℕ). IsEnd n two.stop two.rest) (sym all) ends;
      }
