-- Two sessions over the same bytes.
use Rattle.std.proofs.Common.{◌≡◌, ℕ, ◌+◌, ◌-◌, ◌<◌, ◌≤◌, ◌⊎◌, Bool, true, false, ◌==◌, List, [], ◌∷◌, ◌++◌, append_assoc, length, length-take, take, Option, None, Some, inl, inr, refl, sym, subst, ap, ◌∙◌, arith, leb}
use Rattle.std.proofs.lemmas.Bool.{leb-false, leb-true}
use Rattle.std.proofs.lemmas.List.{append-nil, take-append-le, take_all}
use Rattle.std.proofs.Math.Seq.{take-append-add}
use Rattle.std.specs.Prelude.{flat_map}
use Rattle.std.specs.List.{AllByRecursion}
use Rattle.std.specs.Io.KnownBytes.{Appends}
use Rattle.httparse.specs.Grammar.{EndsInTarget, NeverHasRequest}
use Rattle.httparse.proofs.GrammarLemmas.{ReadsRequest-append}
use Rattle.http_wire.specs.Heads.{IsLongHead}
use Rattle.http_desks.specs.declared.answering.Handled.{Handled}
use Rattle.http_desks.specs.declared.answering.Handled.TheVariants as handled
use Rattle.http_desks.specs.declared.method.Method.{Method}
use Rattle.http_desks.specs.Calls.{Call}
use Rattle.http_desks.specs.Replies.{handled_of}
use Rattle.http_desks.specs.Uses.{Use}
use Rattle.http_sessions.specs.declared.ends.End.{End}
use Rattle.http_sessions.specs.Messages.{Exchange, IsExchange, IsOpen, closing, exchange_bytes}
use Rattle.http_sessions.specs.Stops.{Bad, Ends, Last, Long, More, Refuses, Stop, StopsAt, Waits, end_after}
use Rattle.http_sessions.specs.Sessions.{Serves}
use Rattle.http_sessions.specs.Laws.{AreAlike, AreUses, EndsWithin, IsAnyUse, IsCut, IsEnd, IsFinal, cut_bytes, last_of}
use Rattle.http_sessions.proofs.CutLemmas.{one_cut}

any_exchange : (IsFit : Method → List ℕ → Use → Type 0) (e : Exchange) → IsExchange IsFit e → IsExchange IsAnyUse e
any_exchange IsFit e exchange = record {
  head = exchange.head;
  short = exchange.short;
  framed = exchange.framed;
  fits = tt;
}

any_open :
    (IsFit : Method → List ℕ → Use → Type 0) (exchanges : List Exchange) →
    AllByRecursion (IsOpen IsFit) exchanges →
    AllByRecursion (IsOpen IsAnyUse) exchanges
any_open IsFit [] all = tt
any_open IsFit (e ∷ exchanges) (here, rest) = (
  record { exchange = any_exchange IsFit e here.exchange; stays = here.stays; whole = here.whole },
  any_open IsFit exchanges rest,
)

-- what can't become a head can't, whatever follows
never_more : (bytes more : List ℕ) → NeverHasRequest bytes → NeverHasRequest (bytes ++ more)
never_more bytes more never = λ then head rest reads.
    never (more ++ then) head rest (reads.0, sym (append_assoc bytes more then) ∙ reads.1)

-- the first bytes of a longer stream
take_longer : (rest more : List ℕ) → 16384 ≤ length rest → take 16384 rest ≡ take 16384 (rest ++ more)
take_longer rest more long = sym (take-append-le 16384 rest more long)

take_shorter :
    (rest more : List ℕ) →
    length rest ≤ 16384 →
    take 16384 rest ++ take (16384 - length rest) more ≡ take 16384 (rest ++ more)
take_shorter rest more short =
    let room : length rest + (16384 - length rest) ≡ 16384 = omega (arith, short) in
    ap (λ (front : List ℕ). front ++ take (16384 - length rest) more) (take_all 16384 rest short)
    ∙ sym (take-append-add rest more (16384 - length rest))
    ∙ ap (λ (n : ℕ). take n (rest ++ more)) room

never_longer :
    (rest more : List ℕ) →
    (length rest ≤ 16384) ⊎ (16384 < length rest) →
    NeverHasRequest (take 16384 rest) →
    NeverHasRequest (take 16384 (rest ++ more))
never_longer rest more (inl short) never =
    subst NeverHasRequest (take_shorter rest more short) (never_more (take 16384 rest) (take (16384 - length rest) more) never)
never_longer rest more (inr long) never =
    subst NeverHasRequest (take_longer rest more (omega (arith, long))) never

short_by : (b : Bool) (n : ℕ) → leb n 16384 ≡ b → (n ≤ 16384) ⊎ (16384 < n)
short_by true n e = inl (leb-true n 16384 e)
short_by false n e = inr (leb-false n 16384 e)

-- a stop is the same in the stream that goes on
stops_longer :
    (IsFit : Method → List ℕ → Use → Type 0) (last : Bool) (rest more : List ℕ) (how : End) (stop : Stop) →
    StopsAt IsFit stop rest →
    Ends last (Some more) stop rest how →
    StopsAt IsAnyUse stop (rest ++ more)
stops_longer IsFit last rest more how More stops ends = tt
stops_longer IsFit last rest more how Waits stops ends =
    subst (StopsAt IsAnyUse Waits) (sym (ap (λ (m : List ℕ). rest ++ m) ends.0 ∙ append-nil rest)) stops
stops_longer IsFit last rest more how Bad never ends = never_longer rest more (short_by (leb (length rest) 16384) (length rest) refl) never
stops_longer IsFit last rest more how Long long ends =
    let full : 16384 ≤ length rest = omega (arith, long.full, length-take 16384 rest) in
    subst IsLongHead (take_longer rest more full) long
stops_longer IsFit last rest more how (Refuses head why) (after, (reads, short), framed) ends =
    (after ++ more, (ReadsRequest-append rest head after more reads, short), framed)
stops_longer IsFit last rest more how (Last e) (after, cut, exchange) ends = (
  after ++ more,
  ap (λ (front : List ℕ). front ++ more) cut ∙ append_assoc (exchange_bytes e) after more,
  any_exchange IsFit e exchange,
)

goes_no_further :
    (closes : Bool) (outcome : Option Handled) (how : End) →
    end_after closes outcome ≡ Some how →
    closes ≡ false →
    outcome ≡ Some handled.Answered →
    ⊥
goes_no_further closes outcome how ends stays whole =
    let none : None ≡ Some how = sym (ap (λ (b : Bool). end_after b (Some handled.Answered)) stays) ∙ sym (ap (end_after closes) whole) ∙ ends in cc

final_of :
    (last : Bool) (left : Option (List ℕ)) (rest : List ℕ) (how : End) (stop : Stop) →
    Ends last left stop rest how →
    IsFinal last stop
final_of last left rest how More ends = ends
final_of last left rest how Waits ends = tt
final_of last left rest how Bad ends = tt
final_of last left rest how Long ends = tt
final_of last left rest how (Refuses head why) ends = tt
final_of last left rest how (Last e) ends =
    goes_no_further (closing last e.head) (handled_of e.used) how ends

module _ {D : Type 0} (IsFit : Method → List ℕ → Use → Type 0) (steps : D → Call → D → Type 0) (kind : List ℕ) where
  cut_of :
      (stream more : List ℕ) (uses : ℕ → Use) (start : ℕ) (how : End) (old new : Option (List ℕ)) (before behind : D) →
      (one : Serves IsFit steps kind start (IsEnd (Some more) start how) true [] (Some stream) (Some more) old new before behind) →
      AreUses uses start (one.exchanges ++ last_of one.stop) →
      IsCut stream uses start one.exchanges one.stop (one.rest ++ more)
  cut_of stream more uses start how old new before behind one follows = record {
    cut = one.consumed ∙ ap (λ (front : List ℕ). front ++ more) one.cut
        ∙ append_assoc (flat_map exchange_bytes one.exchanges) one.rest more;
    each = any_open IsFit one.exchanges one.each;
    few = one.few;
    stops = stops_longer IsFit (start + length one.exchanges == 999) one.rest more how one.stop one.stops one.ends;
    follows = follows;
    final = final_of (start + length one.exchanges == 999) (Some more) one.rest how one.stop one.ends;
  }

  same_new :
      (stream old first second rest : List ℕ) (exchanges : List Exchange) (new now : Option (List ℕ)) →
      stream ≡ flat_map exchange_bytes exchanges ++ rest →
      Appends (Some old) new first →
      Appends (Some old) now second →
      (first ≡ second) ⊎ EndsInTarget (take 16384 rest) →
      (new ≡ now) ⊎ EndsWithin stream exchanges
  same_new stream old first second rest exchanges None now cut one two same = absurd one
  same_new stream old first second rest exchanges (Some new) None cut one two same = absurd two
  same_new stream old first second rest exchanges (Some new) (Some now) cut one two (inr target) = inr (rest, cut, target)
  same_new stream old first second rest exchanges (Some new) (Some now) cut one two (inl same) =
      inl (ap Some (one ∙ ap (λ (t : List ℕ). old ++ t) same ∙ sym two))

  pub alike : AreAlike IsFit steps kind
  alike stream old uses start how ended None over new now before behind first last one two follows goes = absurd one.consumed
  alike stream old uses start how ended (Some more) None new now before behind first last one two follows goes = absurd two.consumed
  alike stream old uses start how ended (Some more) (Some over) new now before behind first last one two follows goes =
      let a = cut_of stream more uses start how (Some old) new before behind one follows in
      let b = cut_of stream over uses start ended (Some old) now first last two goes in
      let (messages, rests, bytes) = one_cut stream kind uses start one.exchanges two.exchanges one.stop two.stop
      (one.rest ++ more) (two.rest ++ over) a b in
      same_new stream old (cut_bytes kind start one.exchanges one.stop) (cut_bytes kind start two.exchanges two.stop) (one.rest ++ more)
      one.exchanges new now a.cut one.written two.written bytes
