-- All slots of a port, of which one changes.
use Rattle.std.proofs.Common.{◌≡◌, ◌≢◌, ◌<◌, ◌+◌, ◌∙◌, ◌++◌, ℕ, zero, suc, Bool, List, [], append-nil, append_assoc, length, Option, None, Some, refl, sym, subst, ap, inl, inr, arith}
use Rattle.std.specs.Prelude.{Ok, Err}
use Rattle.std.proofs.lemmas.Bool.Decides.{eqb_tells}
use Rattle.std.proofs.lemmas.List.Sums.{sum_by-cons}
use Rattle.http_desks.specs.Calls.{Call, Leads}
use Rattle.http_ports.specs.Loops.{Counts, HasServed, IsGoing, IsLeft, IsResting, IsServed, Works, all_rest, counts_of, rest_but}
use Rattle.http_ports.specs.Ports.{Closes, IsWaiting, Rests, expiring}
use Rattle.http_ports.specs.Rounds.{all_calls, calls_at, rounds_at}
use Rattle.http_ports.specs.Speech.{AreWhole, Speech, lost_among, one_if}
use Rattle.http_ports.specs.Steps.{ServesOut}
use Rattle.http_ports.specs.Sums.{connections_in, sum_below}
use Rattle.http_ports.specs.Traffic.{Changes, Elsewhere, IsOpen, Slot, Traffic, connections_of, marked, no_traffic, unused, with_ended, with_open}
use Rattle.http_ports.specs.declared.last.Last.TheVariants.{Reported}
use Rattle.http_ports.specs.declared.terms.Terms.{Terms}
use Rattle.http_ports.proofs.RoundLemmas.{Leads-append, all_calls-append, calls_at-elsewhere, calls_at-here}
use Rattle.http_ports.proofs.SlotLemmas.{IsGoing-reported, IsServed-ended, IsServed-resting, IsServed-same, IsWhole-expired, ends_with, ends_with-elsewhere, ends_with-here, has_connection, last_of_resting, no_calls}
use Rattle.http_ports.proofs.SumLemmas.{sum_below-grows, sum_below-same}

-- how many connections may be open at once
abbrev pub capacity_of : Terms → ℕ
capacity_of terms = terms.capacity

-- one slot changes, and has as many connections as before
connections_in-same :
    (capacity at : ℕ) (old new : ℕ → Slot) → Elsewhere at old new → connections_of (new at) ≡ connections_of (old at) →
    connections_in capacity new ≡ connections_in capacity old
connections_in-same capacity at old new elsewhere here =
    sum_below-same capacity (λ k. connections_of (old k)) (λ k. connections_of (new k))
    (λ k below. elim (eqb_tells k at) [
      | inl (is, same) ↦ subst (λ (j : ℕ). connections_of (new j) ≡ connections_of (old j)) (sym same) here
      | inr (is, other) ↦ ap connections_of (elsewhere k other)
    ])

connections_of-with_open :
    (slot : Slot) (traffic next : Traffic) → slot.current ≡ Some traffic → connections_of (with_open slot next) ≡ connections_of slot
connections_of-with_open slot traffic next live = grind (arith, live)

connections_of-with_ended :
    (slot : Slot) (traffic last : Traffic) → slot.current ≡ Some traffic → connections_of (with_ended slot last) ≡ connections_of slot
connections_of-with_ended slot traffic last live = grind (arith, live)

connections_of-resting :
    (slot after : Slot) (traffic next : Traffic) → slot.current ≡ Some traffic → after.current ≡ Some next → after.ended ≡ slot.ended →
    connections_of after ≡ connections_of slot
connections_of-resting slot after traffic next live open_on ended =
    let length_same = ap (λ (earlier : List Traffic). length earlier) ended in grind (arith, live, open_on, length_same)

connections_of-accepted :
    (slot : Slot) → slot.current ≡ None → connections_of (with_open slot no_traffic) ≡ connections_of slot + 1
connections_of-accepted slot free = grind (arith, free)

connections_of-closed : (slot : Slot) → slot.current ≡ None → connections_of slot ≡ length slot.ended
connections_of-closed slot free = grind (arith, free)

module _ {C D : Type 0} (speech : Speech C) (steps : D → Call → D → Type 0) (start : D) where
  -- the counts are the same numbers
  pub Works-counted :
      (IsBut : ℕ → IsLeft) (now : D) (slots : ℕ → Slot) (conns : ℕ → Option C)
      (capacity capacity_now accepted accepted_now lost lost_now : ℕ) →
      capacity_now ≡ capacity → accepted_now ≡ accepted → lost_now ≡ lost →
      Works speech IsBut steps start now slots conns (counts_of capacity accepted lost) →
      Works speech IsBut steps start now slots conns (counts_of capacity_now accepted_now lost_now)
  Works-counted IsBut now slots conns capacity capacity_now accepted accepted_now lost lost_now same_capacity same_accepted same_lost works =
      subst (λ (c : ℕ). Works speech IsBut steps start now slots conns (counts_of c accepted_now lost_now)) (sym same_capacity)
      (subst (λ (a : ℕ). Works speech IsBut steps start now slots conns (counts_of capacity a lost_now)) (sym same_accepted)
      (subst (λ (l : ℕ). Works speech IsBut steps start now slots conns (counts_of capacity accepted l)) (sym same_lost) works))

  pub Works-rests :
      (now : D) (slots : ℕ → Slot) (conns : ℕ → Option C) (counts : Counts) →
      Works speech all_rest steps start now slots conns counts → (k : ℕ) → Rests (slots k)
  Works-rests now slots conns counts works k traffic live =
      let served = works.each k in
      last_of_resting speech traffic (conns k) served.own
      (subst (λ (o : Option Traffic). IsGoing speech IsResting o (conns k) served.own) live served.going)

  pub Works-begun :
      (slots : ℕ → Slot) (conns : ℕ → Option C) (counts : Counts) →
      ((k : ℕ) → slots k ≡ unused) → ((k : ℕ) → conns k ≡ None) → counts.accepted ≡ 0 → counts.lost ≡ 0 →
      Works speech all_rest steps start start slots conns counts
  Works-begun slots conns counts fresh empty none none_lost = record {
    rounds = [];
    ends = λ k. [];
    leads = refl;
    each = λ k. record {
      before = [];
      own = [];
      all = refl;
      whole = subst (λ (s : Slot). AreWhole speech s.ended [] []) (sym (fresh k)) refl;
      going = subst (λ (s : Slot). IsGoing speech IsResting s.current (conns k) []) (sym (fresh k))
          (subst (λ (c : Option C). IsGoing speech IsResting None c []) (sym (empty k)) refl);
    };
    accepted = none ∙ sym (no_sum counts.capacity (λ k. connections_of (slots k)) (λ k. ap connections_of (fresh k)));
    lost = none_lost ∙ sym (no_sum counts.capacity (λ k. 0) (λ k. refl));
  }
    where
      no_sum : (capacity : ℕ) (number : ℕ → ℕ) → ((k : ℕ) → number k ≡ 0) → sum_below capacity number ≡ 0
      no_sum zero number none = refl
      no_sum (suc capacity) number none =
          let before = no_sum capacity number none in
          let last = none capacity in
          omega (arith, before, last)

  -- a connection was reported
  pub Works-reported :
      (at : ℕ) (now : D) (slots after : ℕ → Slot) (conns : ℕ → Option C) (counts : Counts) →
      Works speech all_rest steps start now slots conns counts → IsOpen (slots at) → Changes at (marked Reported) slots after →
      Works speech (rest_but at) steps start now after conns counts
  Works-reported at now slots after conns counts works (traffic, live) changes = record {
    rounds = works.rounds;
    ends = works.ends;
    leads = works.leads;
    each = λ k. elim (eqb_tells k at) [
      | inl (is, same) ↦ subst (λ (j : ℕ). IsServed speech (rest_but at j) (after j) (works.ends j) (conns j) (calls_at j works.rounds)) (sym same)
          (let served = works.each at in record {
            before = served.before;
            own = served.own;
            all = served.all;
            whole = subst (λ (s : Slot). AreWhole speech s.ended (works.ends at) served.before) (sym (changes.0 traffic live)) served.whole;
            going = subst (λ (s : Slot). IsGoing speech (rest_but at at) s.current (conns at) served.own) (sym (changes.0 traffic live))
                (IsGoing-reported speech at traffic (conns at) served.own
                (subst (λ (o : Option Traffic). IsGoing speech IsResting o (conns at) served.own) live served.going));
          })
      | inr (is, other) ↦ IsServed-same speech IsResting (rest_but at k) (slots k) (after k) (works.ends k) (works.ends k) (conns k) (conns k)
          (calls_at k works.rounds) (calls_at k works.rounds) (λ phase pending t rests differ. rests) (changes.1 k other) refl refl refl
          (works.each k)
    ];
    accepted = works.accepted ∙ sym (connections_in-same counts.capacity at slots after changes.1
        (ap connections_of (changes.0 traffic live) ∙ connections_of-with_open (slots at) traffic (marked Reported traffic) live));
    lost = works.lost;
  }

  -- a connection was accepted at a free slot
  pub Works-accepted :
      (at : ℕ) (now : D) (slots after : ℕ → Slot) (conns left : ℕ → Option C) (conn : C) (capacity accepted more lost : ℕ) →
      Works speech all_rest steps start now slots conns (counts_of capacity accepted lost) → at < capacity → more ≡ accepted + 1 →
      (slots at).current ≡ None → after at ≡ with_open (slots at) no_traffic → Elsewhere at slots after →
      left at ≡ Some conn → ((k : ℕ) → k ≢ at → left k ≡ conns k) → speech.so_far [] conn [] [] [] →
      Works speech (rest_but at) steps start now after left (counts_of capacity more lost)
  Works-accepted at now slots after conns left conn capacity accepted more lost works within one free opened elsewhere put others so_far = record {
    rounds = works.rounds;
    ends = works.ends;
    leads = works.leads;
    each = λ k. elim (eqb_tells k at) [
      | inl (is, same) ↦ subst (λ (j : ℕ). IsServed speech (rest_but at j) (after j) (works.ends j) (left j) (calls_at j works.rounds)) (sym same)
          (let served = works.each at in
          let none = no_calls speech IsResting (conns at) served.own
          (subst (λ (o : Option Traffic). IsGoing speech IsResting o (conns at) served.own) free served.going) in record {
            before = served.before;
            own = [];
            all = served.all ∙ ap (λ (own : List Call). served.before ++ own) none;
            whole = subst (λ (s : Slot). AreWhole speech s.ended (works.ends at) served.before) (sym opened) served.whole;
            going = subst (λ (s : Slot). IsGoing speech (rest_but at at) s.current (left at) []) (sym opened)
                (subst (λ (c : Option C). IsGoing speech (rest_but at at) (Some no_traffic) c []) (sym put) (so_far, λ differ. absurd (differ refl)));
          })
      | inr (is, other) ↦ IsServed-same speech IsResting (rest_but at k) (slots k) (after k) (works.ends k) (works.ends k) (conns k) (left k)
          (calls_at k works.rounds) (calls_at k works.rounds) (λ phase pending t rests differ. rests) (elsewhere k other) refl (others k other) refl
          (works.each k)
    ];
    accepted = one ∙ ap (λ n. n + 1) works.accepted ∙ sym (sum_below-grows capacity at 1 (λ k. connections_of (slots k)) (λ k. connections_of (after k)) within
        (ap connections_of opened ∙ connections_of-accepted (slots at) free) (λ k other. ap connections_of (elsewhere k other)));
    lost = works.lost;
  }

  -- the connection of a slot was served, and rests
  pub Works-resting :
      (at : ℕ) (desk behind : D) (slots after : ℕ → Slot) (conns left : ℕ → Option C) (conn next : C) (counts : Counts) →
      Works speech (rest_but at) steps start desk slots conns counts → conns at ≡ Some conn →
      ServesOut speech steps (slots at) conn desk (after at) (Ok next) behind → Elsewhere at slots after →
      left at ≡ Some next → ((k : ℕ) → k ≢ at → left k ≡ conns k) →
      Works speech all_rest steps start behind after left counts
  Works-resting at desk behind slots after conns left conn next counts works took (calls, leads, goes_on) elsewhere put others =
      let one = works.each at in
      let has = has_connection speech (rest_but at at) (slots at) conn one.own
      (subst (λ (c : Option C). IsGoing speech (rest_but at at) (slots at).current c one.own) took one.going) in
      let (ended, (traffic_on, open_on, so_far_on, rests_on)) = goes_on one.own has in record {
        rounds = works.rounds ++ rounds_at at calls;
        ends = works.ends;
        leads = subst (λ (all : List Call). Leads steps start all behind) (sym (all_calls-append works.rounds at calls))
            (Leads-append steps start desk behind (all_calls works.rounds) calls works.leads leads);
        each = λ k. elim (eqb_tells k at) [
          | inl (is, same) ↦ subst (λ (j : ℕ). IsServed speech IsResting (after j) (works.ends j) (left j) (calls_at j (works.rounds ++ rounds_at at calls))) (sym same)
              (subst (λ (c : Option C). IsServed speech IsResting (after at) (works.ends at) c (calls_at at (works.rounds ++ rounds_at at calls))) (sym put)
              (IsServed-resting speech (slots at) (after at) (works.ends at) next one.before one.own calls (calls_at at (works.rounds ++ rounds_at at calls))
              (calls_at-here at works.rounds calls ∙ ap (λ (l : List Call). l ++ calls) one.all) one.whole (ended, (traffic_on, open_on, so_far_on, rests_on))))
          | inr (is, other) ↦ IsServed-same speech (rest_but at k) IsResting (slots k) (after k) (works.ends k) (works.ends k) (conns k) (left k)
              (calls_at k works.rounds) (calls_at k (works.rounds ++ rounds_at at calls)) (λ phase pending t rests. rests other) (elsewhere k other) refl
              (others k other) (calls_at-elsewhere k at works.rounds calls other) (works.each k)
        ];
        accepted = works.accepted ∙ sym (connections_in-same counts.capacity at slots after elsewhere
            (connections_of-resting (slots at) (after at) has.0 traffic_on has.1 open_on ended));
        lost = works.lost;
      }

  -- how many are lost once one more has ended
  lost-grows :
      (capacity at lost more : ℕ) (ends : ℕ → List C) (conn : C) → at < capacity →
      lost ≡ sum_below capacity (λ k. lost_among speech (ends k)) → more ≡ one_if (speech.is_lost conn) →
      lost + more ≡ sum_below capacity (λ k. lost_among speech (ends_with at conn ends k))
  lost-grows capacity at lost more ends conn within was one =
      let grown = sum_below-grows capacity at more (λ k. lost_among speech (ends k)) (λ k. lost_among speech (ends_with at conn ends k)) within
      (let here : lost_among speech (ends_with at conn ends at) ≡ one_if (speech.is_lost conn) + lost_among speech (ends at) =
      ap (lost_among speech) (ends_with-here at conn ends) ∙ sum_by-cons (λ (c : C). one_if (speech.is_lost c)) conn (ends at) in
      omega (arith, here, one))
      (λ k other. ap (lost_among speech) (ends_with-elsewhere at conn ends k other)) in
      omega (arith, was, grown)

  -- the connection of a slot was served, and has ended
  pub Works-ended :
      (at : ℕ) (desk behind : D) (slots after : ℕ → Slot) (conns left : ℕ → Option C) (conn : C) (ended_lost : Bool) (capacity accepted lost : ℕ) →
      Works speech (rest_but at) steps start desk slots conns (counts_of capacity accepted lost) → at < capacity → conns at ≡ Some conn →
      ServesOut speech steps (slots at) conn desk (after at) (Err ended_lost) behind → Elsewhere at slots after →
      left at ≡ None → ((k : ℕ) → k ≢ at → left k ≡ conns k) →
      Works speech all_rest steps start behind after left (counts_of capacity accepted (lost + one_if ended_lost))
  Works-ended at desk behind slots after conns left conn ended_lost capacity accepted lost works within took (calls, leads, goes_on) elsewhere put others =
      let one = works.each at in
      let has = has_connection speech (rest_but at at) (slots at) conn one.own
      (subst (λ (c : Option C). IsGoing speech (rest_but at at) (slots at).current c one.own) took one.going) in
      let (traffic, last, closed, whole, is_lost) = goes_on one.own has in record {
        rounds = works.rounds ++ rounds_at at calls;
        ends = ends_with at last works.ends;
        leads = subst (λ (all : List Call). Leads steps start all behind) (sym (all_calls-append works.rounds at calls))
            (Leads-append steps start desk behind (all_calls works.rounds) calls works.leads leads);
        each = λ k. elim (eqb_tells k at) [
          | inl (is, same) ↦ subst (λ (j : ℕ). IsServed speech IsResting (after j) (ends_with at last works.ends j) (left j) (calls_at j (works.rounds ++ rounds_at at calls))) (sym same)
              (IsServed-ended speech (slots at) (after at) traffic (works.ends at) (ends_with at last works.ends at) last (left at) one.before (one.own ++ calls)
              (calls_at at (works.rounds ++ rounds_at at calls))
              (calls_at-here at works.rounds calls ∙ ap (λ (l : List Call). l ++ calls) one.all ∙ append_assoc one.before one.own calls)
              one.whole closed (ends_with-here at last works.ends) put whole)
          | inr (is, other) ↦ IsServed-same speech (rest_but at k) IsResting (slots k) (after k) (works.ends k) (ends_with at last works.ends k) (conns k) (left k)
              (calls_at k works.rounds) (calls_at k (works.rounds ++ rounds_at at calls)) (λ phase pending t rests. rests other) (elsewhere k other)
              (ends_with-elsewhere at last works.ends k other) (others k other) (calls_at-elsewhere k at works.rounds calls other) (works.each k)
        ];
        accepted = works.accepted ∙ sym (connections_in-same capacity at slots after elsewhere
            (ap connections_of closed ∙ connections_of-with_ended (slots at) has.0 traffic has.1));
        lost = lost-grows capacity at lost (one_if ended_lost) works.ends last within works.lost (ap one_if is_lost);
      }

  -- the time of a connection is up, and it was closed
  pub Works-expired :
      (at : ℕ) (now : D) (slots between after : ℕ → Slot) (conns left : ℕ → Option C) (traffic : Traffic) (conn : C) (ended_lost : Bool)
      (capacity accepted lost : ℕ) →
      Works speech all_rest steps start now slots conns (counts_of capacity accepted lost) → at < capacity → conns at ≡ Some conn →
      (slots at).current ≡ Some traffic → IsWaiting traffic.last → Changes at expiring slots between → Closes at between after →
      ended_lost ≡ speech.is_lost conn → left at ≡ None → ((k : ℕ) → k ≢ at → left k ≡ conns k) →
      Works speech all_rest steps start now after left (counts_of capacity accepted (lost + one_if ended_lost))
  Works-expired at now slots between after conns left traffic conn ended_lost capacity accepted lost works within took live waiting changes closes is_lost put others =
      let one = works.each at in
      let opened = changes.0 traffic live in
      let closed : after at ≡ with_ended (slots at) (expiring traffic) =
      closes.0 (expiring traffic) (ap (λ (s : Slot). s.current) opened)
      ∙ ap (λ (s : Slot). with_ended s (expiring traffic)) opened in
      let elsewhere : Elsewhere at slots after = λ k other. closes.1 k other ∙ changes.1 k other in
      let whole = IsWhole-expired speech traffic conn one.own waiting
      (subst (λ (c : Option C). IsGoing speech IsResting (Some traffic) c one.own) took
      (subst (λ (o : Option Traffic). IsGoing speech IsResting o (conns at) one.own) live one.going)) in record {
        rounds = works.rounds;
        ends = ends_with at conn works.ends;
        leads = works.leads;
        each = λ k. elim (eqb_tells k at) [
          | inl (is, same) ↦ subst (λ (j : ℕ). IsServed speech IsResting (after j) (ends_with at conn works.ends j) (left j) (calls_at j works.rounds)) (sym same)
              (IsServed-ended speech (slots at) (after at) (expiring traffic) (works.ends at) (ends_with at conn works.ends at) conn (left at) one.before one.own
              (calls_at at works.rounds) one.all one.whole closed (ends_with-here at conn works.ends) put whole)
          | inr (is, other) ↦ IsServed-same speech IsResting IsResting (slots k) (after k) (works.ends k) (ends_with at conn works.ends k) (conns k) (left k)
              (calls_at k works.rounds) (calls_at k works.rounds) (λ phase pending t rests. rests) (elsewhere k other)
              (ends_with-elsewhere at conn works.ends k other) (others k other) refl (works.each k)
        ];
        accepted = works.accepted ∙ sym (connections_in-same capacity at slots after elsewhere
            (ap connections_of closed ∙ connections_of-with_ended (slots at) traffic (expiring traffic) live));
        lost = lost-grows capacity at lost (one_if ended_lost) works.ends conn within works.lost (ap one_if is_lost);
      }

  -- nothing is open any more
  pub Works-done :
      (now : D) (slots after : ℕ → Slot) (conns : ℕ → Option C) (counts : Counts) →
      Works speech all_rest steps start now slots conns counts → ((k : ℕ) → (slots k).current ≡ None) → ((k : ℕ) → after k ≡ slots k) →
      HasServed speech steps start now after counts
  Works-done now slots after conns counts works free same = record {
    rounds = works.rounds;
    ends = works.ends;
    leads = works.leads;
    each = λ k.
        let one = works.each k in
        let none = no_calls speech IsResting (conns k) one.own (subst (λ (o : Option Traffic). IsGoing speech IsResting o (conns k) one.own) (free k) one.going) in
        subst (λ (calls : List Call). AreWhole speech (after k).ended (works.ends k) calls)
        (sym (one.all ∙ ap (λ (l : List Call). one.before ++ l) none ∙ append-nil one.before))
        (subst (λ (s : Slot). AreWhole speech s.ended (works.ends k) one.before) (sym (same k)) one.whole);
    accepted = works.accepted ∙ sym (sum_below-same counts.capacity (λ k. connections_of (slots k)) (λ k. length (after k).ended)
        (λ k below. ap (λ (s : Slot). length s.ended) (same k) ∙ sym (connections_of-closed (slots k) (free k))));
    lost = works.lost;
  }

  -- something is kept for a slot whose connection is open
  pub Works-kept :
      (IsBut : ℕ → IsLeft) (at : ℕ) (now : D) (slots : ℕ → Slot) (conns : ℕ → Option C) (counts : Counts) →
      Works speech IsBut steps start now slots conns counts → IsOpen (slots at) → (conn : C) × (conns at ≡ Some conn)
  Works-kept IsBut at now slots conns counts works (traffic, live) =
      let one = works.each at in
      kept (conns at) one.own (subst (λ (o : Option Traffic). IsGoing speech (IsBut at) o (conns at) one.own) live one.going)
    where
      kept :
          (conn : Option C) (own : List Call) → IsGoing speech (IsBut at) (Some traffic) conn own → (some : C) × (conn ≡ Some some)
      kept None own going = absurd going
      kept (Some conn) own going = (conn, refl)
