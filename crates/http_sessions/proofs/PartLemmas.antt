-- What was said on connections, by a part of what is kept of each.
use Rattle.std.proofs.Common.{◌≡◌, ◌∙◌, ◌+◌, ◌++◌, ℕ, zero, suc, List, [], ◌∷◌, map, Option, None, refl, ap}
use Rattle.std.proofs.lemmas.List.Sums.{sum_by-cons}
use Rattle.http_desks.specs.Calls.{Call}
use Rattle.http_ports.specs.Loops.{Counts, HasServed, kept_at}
use Rattle.http_ports.specs.Speech.{AreWhole, Speech, lost_among, one_if}
use Rattle.http_ports.specs.Sums.{sum_below}
use Rattle.http_ports.specs.Traffic.{FitClock, Slot, Traffic}
use Rattle.http_sessions.specs.Ports.{FitEnded}

-- what is said by the part, at a port with this clock
abbrev pub speech_by : {C E : Type 0} → Option ℕ → (C → E) → Speech E → Speech C
speech_by stopped part speech = record {
  pending = λ conn. speech.pending (part conn);
  phase = λ conn. speech.phase (part conn);
  is_lost = λ conn. speech.is_lost (part conn);
  so_far = λ timestamps conn received sent calls.
      FitClock stopped timestamps × speech.so_far timestamps (part conn) received sent calls;
}

module _ {C E : Type 0} (stopped : Option ℕ) (part : C → E) (speech : Speech E) where
  AreWhole-part :
      (ended : List Traffic) (conns : List C) (calls : List Call) →
      AreWhole (speech_by stopped part speech) ended conns calls → AreWhole speech ended (map part conns) calls
  AreWhole-part [] [] calls whole = whole
  AreWhole-part [] (conn ∷ conns) calls never = absurd never
  AreWhole-part (traffic ∷ earlier) [] calls never = absurd never
  AreWhole-part (traffic ∷ earlier) (conn ∷ conns) calls (before, own, all, whole, last) =
      (before, own, all, AreWhole-part earlier conns before whole, record { came = last.came.1; ended = last.ended })

  FitEnded-part :
      (ended : List Traffic) (conns : List C) (calls : List Call) →
      AreWhole (speech_by stopped part speech) ended conns calls → FitEnded stopped ended
  FitEnded-part [] conns calls whole = tt
  FitEnded-part (traffic ∷ earlier) [] calls never = absurd never
  FitEnded-part (traffic ∷ earlier) (conn ∷ conns) calls (before, own, all, whole, last) =
      (last.came.0, FitEnded-part earlier conns before whole)

  lost_among-part : (conns : List C) → lost_among (speech_by stopped part speech) conns ≡ lost_among speech (map part conns)
  lost_among-part [] = refl
  lost_among-part (conn ∷ conns) =
      sum_by-cons (λ (c : C). one_if (speech.is_lost (part c))) conn conns
      ∙ ap (λ n. one_if (speech.is_lost (part conn)) + n) (lost_among-part conns)
      ∙ cc (sum_by-cons (λ (e : E). one_if (speech.is_lost e)) (part conn) (map part conns))

  lost-part :
      (capacity : ℕ) (ends : ℕ → List C) →
      sum_below capacity (λ at. lost_among (speech_by stopped part speech) (ends at))
      ≡ sum_below capacity (λ at. lost_among speech (map part (ends at)))
  lost-part zero ends = refl
  lost-part (suc capacity) ends = cc (lost-part capacity ends, lost_among-part (ends capacity))

  pub HasServed-clock :
      {D : Type 0} (steps : D → Call → D → Type 0) (start end : D) (slots : ℕ → Slot) (counts : Counts) →
      HasServed (speech_by stopped part speech) steps start end slots counts → (k : ℕ) → FitEnded stopped (slots k).ended
  HasServed-clock steps start end slots counts served k = FitEnded-part (slots k).ended (served.ends k) _ (served.each k)

  pub HasServed-part :
      {D : Type 0} (steps : D → Call → D → Type 0) (start end : D) (slots : ℕ → Slot) (counts : Counts) →
      HasServed (speech_by stopped part speech) steps start end slots counts → HasServed speech steps start end slots counts
  HasServed-part steps start end slots counts served = record {
    rounds = served.rounds;
    ends = λ at. map part (served.ends at);
    leads = served.leads;
    each = λ at. AreWhole-part (slots at).ended (served.ends at) _ (served.each at);
    accepted = served.accepted;
    lost = served.lost ∙ lost-part counts.capacity served.ends;
  }

-- one more place without a connection
pub kept_at-push :
    {C : Type 0} (places : List (Option C)) →
    ((k : ℕ) → kept_at places k ≡ None) → (k : ℕ) → kept_at (places ++ None ∷ []) k ≡ None
kept_at-push [] free zero = refl
kept_at-push [] free (suc k) = refl
kept_at-push (place ∷ places) free zero = free zero
kept_at-push (place ∷ places) free (suc k) = kept_at-push places (λ j. free (suc j)) k
