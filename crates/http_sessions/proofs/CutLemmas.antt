-- A stream is cut into messages in one way.
use Rattle.std.proofs.Common.{◌≡◌, ◌≢◌, ℕ, ◌+◌, ◌<◌, ◌≤◌, ◌⊎◌, true, false, ◌==◌, List, [], ◌∷◌, ◌++◌, append_assoc, length, take, inl, inr, refl, sym, subst, ap, ◌∙◌, arith}
use Rattle.std.proofs.lemmas.Bool.Decides.{eqb_tells}
use Rattle.std.specs.Prelude.{flat_map}
use Rattle.httparse.specs.Grammar.{EndsInTarget}
use Rattle.http_desks.specs.Uses.{Use}
use Rattle.http_sessions.specs.Messages.{Exchange, exchange_bytes, open_reply}
use Rattle.http_sessions.specs.Stops.{Bad, Last, Long, More, Refuses, Stop, StopsAt, Waits, stop_bytes}
use Rattle.http_sessions.specs.Laws.{AreUses, IsAnyUse, IsCut, IsFinal, IsOneCut, cut_bytes, last_of}
use Rattle.http_sessions.proofs.StopLemmas.{excluded, same_exchange, same_stop}

-- the use of the last message, where no other message is before it
last_use : (uses : ℕ → Use) (start : ℕ) (stop : Stop) → AreUses uses start (last_of stop) → (e : Exchange) → stop ≡ Last e → e.used ≡ uses start
last_use uses start More follows e is = cc
last_use uses start Waits follows e is = cc
last_use uses start Bad follows e is = cc
last_use uses start Long follows e is = cc
last_use uses start (Refuses head why) follows e is = cc
last_use uses start (Last f) follows e is = let same : f ≡ e = cc in ap (λ (x : Exchange). x.used) (sym same) ∙ follows.0

not_equal : (a b : ℕ) → a < b → (((a == b) ≡ true) × (a ≡ b)) ⊎ (((a == b) ≡ false) × (a ≢ b)) → (a == b) ≡ false
not_equal a b less (inl (test, same)) = absurd (omega (arith, same, less))
not_equal a b less (inr (test, other)) = test

not_last : (start : ℕ) (n : ℕ) → start + n < 1000 → 1 ≤ n → (start + 0 == 999) ≡ false
not_last start n few some = not_equal (start + 0) 999 (omega (arith, few, some)) (eqb_tells (start + 0) 999)

-- the messages after the first
tail_cut :
    (stream : List ℕ) (uses : ℕ → Use) (start : ℕ) (e : Exchange) (exchanges : List Exchange) (stop : Stop) (rest : List ℕ) →
    IsCut stream uses start (e ∷ exchanges) stop rest →
    IsCut (flat_map exchange_bytes exchanges ++ rest) uses (start + 1) exchanges stop rest
tail_cut stream uses start e exchanges stop rest whole =
    let count : start + length (e ∷ exchanges) ≡ start + 1 + length exchanges = omega arith in record {
      cut = refl;
      each = whole.each.1;
      few = omega (arith, whole.few, count);
      stops = whole.stops;
      follows = whole.follows.1;
      final = subst (λ (n : ℕ). IsFinal (n == 999) stop) count whole.final;
    }

head_cut :
    (stream : List ℕ) (uses : ℕ → Use) (start : ℕ) (e : Exchange) (exchanges : List Exchange) (stop : Stop) (rest : List ℕ) →
    IsCut stream uses start (e ∷ exchanges) stop rest →
    stream ≡ exchange_bytes e ++ (flat_map exchange_bytes exchanges ++ rest)
head_cut stream uses start e exchanges stop rest whole =
    whole.cut ∙ append_assoc (exchange_bytes e) (flat_map exchange_bytes exchanges) rest

bytes-more :
    (kind : List ℕ) (start : ℕ) (e : Exchange) (exchanges : List Exchange) (stop : Stop) →
    cut_bytes kind start (e ∷ exchanges) stop ≡ open_reply kind e ++ cut_bytes kind (start + 1) exchanges stop
bytes-more kind start e exchanges stop =
    let count : start + length (e ∷ exchanges) ≡ start + 1 + length exchanges = omega arith in
    append_assoc (open_reply kind e) (flat_map (open_reply kind) exchanges) (stop_bytes kind (start + length (e ∷ exchanges) == 999) stop)
    ∙ ap (λ (n : ℕ). open_reply kind e ++ (flat_map (open_reply kind) exchanges ++ stop_bytes kind (n == 999) stop)) count

-- one cut ends where the other goes on
never_shorter :
    (stream : List ℕ) (uses : ℕ → Use) (start : ℕ) (f : Exchange) (exchanges : List Exchange) (one two : Stop) (rest left : List ℕ) →
    IsCut stream uses start [] one rest →
    IsCut stream uses start (f ∷ exchanges) two left →
    ⊥
never_shorter stream uses start f exchanges one two rest left short long =
    let stops : StopsAt IsAnyUse one stream = subst (StopsAt IsAnyUse one) (sym short.cut) short.stops in
    excluded (start + 0 == 999) stream (flat_map exchange_bytes exchanges ++ left) one f (uses start)
    (not_last start (length (f ∷ exchanges)) long.few (omega arith)) stops short.final (last_use uses start one short.follows)
    (head_cut stream uses start f exchanges two left long) long.each.0 long.follows.0

more_bytes :
    (kind : List ℕ) (start : ℕ) (e f : Exchange) (es fs : List Exchange) (one two : Stop) (rest : List ℕ) →
    e ≡ f →
    (cut_bytes kind (start + 1) es one ≡ cut_bytes kind (start + 1) fs two) ⊎ EndsInTarget (take 16384 rest) →
    (cut_bytes kind start (e ∷ es) one ≡ cut_bytes kind start (f ∷ fs) two) ⊎ EndsInTarget (take 16384 rest)
more_bytes kind start e f es fs one two rest equal (inr target) = inr target
more_bytes kind start e f es fs one two rest equal (inl same) =
    inl (bytes-more kind start e es one
    ∙ ap (λ (x : Exchange). open_reply kind x ++ cut_bytes kind (start + 1) es one) equal
    ∙ ap (λ (b : List ℕ). open_reply kind f ++ b) same
    ∙ sym (bytes-more kind start f fs two))

pub one_cut : IsOneCut
one_cut stream kind uses start [] [] one two rest left a b =
    let rests : rest ≡ left = sym a.cut ∙ b.cut in
    let stops : StopsAt IsAnyUse two rest = subst (StopsAt IsAnyUse two) (sym rests) b.stops in (
      refl,
      rests,
      same_stop kind (start + 0 == 999) rest (uses start) one two a.stops stops a.final b.final
          (last_use uses start one a.follows) (last_use uses start two b.follows),
    )
one_cut stream kind uses start [] (f ∷ fs) one two rest left a b =
    absurd (never_shorter stream uses start f fs one two rest left a b)
one_cut stream kind uses start (e ∷ es) [] one two rest left a b =
    absurd (never_shorter stream uses start e es two one left rest b a)
one_cut stream kind uses start (e ∷ es) (f ∷ fs) one two rest left a b =
    let (equal, after) = same_exchange stream (flat_map exchange_bytes es ++ rest) (flat_map exchange_bytes fs ++ left) e f
    (head_cut stream uses start e es one rest a) (head_cut stream uses start f fs two left b)
    a.each.0.exchange b.each.0.exchange (a.follows.0 ∙ sym b.follows.0) in
    let tail = subst (λ (s : List ℕ). IsCut s uses (start + 1) fs two left) (sym after) (tail_cut stream uses start f fs two left b) in
    let (tails, rests, bytes) = one_cut (flat_map exchange_bytes es ++ rest) kind uses (start + 1) es fs one two rest left
    (tail_cut stream uses start e es one rest a) tail in (
      ap (λ (x : Exchange). x ∷ es) equal ∙ ap (λ (xs : List Exchange). f ∷ xs) tails,
      rests,
      more_bytes kind start e f es fs one two rest equal bytes,
    )
