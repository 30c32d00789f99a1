-- The ends of rings, of which some are changed.
use Rattle.std.proofs.Common.{◌≡◌, ◌∙◌, ◌≤◌, ◌<◌, ◌++◌, ◌+◌, ℕ, zero, suc, List, [], ◌∷◌, All, length, map, take, drop, get_or, set, sym, subst, refl, ap, arith}
use Rattle.std.proofs.lemmas.List.Elements.{All-cons, All-head, All-nil, All-tail}
use Rattle.std.proofs.Math.Seq.{take-append_seam}
use Rattle.std.specs.List.{AllZip}
use Rattle.rtrb.specs.Ring.{SameConsumer, SameProducer, consumer_capacity, received}
use Rattle.access_logs.specs.Queues.{AreEnds, AreEndsOf, Ended, HasReceived, HaveEnded, ReceivingEnd, Sending, SendingEnd}

-- each end is of the ring that it was of
pub SameConsumer-refl : (end : ReceivingEnd) → SameConsumer end end
SameConsumer-refl end = ((refl, refl, refl, refl), refl)

pub SameConsumer-after :
    (first second third : ReceivingEnd) → SameConsumer first second → SameConsumer second third → SameConsumer first third
SameConsumer-after first second third ((a, b, c, d), e) ((f, g, h, i), j) = ((f ∙ a, g ∙ b, h ∙ c, i ∙ d), j ∙ e)

pub all-same : (ends : List ReceivingEnd) → AllZip SameConsumer ends ends
all-same [] = tt
all-same (end ∷ ends) = (SameConsumer-refl end, all-same ends)

pub all-after :
    (firsts seconds thirds : List ReceivingEnd) → AllZip SameConsumer firsts seconds → AllZip SameConsumer seconds thirds →
    AllZip SameConsumer firsts thirds
all-after [] [] [] one two = tt
all-after [] [] (third ∷ thirds) one two = absurd two
all-after [] (second ∷ seconds) thirds one two = absurd one
all-after (first ∷ firsts) [] thirds one two = absurd one
all-after (first ∷ firsts) (second ∷ seconds) [] one two = absurd two
all-after (first ∷ firsts) (second ∷ seconds) (third ∷ thirds) (a, one) (b, two) =
    (SameConsumer-after first second third a b, all-after firsts seconds thirds one two)

-- one end is changed
pub all-set :
    (n : ℕ) (firsts ends : List ReceivingEnd) (d end : ReceivingEnd) → AllZip SameConsumer firsts ends →
    SameConsumer (get_or ends n d) end → AllZip SameConsumer firsts (set ends n end)
all-set n [] [] d end one same = tt
all-set n [] (second ∷ ends) d end one same = absurd one
all-set n (first ∷ firsts) [] d end one same = absurd one
all-set zero (first ∷ firsts) (second ∷ ends) d end (a, one) same = (SameConsumer-after first second end a same, one)
all-set (suc n) (first ∷ firsts) (second ∷ ends) d end (a, one) same = (a, all-set n firsts ends d end one same)

-- the same rings have room in as much
pub roomy-same :
    (firsts ends : List ReceivingEnd) (room new-room : ℕ) → AllZip SameConsumer firsts ends → new-room ≡ room →
    All (λ (end : ReceivingEnd). consumer_capacity end ≤ room) firsts →
    All (λ (end : ReceivingEnd). consumer_capacity end ≤ new-room) ends
roomy-same [] [] room new-room one size roomy = All-nil (λ (those : ReceivingEnd). consumer_capacity those ≤ new-room)
roomy-same [] (end ∷ ends) room new-room one size roomy = absurd one
roomy-same (first ∷ firsts) [] room new-room one size roomy = absurd one
roomy-same (first ∷ firsts) (end ∷ ends) room new-room (a, one) size roomy =
    All-cons (λ (those : ReceivingEnd). consumer_capacity those ≤ new-room) end ends
    (omega (arith, a.1, size, All-head (λ (those : ReceivingEnd). consumer_capacity those ≤ room) first firsts roomy))
    (roomy-same firsts ends room new-room one size
    (All-tail (λ (those : ReceivingEnd). consumer_capacity those ≤ room) first firsts roomy))

-- there are no more senders than ends, and those at one place are of one ring
pub ends-within : (senders : List Ended) (ends : List ReceivingEnd) → AreEndsOf senders ends → length senders ≤ length ends
ends-within [] ends all = omega arith
ends-within (one ∷ senders) [] all = absurd all
ends-within (one ∷ senders) (other ∷ ends) (a, all) = let rest = ends-within senders ends all in omega arith

pub ends-at :
    (n : ℕ) (senders : List Ended) (ends : List ReceivingEnd) (d : Ended) (e : ReceivingEnd) → AreEndsOf senders ends →
    n < length senders → AreEnds (get_or senders n d).end (get_or ends n e)
ends-at n [] ends d e all within = absurd (omega (arith, within))
ends-at n (one ∷ senders) [] d e all within = absurd all
ends-at zero (one ∷ senders) (other ∷ ends) d e (a, all) within = a
ends-at (suc n) (one ∷ senders) (other ∷ ends) d e (a, all) within = ends-at n senders ends d e all (omega (arith, within))

-- each ring has room in what has room for all
pub roomy-at :
    (n : ℕ) (ends : List ReceivingEnd) (d : ReceivingEnd) (room : ℕ) →
    All (λ (end : ReceivingEnd). consumer_capacity end ≤ room) ends → n < length ends →
    consumer_capacity (get_or ends n d) ≤ room
roomy-at n ends d room roomy within = roomy n d within

-- a ring's two ends are changed
pub ends-set :
    (n : ℕ) (senders : List Ended) (ends : List ReceivingEnd) (sender : Ended) (end : ReceivingEnd) → AreEndsOf senders ends →
    AreEnds sender.end end → AreEndsOf (set senders n sender) (set ends n end)
ends-set n [] ends sender end all two = tt
ends-set n (one ∷ senders) [] sender end all two = absurd all
ends-set zero (one ∷ senders) (other ∷ ends) sender end (a, all) two = (two, all)
ends-set (suc n) (one ∷ senders) (other ∷ ends) sender end (a, all) two = (a, ends-set n senders ends sender end all two)

-- an end is changed after those of the senders
pub ends-beyond :
    (n : ℕ) (senders : List Ended) (ends : List ReceivingEnd) (end : ReceivingEnd) → length senders ≤ n →
    AreEndsOf senders ends → AreEndsOf senders (set ends n end)
ends-beyond n [] ends end few all = tt
ends-beyond n (one ∷ senders) [] end few all = absurd all
ends-beyond zero (one ∷ senders) (other ∷ ends) end few all = absurd (omega (arith, few))
ends-beyond (suc n) (one ∷ senders) (other ∷ ends) end few (a, all) =
    (a, ends-beyond n senders ends end (omega (arith, few)) all)

-- what so many senders have sent was received, or what all have sent
abbrev pub AllRead : ℕ → List Ended → List ReceivingEnd → Type 0
AllRead zero senders ends = Unit {0}
AllRead (suc n) [] ends = Unit {0}
AllRead (suc n) (sender ∷ senders) [] = ⊥
AllRead (suc n) (sender ∷ senders) (end ∷ ends) = (received end ≡ sender.sent) × AllRead n senders ends

-- what the next sender has sent was received
AllRead-next :
    (n : ℕ) (senders : List Ended) (ends : List ReceivingEnd) (sender : Ended) (end : ReceivingEnd) → n < length senders →
    n < length ends → received end ≡ sender.sent → AllRead n senders ends →
    AllRead (suc n) (set senders n sender) (set ends n end)
AllRead-next n [] ends sender end within others is before = absurd (omega (arith, within))
AllRead-next n (one ∷ senders) [] sender end within others is before = absurd (omega (arith, others))
AllRead-next zero (one ∷ senders) (other ∷ ends) sender end within others is before = (is, tt)
AllRead-next (suc n) (one ∷ senders) (other ∷ ends) sender end within others is (a, before) =
    (a, AllRead-next n senders ends sender end (omega (arith, within)) (omega (arith, others)) is before)

-- something was received through a ring after those of the senders
AllRead-beyond :
    (n : ℕ) (senders : List Ended) (ends : List ReceivingEnd) (end : ReceivingEnd) → length senders ≤ n →
    AllRead n senders ends → AllRead (suc n) senders (set ends n end)
AllRead-beyond n [] ends end few before = tt
AllRead-beyond zero (one ∷ senders) ends end few before = absurd (omega (arith, few))
AllRead-beyond (suc n) (one ∷ senders) [] end few before = absurd before
AllRead-beyond (suc n) (one ∷ senders) (other ∷ ends) end few (a, before) =
    (a, AllRead-beyond n senders ends end (omega (arith, few)) before)

-- the same of the number of rings that the loop has
pub AllRead-after :
    (n : ℕ) (senders : List Ended) (ends : List ReceivingEnd) (sender : Ended) (end : ReceivingEnd) → n < length senders →
    n < length ends → received end ≡ sender.sent → AllRead n senders ends →
    AllRead (n + 1) (set senders n sender) (set ends n end)
AllRead-after n senders ends sender end within others is before =
    let one : suc n ≡ n + 1 = omega arith in
    subst (λ m. AllRead m (set senders n sender) (set ends n end)) one
    (AllRead-next n senders ends sender end within others is before)

pub AllRead-past :
    (n : ℕ) (senders : List Ended) (ends : List ReceivingEnd) (end : ReceivingEnd) → length senders ≤ n →
    AllRead n senders ends → AllRead (n + 1) senders (set ends n end)
AllRead-past n senders ends end few before =
    let one : suc n ≡ n + 1 = omega arith in
    subst (λ m. AllRead m senders (set ends n end)) one (AllRead-beyond n senders ends end few before)

-- what all senders have sent was received
pub AllRead-all :
    (n : ℕ) (senders : List Ended) (ends : List ReceivingEnd) → length senders ≤ n → AllRead n senders ends →
    HasReceived (map (λ (one : Ended). one.sent) senders) (map received ends)
AllRead-all n [] ends few before = (map received ends, refl)
AllRead-all zero (one ∷ senders) ends few before = absurd (omega (arith, few))
AllRead-all (suc n) (one ∷ senders) [] few before = absurd before
AllRead-all (suc n) (one ∷ senders) (other ∷ ends) few (a, before) =
    let rest = AllRead-all n senders ends (omega (arith, few)) before in
    (rest.0, ap (λ (xs : List ℕ). xs ∷ map received ends) a ∙ ap (λ (xss : List (List ℕ)). one.sent ∷ xss) rest.1)

-- a sender and the other end of its ring come last
pub ends-push :
    (senders : List Sending) (ends : List ReceivingEnd) (sender : Sending) (end : ReceivingEnd) →
    AllZip (λ (one : Sending) (other : ReceivingEnd). AreEnds one.end other) senders ends → AreEnds sender.end end →
    AllZip (λ (one : Sending) (other : ReceivingEnd). AreEnds one.end other) (senders ++ sender ∷ []) (ends ++ end ∷ [])
ends-push [] [] sender end all two = (two, tt)
ends-push [] (other ∷ ends) sender end all two = absurd all
ends-push (one ∷ senders) [] sender end all two = absurd all
ends-push (one ∷ senders) (other ∷ ends) sender end (a, all) two = (a, ends-push senders ends sender end all two)

-- a part of a vector that is written back whole
pub written-back : {T : Type 0} (len : ℕ) (new items : List T) → length new ≡ len → take len (new ++ drop (length new) items) ≡ new
written-back len new items same =
    subst (λ n. take n (new ++ drop (length new) items) ≡ new) same (take-append_seam new (drop (length new) items))

-- the ends of one ring stay so
AreEnds-after :
    (sender last-sender : SendingEnd) (end last : ReceivingEnd) → AreEnds sender end → SameProducer sender last-sender →
    SameConsumer end last → AreEnds last-sender last
AreEnds-after sender last-sender end last ((a, b, c, d), e) ((f, g, h, i), j) ((k, l, m, n), o) =
    ((k ∙ a ∙ sym f, l ∙ b ∙ sym g, m ∙ c ∙ sym h, n ∙ d ∙ sym i), j ∙ e ∙ sym o)

all-stay :
    (senders others : List Sending) (ended : List Ended) (firsts lasts : List ReceivingEnd) →
    AllZip (λ (one : Sending) (other : ReceivingEnd). AreEnds one.end other) (senders ++ others) firsts →
    AllZip (λ (one : Sending) (other : Ended). SameProducer one.end other.end) senders ended →
    AllZip SameConsumer firsts lasts → AreEndsOf ended lasts
all-stay [] others [] firsts lasts all same kept = tt
all-stay [] others (other ∷ ended) firsts lasts all same kept = absurd same
all-stay (sender ∷ senders) others [] firsts lasts all same kept = absurd same
all-stay (sender ∷ senders) others (other ∷ ended) [] lasts all same kept = absurd all
all-stay (sender ∷ senders) others (other ∷ ended) (first ∷ firsts) [] all same kept = absurd kept
all-stay (sender ∷ senders) others (other ∷ ended) (first ∷ firsts) (last ∷ lasts) (a, all) (b, same) (c, kept) =
    (AreEnds-after sender.end other.end first last a b c, all-stay senders others ended firsts lasts all same kept)

pub ends-stay :
    (opened : List Sending) (ended : List Ended) (firsts lasts : List ReceivingEnd) →
    AllZip (λ (one : Sending) (other : ReceivingEnd). AreEnds one.end other) opened firsts → HaveEnded opened ended →
    AllZip SameConsumer firsts lasts → AreEndsOf ended lasts
ends-stay opened ended firsts lasts all (senders, others, parts, same) kept =
    all-stay senders others ended firsts lasts
    (subst (λ those. AllZip (λ (one : Sending) (other : ReceivingEnd). AreEnds one.end other) those firsts) parts all) same kept
