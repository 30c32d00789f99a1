-- The lines that are sent to a log's writer, and what it writes; this project's profile.
use Rattle.std.specs.Prelude.{◌≡◌, ◌+◌, ◌-◌, ◌^◌, ℕ, zero, suc, Bool, true, false, List, [], ◌∷◌, ◌++◌, codes, decimal, length, map, min}
use Rattle.std.specs.List.{AllZip}
use Rattle.std.specs.Io.KnownBytes.{Appends}
use Rattle.streams.specs.Streams.{Known}
use Rattle.streams.specs.Writing.{Breaks}
use Rattle.std.specs.declared.alloc.Global.{Global}
use Rattle.rtrb.specs.Ring.{IsPair, SameProducer, consumer_capacity, producer_capacity}
use Rattle.rtrb.specs.declared.AnyItems.{AnyItems}
use Rattle.rtrb.specs.declared.consumer.Consumer.{Consumer}
use Rattle.rtrb.specs.declared.producer.Producer.{Producer}

-- the end of a ring that a sender has
abbrev pub SendingEnd : Type 0
SendingEnd = Producer ℕ Global AnyItems

-- the end of a ring that a log's writer has
abbrev pub ReceivingEnd : Type 0
ReceivingEnd = Consumer ℕ Global AnyItems

-- the two are the ends of one ring, with as much room at both
abbrev pub AreEnds : SendingEnd → ReceivingEnd → Type 0
AreEnds sending receiving = IsPair sending receiving × (producer_capacity sending ≡ consumer_capacity receiving)

-- a sender's end of its ring, what it has sent so far, how many lines it has lost since the last one that it sent, and how
-- much room it knows of in its ring, without the room that it keeps for its last note
pub record Sending : Type 0 where
  pub end : SendingEnd
  pub sent : List ℕ
  pub lost : ℕ
  pub free : ℕ

-- the end of its ring that a sender had that has ended, and all that it has sent
pub record Ended : Type 0 where
  pub end : SendingEnd
  pub sent : List ℕ

-- a writer's ends of its rings, and what it has received so far through each
pub record Receiving : Type 0 where
  pub ends : List ReceivingEnd
  pub received : List (List ℕ)

-- senders have ended that had the other ends of the first of a writer's rings, in their order
abbrev pub AreEndsOf : List Ended → List ReceivingEnd → Type 0
AreEndsOf [] ends = Unit {0}
AreEndsOf (sender ∷ senders) [] = ⊥
AreEndsOf (sender ∷ senders) (end ∷ ends) = AreEnds sender.end end × AreEndsOf senders ends

-- the first of the senders that were opened have ended, in their order
abbrev pub HaveEnded : List Sending → List Ended → Type 0
HaveEnded opened ended =
    (senders others : List Sending) × (opened ≡ senders ++ others)
    × AllZip (λ (sender : Sending) (last : Ended). SameProducer sender.end last.end) senders ended

-- all that the first senders have sent was received
abbrev pub HasReceived : List (List ℕ) → List (List ℕ) → Type 0
HasReceived sents received = (others : List (List ℕ)) × (received ≡ sents ++ others)

-- a sender that has sent nothing, with room for so many bytes
abbrev pub IsOpened : ℕ → Sending → Type 0
IsOpened bytes sender = (sender.sent ≡ []) × (sender.lost ≡ 0) × (sender.free ≡ bytes)

-- the line that says how many were lost
abbrev pub note_string : ℕ → List ℕ
note_string lost = codes "omaha: lines of the log that were lost: " ++ decimal lost ++ codes "\n"

-- rule: Note of lost lines
-- what is sent before the next line: how many were lost; nothing if none was
abbrev pub note_of : ℕ → List ℕ
note_of zero = []
note_of (suc lost) = note_string (suc lost)

-- rule: Line that is sent
-- the line went into the ring whole, after the note of those that were lost
abbrev pub Sends : Sending → Sending → List ℕ → Type 0
Sends old new line = (new.sent ≡ old.sent ++ note_of old.lost ++ line) × (new.lost ≡ 0)

-- nothing went into the ring, and the line is counted as lost, of at most 2^64 - 1
abbrev pub Loses : Sending → Sending → Type 0
Loses old new = (new.sent ≡ old.sent) × (new.lost ≡ min (old.lost + 1) (2 ^ 64 - 1))

-- what ends a part of a line
abbrev pub end_of : Bool → List ℕ
end_of true = codes "\n"
end_of false = []

-- the bytes were written whole; or the writer failed within them, and the log may end in a part of a line
abbrev pub IsPut : List ℕ → Known → Known → Bool → Type 0
IsPut bytes old new false = Appends old.bytes new.bytes bytes
IsPut bytes old new true = Breaks old new bytes

-- bytes were written to a log, after a line feed if it ended in a part of a line; no bytes leave it as it was
abbrev pub IsAppended : List ℕ → Known → Known → Bool → Bool → Type 0
IsAppended [] old new was_cut is_cut = (new ≡ old) × (is_cut ≡ was_cut)
IsAppended (byte ∷ bytes) old new was_cut is_cut = IsPut (end_of was_cut ++ byte ∷ bytes) old new is_cut

-- what was received in the meantime was written, and nothing else
abbrev pub HasWritten : List ℕ → List ℕ → Known → Known → Bool → Bool → Type 0
HasWritten before after old new was_cut is_cut =
    (bytes : List ℕ) × (after ≡ before ++ bytes) × IsAppended bytes old new was_cut is_cut

-- rule: Written log
-- what was received from each sender in the meantime was written, one sender after the other, and nothing else
abbrev pub HaveWritten : List (List ℕ) → List (List ℕ) → Known → Known → Bool → Bool → Type 0
HaveWritten [] [] old new was_cut is_cut = (new ≡ old) × (is_cut ≡ was_cut)
HaveWritten [] (after ∷ afters) old new was_cut is_cut = ⊥
HaveWritten (before ∷ befores) [] old new was_cut is_cut = ⊥
HaveWritten (before ∷ befores) (after ∷ afters) old new was_cut is_cut =
    (between : Known) × (was_between : Bool) × HasWritten before after old between was_cut was_between
    × HaveWritten befores afters between new was_between is_cut

-- what was received from each sender in the meantime was written in so many rounds, and nothing else
abbrev pub WrittenIn : ℕ → List (List ℕ) → List (List ℕ) → Known → Known → Bool → Bool → Type 0
WrittenIn zero befores afters old new was_cut is_cut = (afters ≡ befores) × (new ≡ old) × (is_cut ≡ was_cut)
WrittenIn (suc rounds) befores afters old new was_cut is_cut =
    (middles : List (List ℕ)) × (between : Known) × (was_between : Bool)
    × HaveWritten befores middles old between was_cut was_between
    × WrittenIn rounds middles afters between new was_between is_cut

-- what was received from each sender in the meantime was written, round after round, and nothing else
abbrev pub HaveLogged : List (List ℕ) → List (List ℕ) → Known → Known → Bool → Bool → Type 0
HaveLogged befores afters old new was_cut is_cut = (rounds : ℕ) × WrittenIn rounds befores afters old new was_cut is_cut

-- rule: Whole log
-- after a whole line a log has what was received of its senders, in rounds, and nothing else; and all that the first of
-- them have sent was received, beside which there are so many others
abbrev pub IsWhole : ℕ → List (List ℕ) → Known → Known → Type 0
IsWhole many sents old new =
    (others : List (List ℕ)) × (is_cut : Bool) × (length others ≡ many)
    × HaveLogged (map (λ (_ : List ℕ). []) (sents ++ others)) (sents ++ others) old new false is_cut
