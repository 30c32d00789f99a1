-- The slots of a port, of which one changes, and what a port's log has of them.
use Rattle.std.proofs.Common.{◌≡◌, ◌∙◌, ◌<◌, ◌++◌, ℕ, List, append_assoc, Option, None, Some, refl, sym, subst, ap, inl, inr, arith}
use Rattle.std.specs.Prelude.{option_map, vec_len}
use Rattle.std.proofs.lemmas.Bool.Decides.{eqb_tells}
use Rattle.http_ports.specs.Loops.{kept_at}
use Rattle.http_ports.specs.Ports.{Closes, Reads, Writes, sending}
use Rattle.http_ports.specs.Traffic.{Changes, Elsewhere, IsOpen, Slot, Traffic, timing, with_ended}
use Rattle.http_ports.specs.declared.event.Received.{Received}
use Rattle.http_ports.specs.declared.event.Received.TheVariants as received
use Rattle.http_ports.specs.declared.event.Sent.{Sent}
use Rattle.http_ports.specs.declared.event.Sent.TheVariants as sent
use Rattle.access_logs.specs.Queues.{Sending}
use Rattle.access_logs.specs.Replies.{Piece, begun, done_at, done_of, ended_pieces, going_of, piece_if, with_done, with_more}
use Rattle.access_logs.specs.Sights.{Becomes, IsGoing, Sight, sight_of}
use Rattle.access_logs.specs.Tracks.{Tracks}
use Rattle.access_logs.specs.declared.port_log.PortLog.{PortLog}
use Rattle.access_logs.proofs.BeginLemmas.{IsBegun, sending_done, sending_going, timing-none_begun, timing-none_done, timing-none_going, timing-some_done, timing-some_going}
use Rattle.access_logs.proofs.PlaceLemmas.{going_within}
use Rattle.access_logs.proofs.TrackLemmas.{Tracks-same}

-- no reply of any open connection began after what was sent there
abbrev pub AreBegun : (ℕ → Slot) → Type 0
AreBegun slots = (k : ℕ) (traffic : Traffic) → (slots k).current ≡ Some traffic → IsBegun traffic

-- what passed at each slot
abbrev pub sights_of : (ℕ → Slot) → ℕ → Sight
sights_of slots k = sight_of (slots k)

-- a log that has of each slot what passed there
abbrev pub IsTied : Sending → PortLog → (ℕ → Slot) → Type 0
IsTied start log slots = Tracks start log (sights_of slots)

-- the reply that is under way at a slot
pub going_was :
    (slot : Slot) (traffic : Traffic) → slot.current ≡ Some traffic →
    (sight_of slot).going ≡ Some (going_of traffic)
going_was slot traffic live = ap (option_map going_of) live

pub open_within :
    (start : Sending) (log : PortLog) (slots : ℕ → Slot) (at : ℕ) → IsTied start log slots → IsOpen (slots at) →
    at < vec_len log.seens
open_within start log slots at tied (traffic, live) =
    omega (
      arith,
      log.seens.ok,
      going_within log.seens.items at (going_of traffic)
          (subst (λ (going : Option Piece). IsGoing going (kept_at log.seens.items at))
          (going_was (slots at) traffic live) (tied.going at)),
    )

-- a slot, by its two parts
sight_is :
    (done next : List Piece) (going now : Option Piece) → next ≡ done → now ≡ going →
    ◌≡◌ {A = Sight} (record { done = next; going = now }) (record { done = done; going = going })
sight_is done next going now dones goings =
    ap (λ (d : List Piece). record { done = d; going = now }) dones
    ∙ ap (λ (g : Option Piece). record { done = done; going = g }) goings

-- a slot with an open connection
sight_open :
    (slot : Slot) (traffic : Traffic) → slot.current ≡ Some traffic →
    sight_of slot ≡ record { done = ended_pieces slot.ended ++ done_of traffic; going = Some (going_of traffic) }
sight_open slot traffic live =
    ap (λ (current : Option Traffic).
    record { done = with_done (ended_pieces slot.ended) current; going = option_map going_of current }) live

-- one slot is another one
becomes-elsewhere :
    (at : ℕ) (sight : Sight) (old new : ℕ → Slot) → Elsewhere at old new → sight_of (new at) ≡ sight →
    Becomes at sight (sights_of old) (sights_of new)
becomes-elsewhere at sight old new elsewhere here = (here, λ k other. ap sight_of (elsewhere k other))

begun-elsewhere :
    (at : ℕ) (old new : ℕ → Slot) → Elsewhere at old new → AreBegun old →
    ((traffic : Traffic) → (new at).current ≡ Some traffic → IsBegun traffic) → AreBegun new
begun-elsewhere at old new elsewhere begun here k traffic live = elim (eqb_tells k at) [
  | inl (is, same) ↦ here traffic (subst (λ (j : ℕ). (new j).current ≡ Some traffic) same live)
  | inr (is, other) ↦ begun k traffic (sym (ap (λ (slot : Slot). slot.current) (elsewhere k other)) ∙ live)
]

-- a connection changes
pub begun-changed :
    (at : ℕ) (change : Traffic → Traffic) (old new : ℕ → Slot) → Changes at change old new → IsOpen (old at) →
    ((traffic : Traffic) → IsBegun traffic → IsBegun (change traffic)) → AreBegun old → AreBegun new
begun-changed at change old new changes (was, live) keeps begun =
    begun-elsewhere at old new changes.1 begun (λ traffic now.
    let same : Some traffic ≡ Some (change was) = sym now ∙ ap (λ (slot : Slot). slot.current) (changes.0 was live) in
    let is : change was ≡ traffic = cc same in subst IsBegun is (keeps was (begun at was live)))

-- and more of its replies are done
becomes-changed :
    (at : ℕ) (change : Traffic → Traffic) (old new : ℕ → Slot) (traffic : Traffic) (more : List Piece) (going : Piece) →
    Changes at change old new → (old at).current ≡ Some traffic →
    done_of (change traffic) ≡ done_of traffic ++ more → going_of (change traffic) ≡ going →
    Becomes at (record { done = (sight_of (old at)).done ++ more; going = Some going }) (sights_of old) (sights_of new)
becomes-changed at change old new traffic more going changes live done goes =
    becomes-elsewhere at _ old new changes.1
    (ap sight_of (changes.0 traffic live)
    ∙ sight_is ((sight_of (old at)).done ++ more) (ended_pieces (old at).ended ++ done_of (change traffic)) (Some going)
    (Some (going_of (change traffic)))
    (ap (λ (pieces : List Piece). ended_pieces (old at).ended ++ pieces) done
    ∙ sym (append_assoc (ended_pieces (old at).ended) (done_of traffic) more)
    ∙ ap (λ (s : Sight). s.done ++ more) (sym (sight_open (old at) traffic live)))
    (ap (λ (piece : Piece). Some piece) goes))

-- bytes are sent
pub becomes-sent :
    (at : ℕ) (bytes : List ℕ) (old new : ℕ → Slot) (traffic : Traffic) →
    Changes at (sending bytes) old new → (old at).current ≡ Some traffic → AreBegun old →
    Becomes at (record { done = (sight_of (old at)).done; going = Some (with_more (going_of traffic) bytes) })
    (sights_of old) (sights_of new)
becomes-sent at bytes old new traffic changes live begun =
    let one = begun at traffic live in
    becomes-elsewhere at _ old new changes.1
    (ap sight_of (changes.0 traffic live)
    ∙ sight_is (sight_of (old at)).done (ended_pieces (old at).ended ++ done_of (sending bytes traffic))
    (Some (with_more (going_of traffic) bytes)) (Some (going_of (sending bytes traffic)))
    (ap (λ (pieces : List Piece). ended_pieces (old at).ended ++ pieces) (sending_done bytes traffic one)
    ∙ ap (λ (s : Sight). s.done) (sym (sight_open (old at) traffic live)))
    (ap (λ (piece : Piece). Some piece) (sending_going bytes traffic one)))

-- a message may begin
pub becomes-begun :
    (at seconds : ℕ) (waiting : List ℕ) (old new : ℕ → Slot) (traffic : Traffic) →
    Changes at (timing seconds (Some waiting)) old new → (old at).current ≡ Some traffic →
    Becomes at
    (record {
      done = (sight_of (old at)).done ++ piece_if (going_of traffic).message (going_of traffic).reply;
      going = Some (begun waiting);
    })
    (sights_of old) (sights_of new)
becomes-begun at seconds waiting old new traffic changes live =
    becomes-changed at (timing seconds (Some waiting)) old new traffic
    (piece_if (going_of traffic).message (going_of traffic).reply) (begun waiting) changes live
    (timing-some_done seconds waiting traffic) (timing-some_going seconds waiting traffic)

-- a change at which no reply begins and nothing is sent
pub record IsQuiet (change : Traffic → Traffic) : Type 0 where
  pub begun : (traffic : Traffic) → IsBegun traffic → IsBegun (change traffic)
  pub done : (traffic : Traffic) → done_of (change traffic) ≡ done_of traffic
  pub going : (traffic : Traffic) → going_of (change traffic) ≡ going_of traffic

pub tied-quiet :
    (at : ℕ) (change : Traffic → Traffic) (start : Sending) (log : PortLog) (old new : ℕ → Slot) → IsQuiet change →
    Changes at change old new → IsOpen (old at) → IsTied start log old → IsTied start log new
tied-quiet at change start log old new quiet changes (traffic, live) tied =
    Tracks-same start log (sights_of old) (sights_of new)
    (λ k.
    elim (eqb_tells k at) [
      | inl (is, same) ↦ subst (λ (j : ℕ). sight_of (new j) ≡ sight_of (old j)) (sym same) here
      | inr (is, other) ↦ ap sight_of (changes.1 k other)
    ])
    tied
  where
    here : sight_of (new at) ≡ sight_of (old at)
    here =
        ap sight_of (changes.0 traffic live)
        ∙ sight_is (ended_pieces (old at).ended ++ done_of traffic)
        (ended_pieces (old at).ended ++ done_of (change traffic)) (Some (going_of traffic)) (Some (going_of (change traffic)))
        (ap (λ (pieces : List Piece). ended_pieces (old at).ended ++ pieces) (quiet.done traffic))
        (ap (λ (piece : Piece). Some piece) (quiet.going traffic))
        ∙ sym (sight_open (old at) traffic live)

pub timing-quiet : (seconds : ℕ) → IsQuiet (timing seconds None)
timing-quiet seconds = record {
  begun = timing-none_begun seconds;
  done = timing-none_done seconds;
  going = timing-none_going seconds;
}

-- what a read changes
pub reads-quiet :
    (at : ℕ) (received : Received) (cells : List ℕ) (old new : ℕ → Slot) → Reads at received cells old new →
    (change : Traffic → Traffic) × IsQuiet change × Changes at change old new
reads-quiet at (received.Bytes count) cells old new reads =
    (_, record { begun = λ traffic begun. begun; done = λ traffic. refl; going = λ traffic. refl }, reads.2)
reads-quiet at received.Nothing cells old new reads =
    (_, record { begun = λ traffic begun. begun; done = λ traffic. refl; going = λ traffic. refl }, reads)
reads-quiet at received.End cells old new reads =
    (_, record { begun = λ traffic begun. begun; done = λ traffic. refl; going = λ traffic. refl }, reads)
reads-quiet at received.Failure cells old new reads =
    (_, record { begun = λ traffic begun. begun; done = λ traffic. refl; going = λ traffic. refl }, reads)

-- what a write changes that takes no bytes
pub writes-quiet :
    (at : ℕ) (taken : Sent) (bytes : List ℕ) (old new : ℕ → Slot) → ((count : ℕ) → taken ≡ sent.Bytes count → ⊥) →
    Writes at taken bytes old new → (change : Traffic → Traffic) × IsQuiet change × Changes at change old new
writes-quiet at (sent.Bytes count) bytes old new none writes = absurd (none count refl)
writes-quiet at sent.Nothing bytes old new none writes =
    (_, record { begun = λ traffic begun. begun; done = λ traffic. refl; going = λ traffic. refl }, writes)
writes-quiet at sent.Failure bytes old new none writes =
    (_, record { begun = λ traffic begun. begun; done = λ traffic. refl; going = λ traffic. refl }, writes)

-- a connection ends
pub begun-closed : (at : ℕ) (old new : ℕ → Slot) → Closes at old new → IsOpen (old at) → AreBegun old → AreBegun new
begun-closed at old new closes (was, live) begun =
    begun-elsewhere at old new closes.1 begun (λ traffic now.
    let none : Some traffic ≡ None = sym now ∙ ap (λ (slot : Slot). slot.current) (closes.0 was live) in cc none)

pub becomes-closed :
    (at : ℕ) (old new : ℕ → Slot) (traffic : Traffic) →
    Closes at old new → (old at).current ≡ Some traffic →
    Becomes at
    (record {
      done = (sight_of (old at)).done ++ piece_if (going_of traffic).message (going_of traffic).reply;
      going = None;
    })
    (sights_of old) (sights_of new)
becomes-closed at old new traffic closes live =
    becomes-elsewhere at _ old new closes.1
    (ap sight_of (closes.0 traffic live)
    ∙ sight_is _ (done_at (with_ended (old at) traffic)) None None
    (sym (append_assoc (ended_pieces (old at).ended) (done_of traffic)
    (piece_if (going_of traffic).message (going_of traffic).reply))
    ∙ ap (λ (s : Sight). s.done ++ piece_if (going_of traffic).message (going_of traffic).reply)
    (sym (sight_open (old at) traffic live))) refl)
