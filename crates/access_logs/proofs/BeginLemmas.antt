-- The replies of a connection, as it goes on.
use Rattle.std.proofs.Common.{◌≡◌, ◌∙◌, ◌≤◌, ℕ, List, [], ◌∷◌, ◌++◌, append-nil, append_assoc, length, length-append, drop, take, max, None, Some, refl, sym, subst, ap, arith}
use Rattle.std.proofs.Math.Seq.{drop-length, take-length}
use Rattle.std.proofs.lemmas.List.{drop-append-le, take-append-le}
use Rattle.http_ports.specs.Ports.{sending}
use Rattle.http_ports.specs.Traffic.{Traffic, timing}
use Rattle.http_ports.specs.declared.timestamp.Timestamp.{Timestamp}
use Rattle.access_logs.specs.Replies.{Begin, Piece, at_first, begin_at, begins_of, done_from, done_of, going_from, going_of, last_begin, latest_begin, piece_if}

-- one more timestamp
begins_of-push :
    (timestamps : List Timestamp) (next : Timestamp) →
    begins_of (timestamps ++ next ∷ []) ≡ begins_of timestamps ++ begin_at next.waiting next.sent
begins_of-push [] next = append-nil (begin_at next.waiting next.sent)
begins_of-push (first ∷ timestamps) next =
    ap (λ (begins : List Begin). begin_at first.waiting first.sent ++ begins) (begins_of-push timestamps next)
    ∙ sym (append_assoc (begin_at first.waiting first.sent) (begins_of timestamps) (begin_at next.waiting next.sent))

-- one more reply begins
last_begin-push : (begun : Begin) (begins : List Begin) (next : Begin) → last_begin begun (begins ++ next ∷ []) ≡ next
last_begin-push begun [] next = refl
last_begin-push begun (first ∷ begins) next = last_begin-push first begins next

done_from-push :
    (begun : Begin) (begins : List Begin) (next : Begin) (sent : List ℕ) →
    done_from begun (begins ++ next ∷ []) sent
    ≡ done_from begun begins sent
    ++ piece_if (last_begin begun begins).message (drop (last_begin begun begins).sent (take next.sent sent))
done_from-push begun [] next sent = append-nil (piece_if begun.message (drop begun.sent (take next.sent sent)))
done_from-push begun (first ∷ begins) next sent =
    ap (λ (rest : List Piece). piece_if begun.message (drop begun.sent (take first.sent sent)) ++ rest)
    (done_from-push first begins next sent)
    ∙ sym (append_assoc (piece_if begun.message (drop begun.sent (take first.sent sent))) (done_from first begins sent)
    (piece_if (last_begin first begins).message (drop (last_begin first begins).sent (take next.sent sent))))

latest_begin-push :
    (begins : List Begin) (next : Begin) → latest_begin (begins ++ next ∷ []) ≤ max (latest_begin begins) next.sent
latest_begin-push [] next = omega arith
latest_begin-push (first ∷ begins) next = omega (arith, latest_begin-push begins next)

-- the last one began no later than the latest
last_latest :
    (begun : Begin) (begins : List Begin) → (last_begin begun begins).sent ≤ max begun.sent (latest_begin begins)
last_latest begun [] = omega arith
last_latest begun (first ∷ begins) = omega (arith, last_latest first begins)

-- more is sent
done_from-sent :
    (begun : Begin) (begins : List Begin) (sent more : List ℕ) → latest_begin begins ≤ length sent →
    done_from begun begins (sent ++ more) ≡ done_from begun begins sent
done_from-sent begun [] sent more within = refl
done_from-sent begun (next ∷ begins) sent more within =
    ap (λ (part : List ℕ). piece_if begun.message (drop begun.sent part) ++ done_from next begins (sent ++ more))
    (take-append-le next.sent sent more (omega (arith, within)))
    ∙ ap (λ (rest : List Piece). piece_if begun.message (drop begun.sent (take next.sent sent)) ++ rest)
    (done_from-sent next begins sent more (omega (arith, within)))

-- no reply of a connection began after what was sent
abbrev pub IsBegun : Traffic → Type 0
IsBegun traffic = latest_begin (begins_of traffic.timestamps) ≤ length traffic.sent

-- a timestamp at which no message may begin
begins_of-timing-none :
    (seconds : ℕ) (traffic : Traffic) →
    begins_of (timing seconds None traffic).timestamps ≡ begins_of traffic.timestamps
begins_of-timing-none seconds traffic = begins_of-push traffic.timestamps _ ∙ append-nil (begins_of traffic.timestamps)

pub timing-none_begun : (seconds : ℕ) (traffic : Traffic) → IsBegun traffic → IsBegun (timing seconds None traffic)
timing-none_begun seconds traffic begun =
    subst (λ (begins : List Begin). latest_begin begins ≤ length traffic.sent)
    (sym (begins_of-timing-none seconds traffic)) begun

pub timing-none_done : (seconds : ℕ) (traffic : Traffic) → done_of (timing seconds None traffic) ≡ done_of traffic
timing-none_done seconds traffic =
    ap (λ (begins : List Begin). done_from at_first begins traffic.sent) (begins_of-timing-none seconds traffic)

pub timing-none_going : (seconds : ℕ) (traffic : Traffic) → going_of (timing seconds None traffic) ≡ going_of traffic
timing-none_going seconds traffic =
    ap (λ (begins : List Begin). going_from (last_begin at_first begins) traffic.sent)
    (begins_of-timing-none seconds traffic)

-- one at which a message may begin
begins_of-timing-some :
    (seconds : ℕ) (waiting : List ℕ) (traffic : Traffic) →
    begins_of (timing seconds (Some waiting) traffic).timestamps
    ≡ begins_of traffic.timestamps ++ record { message = waiting; sent = length traffic.sent } ∷ []
begins_of-timing-some seconds waiting traffic = begins_of-push traffic.timestamps _

pub timing-some_begun :
    (seconds : ℕ) (waiting : List ℕ) (traffic : Traffic) →
    IsBegun traffic → IsBegun (timing seconds (Some waiting) traffic)
timing-some_begun seconds waiting traffic begun =
    subst (λ (begins : List Begin). latest_begin begins ≤ length traffic.sent)
    (sym (begins_of-timing-some seconds waiting traffic))
    (omega (
      arith,
      begun,
      latest_begin-push (begins_of traffic.timestamps)
          (record { message = waiting; sent = length traffic.sent }),
    ))

pub timing-some_done :
    (seconds : ℕ) (waiting : List ℕ) (traffic : Traffic) →
    done_of (timing seconds (Some waiting) traffic)
    ≡ done_of traffic ++ piece_if (going_of traffic).message (going_of traffic).reply
timing-some_done seconds waiting traffic =
    ap (λ (begins : List Begin). done_from at_first begins traffic.sent) (begins_of-timing-some seconds waiting traffic)
    ∙ done_from-push at_first (begins_of traffic.timestamps) (record { message = waiting; sent = length traffic.sent })
    traffic.sent
    ∙ ap (λ (all : List ℕ). done_of traffic ++ piece_if (going_of traffic).message
    (drop (last_begin at_first (begins_of traffic.timestamps)).sent all))
    (take-length traffic.sent)

pub timing-some_going :
    (seconds : ℕ) (waiting : List ℕ) (traffic : Traffic) →
    going_of (timing seconds (Some waiting) traffic) ≡ record { message = waiting; reply = [] }
timing-some_going seconds waiting traffic =
    ap (λ (begins : List Begin). going_from (last_begin at_first begins) traffic.sent)
    (begins_of-timing-some seconds waiting traffic)
    ∙ ap (λ (last : Begin). going_from last traffic.sent)
    (last_begin-push at_first (begins_of traffic.timestamps) (record { message = waiting; sent = length traffic.sent }))
    ∙ ap (λ (reply : List ℕ). record { message = waiting; reply = reply }) (drop-length traffic.sent)

-- bytes are sent
pub sending_begun : (bytes : List ℕ) (traffic : Traffic) → IsBegun traffic → IsBegun (sending bytes traffic)
sending_begun bytes traffic begun = omega (arith, begun, length-append traffic.sent bytes)

pub sending_done :
    (bytes : List ℕ) (traffic : Traffic) → IsBegun traffic → done_of (sending bytes traffic) ≡ done_of traffic
sending_done bytes traffic begun = done_from-sent at_first (begins_of traffic.timestamps) traffic.sent bytes begun

pub sending_going :
    (bytes : List ℕ) (traffic : Traffic) → IsBegun traffic →
    going_of (sending bytes traffic)
    ≡ record { message = (going_of traffic).message; reply = (going_of traffic).reply ++ bytes }
sending_going bytes traffic begun =
    let last = last_begin at_first (begins_of traffic.timestamps) in
    ap (λ (reply : List ℕ). record { message = last.message; reply = reply })
    (drop-append-le last.sent traffic.sent bytes
    (omega (arith, begun, last_latest at_first (begins_of traffic.timestamps))))
