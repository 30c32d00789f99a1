-- Known bytes that are read or written in parts, each after the one before.
use Rattle.std.proofs.Common.{◌≡◌, ℕ, ◌+◌, ◌-◌, ◌<◌, ◌≤◌, List, ◌++◌, length, get_or, take, drop, Option, Some, None, sym, subst, ap, ◌∙◌, arith, append_assoc, length-append, take-add, take-take}
use Rattle.std.specs.Borrow.{Bor}
use Rattle.std.specs.Io.KnownBytes.{Appends, Consumes}
use Rattle.std.proofs.lemmas.List.{take-append-drop, drop_more}
use Rattle.std.proofs.lemmas.Grind.{flat_map-append}
use Rattle.http_wire.specs.Sending.{AppendsPart, joined}

pub Appends-then :
    (before between after : Option (List ℕ)) (first second : List ℕ) →
    Appends before between first →
    Appends between after second →
    Appends before after (first ++ second)
Appends-then None between after first second one two = tt
Appends-then (Some xs) None after first second one two = absurd one
Appends-then (Some xs) (Some ys) None first second one two = absurd two
Appends-then (Some xs) (Some ys) (Some zs) first second one two =
    two ∙ ap (λ (front : List ℕ). front ++ second) one ∙ append_assoc xs first second

pub Consumes-then :
    (before between after : Option (List ℕ)) (first second : List ℕ) →
    Consumes before between first →
    Consumes between after second →
    Consumes before after (first ++ second)
Consumes-then None between after first second one two = tt
Consumes-then (Some xs) None after first second one two = absurd one
Consumes-then (Some xs) (Some ys) None first second one two = absurd two
Consumes-then (Some xs) (Some ys) (Some zs) first second one two =
    one ∙ ap (λ (rest : List ℕ). first ++ rest) two ∙ sym (append_assoc first second zs)

-- the part that is written grows by what the sink writes of the rest
pub Appends-next :
    (before between after : Option (List ℕ)) (sent count : ℕ) (bytes : List ℕ) →
    sent + count ≤ length bytes →
    Appends before between (take sent bytes) →
    Appends between after (take count (take (length bytes - sent) (drop sent bytes))) →
    Appends before after (take (sent + count) bytes)
Appends-next before between after sent count bytes fits one two =
    let rest = take-take count (length bytes - sent) (drop sent bytes) (omega arith) in
    subst (Appends before after) (sym (take-add sent count bytes))
    (Appends-then before between after (take sent bytes) (take count (drop sent bytes)) one (subst (Appends between after) rest two))

-- a string that was sent in part, after others that were sent whole and before others
pub AppendsPart-then :
    (before between after : Option (List ℕ)) (first text more : List ℕ) →
    Appends before between first →
    AppendsPart between after text →
    AppendsPart before after (first ++ (text ++ more))
AppendsPart-then before between after first text more one (sent, rest, cut, some, two) = (
  first ++ sent,
  rest ++ more,
  ap (λ (t : List ℕ). first ++ (t ++ more)) cut ∙ ap (λ (t : List ℕ). first ++ t) (append_assoc sent rest more)
      ∙ sym (append_assoc first sent (rest ++ more)),
  omega (arith, length-append rest more),
  Appends-then before between after first sent one two,
)

-- the strings, around one of them
pub joined-around :
    (texts : List (Bor (List ℕ))) (at : ℕ) (d : Bor (List ℕ)) →
    at < length texts →
    joined texts ≡ joined (take at texts) ++ ((get_or texts at d).now ++ joined (drop (at + 1) texts))
joined-around texts at d inside =
    ap joined (sym (take-append-drop at texts))
    ∙ flat_map-append (λ (t : Bor (List ℕ)). t.now) (take at texts) (drop at texts)
    ∙ ap (λ (rest : List (Bor (List ℕ))). joined (take at texts) ++ joined rest) (drop_more texts at d inside)
