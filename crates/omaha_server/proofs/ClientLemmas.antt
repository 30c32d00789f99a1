-- What ports serve by, one for each worker, and their senders to the log.
use Rattle.std.proofs.Common.{◌≡◌, ◌∙◌, ◌↔◌, ℕ, suc, ◌+◌, ◌<◌, Bool, true, false, List, [], ◌∷◌, ◌++◌, Option, Some, None, ap, append-nil, append_assoc, arith, if◌then◌else◌, is_some, length, option_to_list, refl, sym}
use Rattle.std.proofs.lemmas.List.{length-append}
use Rattle.access_logs.specs.Queues.{Sending}
use Rattle.server_ports.specs.Logging.{those_of}
use Rattle.omaha_server.proofs.SenderLemmas.{those_of-more}

-- a port of a server whose replies are logged has a sender, and each other port none
pub next_so :
    {A : Type 0} (log : Bool) (line : Option A) (size left : ℕ) → is_some line ≡ true ↔ (0 < size) →
    size ≡ (if log then suc left else 0) → is_some line ≡ log
next_so true (Some a) size left variant sized = refl
next_so true None size left variant sized = variant.1 (omega (arith, sized))
next_so false (Some a) size left variant sized =
    let more = variant.0 refl in absurd (omega (arith, more, sized))
next_so false None size left variant sized = refl

-- so many senders are left
pub left_so :
    {A : Type 0} (log : Bool) (line : Option A) (size more left : ℕ) → is_some line ≡ log →
    more + length (option_to_list line) ≡ size → size ≡ (if log then suc left else 0) → more ≡ (if log then left else 0)
left_so true (Some a) size more left is len sized = omega (arith, len, sized)
left_so true None size more left is len sized = cc is
left_so false (Some a) size more left is len sized = cc is
left_so false None size more left is len sized = omega (arith, len, sized)

-- the list that a sender was the first of
pub still_sized :
    {A : Type 0} (line : Option A) (items rest : List A) (size more : ℕ) → items ≡ option_to_list line ++ rest →
    more + length (option_to_list line) ≡ size → size ≡ length items → more ≡ length rest
still_sized line items rest size more is len sized =
    let sum = length-append (option_to_list line) rest in
    let all = ap length is in omega (arith, sum, all, len, sized)

-- the senders of the clients so far, and those that are left
pub lines_so :
    (lines : List (Option Sending)) (line own : Option Sending) (items rest all : List Sending) → own ≡ line →
    items ≡ option_to_list line ++ rest → those_of lines ++ items ≡ all → those_of (lines ++ own ∷ []) ++ rest ≡ all
lines_so lines line own items rest all same is before =
    ap (λ (these : List Sending). these ++ rest) (those_of-more lines own ∙ ap (λ (o : Option Sending). those_of lines ++ option_to_list o) same)
    ∙ append_assoc (those_of lines) (option_to_list line) rest
    ∙ ap (λ (these : List Sending). those_of lines ++ these) (sym is) ∙ before

-- no port is left, and so no sender
pub none_left :
    (log : Bool) (ports size many : ℕ) → ports ≡ 0 → size ≡ (if log then ports else 0) → size ≡ many → many ≡ 0
none_left true ports size many none is sized = omega (arith, none, is, sized)
none_left false ports size many none is sized = omega (arith, is, sized)

-- none is left
pub lines_all : (lines : List (Option Sending)) (items all : List Sending) → length items ≡ 0 → those_of lines ++ items ≡ all → those_of lines ≡ all
lines_all lines [] all none before = sym (append-nil (those_of lines)) ∙ before
lines_all lines (item ∷ items) all none before = cc none
