-- What is at the front of a reply's bytes: a head by the grammar of `httparse` (RFC 9112, sections 2 to 5),
-- of at most 16384 bytes and 100 fields; this project's profile.
use Rattle.std.specs.Prelude.{◌≡◌, ◌<◌, ◌≤◌, ◌⊎◌, ℕ, List, length, drop, map, Option, None, Some, Result, Ok, Err}
use Rattle.httparse.specs.Grammar.{ResponseHead, ReadsResponse, HasNoResponse, MayBecomeResponse, NeverHasResponse, print_response, status_code}
use Rattle.httparse.specs.Spans.{ResponseExceeds, name_and_value}
use Rattle.update_client.specs.declared.heads.fault.LinkFault.{LinkFault}
use Rattle.update_client.specs.declared.heads.fault.LinkFault.TheVariants as fault
use Rattle.update_client.specs.declared.heads.length.BodyLength.{BodyLength}
use Rattle.update_client.specs.declared.heads.start.Start.{Start}
use Rattle.update_client.specs.Lengths.{IsHeadFault, body_length}

-- how long the body after a head is, or why the head is rejected
abbrev pub length_after : ResponseHead → Result BodyLength LinkFault
length_after head = body_length head.minor (map name_and_value head.fields)

-- why the bytes begin with no head that is accepted: none, or one of too many fields
abbrev pub LacksHead : List ℕ → LinkFault → Type 0
LacksHead bytes fault.NoHead = NeverHasResponse bytes ⊎ ((16384 ≤ length bytes) × HasNoResponse bytes)
LacksHead bytes fault.ManyFields = ResponseExceeds 100 bytes
LacksHead bytes other = ⊥

-- rule: Head of a reply that is read
-- the head at the front, its status and the length of its body; less than a head; no head; or a head that is rejected
abbrev pub StartFound : List ℕ → Result (Option Start) LinkFault → Type 0
StartFound bytes (Ok (Some start)) = (head : ResponseHead) × ReadsResponse bytes head (drop start.head bytes)
    × (start.head ≡ length (print_response head)) × (status_code head ≡ start.status) × (length_after head ≡ Ok start.body)
StartFound bytes (Ok None) = (length bytes < 16384) × HasNoResponse bytes × MayBecomeResponse bytes
StartFound bytes (Err why) = IsHeadFault why
    × (LacksHead bytes why
    ⊎ ((head : ResponseHead) × (rest : List ℕ) × ReadsResponse bytes head rest × (length_after head ≡ Err why)))
