-- The body of a download, which a link hands on in parts; this project's profile.
use Rattle.std.specs.Prelude.{◌≡◌, ◌+◌, ◌⊎◌, ℕ, List, [], ◌++◌, take, drop, Option, Result, Ok, Err}
use Rattle.std.specs.Io.KnownBytes.{Consumes, IsAtEnd, Keeps}
use Rattle.update_client.specs.declared.body.Body.{Body}
use Rattle.update_client.specs.declared.heads.length.BodyLength.TheVariants as lengths
use Rattle.update_client.specs.declared.heads.fault.LinkFault.{LinkFault}
use Rattle.update_client.specs.declared.heads.fault.LinkFault.TheVariants as fault
use Rattle.update_client.specs.Replies.{Announces, HeadFails}

-- the bytes that were read after the head, and not yet handed on
abbrev pub waiting : Body → List ℕ
waiting body = drop body.at body.held.items

-- how many bytes are still to come, by the announced length
abbrev pub left_of : Body → ℕ
left_of body = body.left

-- rule: Body that a link opens
-- the head announces the body, and what was read after it waits; or why there is none: it is chunked, among others
abbrev pub BodyOpened : Option (List ℕ) → Option (List ℕ) → Result Body LinkFault → Type 0
BodyOpened old new (Ok body) =
    (bytes : List ℕ) × Consumes old new bytes × Announces bytes 200 (lengths.Known (left_of body)) (waiting body)
BodyOpened old new (Err fault.Status) = (bytes : List ℕ) × (code : ℕ) × (size : ℕ) × (rest : List ℕ)
    × Consumes old new bytes × Announces bytes code (lengths.Known size) rest × (code ≡ 200 → ⊥)
BodyOpened old new (Err fault.TransferCoding) = (bytes : List ℕ)
    × (HeadFails old new bytes fault.TransferCoding
    ⊎ ((code : ℕ) × (rest : List ℕ) × Consumes old new bytes × Announces bytes code lengths.Chunked rest))
BodyOpened old new (Err why) = (bytes : List ℕ) × HeadFails old new bytes why

-- the announced length is kept; or the input ended before
abbrev pub Counts : Option (List ℕ) → Body → Body → ℕ → Type 0
Counts left before after count = (left_of before ≡ left_of after + count)
    ⊎ ((count ≡ 0) × (left_of after ≡ 0) × (waiting after ≡ []) × IsAtEnd left)

-- rule: Body that a link hands on
-- the next bytes of the input were handed on, no more than were announced; or a read failed
abbrev pub PartRead : {E : Type 0} →
    Option (List ℕ) → Option (List ℕ) → Body → Body → List ℕ → Result ℕ E → Type 0
PartRead old new before after into (Ok count) =
    (bytes : List ℕ) × Consumes old new bytes
    × (waiting before ++ bytes ≡ take count into ++ waiting after) × Counts new before after count
PartRead old new before after into (Err failed) =
    Keeps old new × (waiting after ≡ waiting before) × (left_of after ≡ left_of before)
