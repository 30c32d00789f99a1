-- What a line of the log says of a reply, by what is kept of it; this project's profile.
use Rattle.std.specs.Prelude.{◌≡◌, ◌⊎◌, ◌<◌, ◌≤◌, ◌-◌, ◌^◌, ◌==◌, ◌||◌, ℕ, Bool, false, min, List, [], ◌∷◌, bytes_eq, codes, length, map, take, Option, None, Some, option_map, if◌then◌else◌}
use Rattle.std.specs.Char.{to_ascii_lowercase}
use Rattle.httparse.specs.Grammar.{ReadsRequest, ReadsResponse, RequestHead, ResponseHead, print_response, status_code}
use Rattle.httparse.specs.Spans.{name_and_value}
use Rattle.access_logs.specs.Lines.{IsLine}
use Rattle.access_logs.specs.Replies.{Piece}
use Rattle.access_logs.specs.declared.entry.Entry.{Entry}

-- the byte ends a line
abbrev pub ends_line : ℕ → Bool
ends_line byte = byte == 13 || byte == 10

-- the bytes up to the end of a line
abbrev pub up_to_end : List ℕ → List ℕ
up_to_end [] = []
up_to_end (byte ∷ bytes) = if ends_line byte then [] else byte ∷ up_to_end bytes

-- the first line that isn't empty, without its end
abbrev pub first_line : List ℕ → List ℕ
first_line [] = []
first_line (byte ∷ bytes) = if ends_line byte then first_line bytes else byte ∷ up_to_end bytes

-- what is kept of bytes: at most so many of the first ones; fewer only if memory ran out
pub record IsKept (most : ℕ) (is_short : Bool) (bytes kept : List ℕ) : Type 0 where
  pub first : kept ≡ take (length kept) bytes
  pub within : length kept ≤ most
  pub whole : is_short ≡ false → kept ≡ take most bytes

-- how many bytes a reply has, up to 2^64 - 1
abbrev pub size_of : List ℕ → ℕ
size_of reply = min (length reply) (2 ^ 64 - 1)

-- by the first bytes of a reply that has so many: the status that its head says, and how many bytes follow the head;
-- or, of a reply that doesn't begin with a whole head of up to 64 fields, no status and no bytes
abbrev pub IsOutcome : List ℕ → ℕ → Entry → Type 0
IsOutcome kept size entry =
    ((head : ResponseHead) × (rest : List ℕ) × ReadsResponse kept head rest × (entry.status ≡ Some (status_code head))
    × (entry.size ≡ size - length (print_response head)))
    ⊎ (((head : ResponseHead) (rest : List ℕ) → ReadsResponse kept head rest → 64 < length head.fields)
    × (entry.status ≡ None) × (entry.size ≡ 0))

-- a field's name and value: the name is this one, in any case
abbrev pub is_named : List ℕ → List ℕ × List ℕ → Bool
is_named name field = bytes_eq (map to_ascii_lowercase field.0) (map to_ascii_lowercase name)

-- the value of the first field of this name
abbrev pub value_named : List ℕ → List (List ℕ × List ℕ) → Option (List ℕ)
value_named name [] = None
value_named name (field ∷ fields) = if is_named name field then Some field.1 else value_named name fields

-- by the first bytes of a message: the page that referred to it and the program that asks, as its head says; or none,
-- of a message that doesn't begin with a head of up to 64 fields
abbrev pub IsAsker : List ℕ → Option (List ℕ) → Option (List ℕ) → Type 0
IsAsker kept referrer agent =
    ((head : RequestHead) × (rest : List ℕ) × ReadsRequest kept head rest
    × (referrer ≡ value_named (codes "referer") (map name_and_value head.fields))
    × (agent ≡ value_named (codes "user-agent") (map name_and_value head.fields)))
    ⊎ (((head : RequestHead) (rest : List ℕ) → ReadsRequest kept head rest → 64 < length head.fields)
    × (referrer ≡ None) × (agent ≡ None))

-- what an entry says of a reply, by what is kept of its message and of itself
pub record IsEntry (message reply : List ℕ) (size : ℕ) (entry : Entry) : Type 0 where
  pub line : entry.line.now ≡ first_line message
  pub outcome : IsOutcome reply size entry
  pub asker : IsAsker message (option_map (λ b. b.now) entry.referrer) (option_map (λ b. b.now) entry.agent)

-- rule: Line of a reply
-- the line is of this reply; its address and time are any
pub record IsLineOf (is_short : Bool) (piece : Piece) (line : List ℕ) : Type 0 where
  pub message : List ℕ
  pub reply : List ℕ
  pub entry : Entry
  pub keeps_message : IsKept 16384 is_short piece.message message
  pub keeps_reply : IsKept 1024 is_short piece.reply reply
  pub says : IsEntry message reply (size_of piece.reply) entry
  pub prints : IsLine entry line
