-- What a line of the log has of a message; this project's profile.
use Rattle.std.specs.Prelude.{◌≡◌, ◌++◌, ◌+◌, ◌&&◌, ◌/◌, ◌%◌, ℕ, Bool, not, nat_eq, nat_lt, if◌then◌else◌, List, [], ◌∷◌, codes, decimal, flat_map, Option, None, Some}
use Rattle.std.specs.Option.{option_map}
use Rattle.std.specs.Net.Text.{ip_text}
use Rattle.std.specs.declared.net.ip_addr.IpAddr.{IpAddr}
use Rattle.access_logs.specs.declared.entry.Entry.{Entry}

-- a byte that is printed as it is: of printable ASCII, and no quote and no backslash
abbrev pub is_plain : ℕ → Bool
is_plain byte = nat_lt 31 byte && nat_lt byte 127 && not (nat_eq byte 34) && not (nat_eq byte 92)

-- a hexadecimal digit
abbrev pub digit_of : ℕ → ℕ
digit_of value = if nat_lt value 10 then 48 + value else 55 + value

-- a byte as it is printed: itself, or `\x` and two digits
abbrev pub escaped_byte : ℕ → List ℕ
escaped_byte byte = if is_plain byte then byte ∷ [] else 92 ∷ 120 ∷ digit_of (byte / 16) ∷ digit_of (byte % 16) ∷ []

abbrev pub escaped : List ℕ → List ℕ
escaped bytes = flat_map escaped_byte bytes

-- bytes in quotes, or a dash
abbrev pub quoted : Option (List ℕ) → List ℕ
quoted (Some bytes) = 34 ∷ escaped bytes ++ 34 ∷ []
quoted None = 34 ∷ 45 ∷ 34 ∷ []

-- the status of a reply, or a dash, and the size of its body
abbrev pub outcome_string : Option ℕ → ℕ → List ℕ
outcome_string (Some status) size = codes " " ++ decimal status ++ codes " " ++ decimal size ++ codes " "
outcome_string None size = codes " - " ++ decimal size ++ codes " "

-- the address of a client, or a dash, up to the time of its reply
abbrev pub start_string : Option IpAddr → List ℕ
start_string (Some address) = ip_text address ++ codes " - - ["
start_string None = codes "- - - ["

-- rule: Line of the log
-- the address and a time, the first line of the message, the status, the size, the referrer and the agent; the time and
-- all that comes from a client are escaped, so the one line feed is the last byte
abbrev pub IsLine : Entry → List ℕ → Type 0
IsLine entry line =
    (time : List ℕ)
    × (line
    ≡ start_string entry.address ++ escaped time ++ codes "] " ++ quoted (Some entry.line.now)
    ++ outcome_string entry.status entry.size
    ++ quoted (option_map (λ b. b.now) entry.referrer) ++ 32 ∷ quoted (option_map (λ b. b.now) entry.agent) ++ 10 ∷ [])
