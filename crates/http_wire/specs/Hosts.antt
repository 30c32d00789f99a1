-- Which messages are sent to this machine by the name of another (RFC 9110, section 7.2); which names are its own is this
-- project's profile.
use Rattle.std.specs.Prelude.{ℕ, Bool, ◌||◌, ◌&&◌, ◌==◌, not, List, codes}
use Rattle.std.specs.List.{list_all, list_any}
use Rattle.std.specs.Char.{is_ascii_digit}
use Rattle.http_wire.specs.Fields.{Pair, is_named, is_same_word}
use Rattle.http_wire.specs.Targets.{before}

-- a byte of a literal address before its first colon: a digit, a dot, or the bracket before an IPv6 address
abbrev pub is_literal_byte : ℕ → Bool
is_literal_byte byte = is_ascii_digit byte || byte == 46 || byte == 91

-- what a `Host` field names before its first colon
abbrev pub host_in : List ℕ → List ℕ
host_in value = before 58 value

-- a host that no name of another machine can be: `localhost`, in any case, or a literal address
abbrev pub is_near : List ℕ → Bool
is_near host = is_same_word host (codes "localhost") || list_all is_literal_byte host

-- a `Host` field that names another machine
abbrev pub is_foreign : Pair → Bool
is_foreign field = is_named (codes "host") field && not (is_near (host_in field.1))

-- rule: Message for another host
-- a field is one
abbrev pub is_for_another : List Pair → Bool
is_for_another fields = list_any is_foreign fields
