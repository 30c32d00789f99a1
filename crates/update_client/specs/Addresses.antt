-- The address of a download: an `http` URL (RFC 3986, section 3; RFC 9110, section 4.2.1). That the scheme is
-- in small letters, and that there is neither user information nor a fragment, is this project's profile.
use Rattle.std.specs.Prelude.{ℕ, Bool, ◌&&◌, ◌||◌, ◌==◌, not, nat_lt, List, length, Option, None, Some, Result, Ok, Err, if◌then◌else◌, bytes_eq, codes}
use Rattle.std.specs.List.{list_all, position_or_len, before_first, after_first}
use Rattle.std.specs.Char.{is_ascii_alphanumeric, is_ascii_hexdigit}
use Rattle.update_client.specs.declared.heads.fault.LinkFault.{LinkFault}
use Rattle.update_client.specs.Lengths.{length_in}
use Rattle.update_client.specs.declared.heads.address.Address.{Address}

-- a byte of a host's name: a letter, a digit, or one of `-._`
abbrev pub is_host_byte : ℕ → Bool
is_host_byte byte = is_ascii_alphanumeric byte || byte == 45 || byte == 46 || byte == 95

-- a byte of an IPv6 address: a hexadecimal digit, a colon or a dot
abbrev pub is_literal_byte : ℕ → Bool
is_literal_byte byte = is_ascii_hexdigit byte || byte == 58 || byte == 46

-- a byte of a path: visible ASCII, and no `#`
abbrev pub is_path_byte : ℕ → Bool
is_path_byte byte = nat_lt 32 byte && nat_lt byte 127 && not (byte == 35)

-- each byte is allowed in a path
abbrev pub is_path : List ℕ → Bool
is_path path = list_all is_path_byte path

-- a host and a port
abbrev pub Place : Type 0
Place = List ℕ × ℕ

-- an address in its parts
pub record Parts : Type 0 where
  pub authority : List ℕ
  pub host : List ℕ
  pub port : ℕ
  pub path : List ℕ

-- the parts that an address has
abbrev pub parts_of : Address → Parts
parts_of address = record {
  authority = address.authority.now;
  host = address.host.now;
  port = address.port;
  path = address.path.now;
}

-- the bytes before and after the first such byte, if there is one
abbrev pub split_at : ℕ → List ℕ → Option (List ℕ × List ℕ)
split_at mark text =
    if nat_lt (position_or_len (λ byte. byte == mark) text) (length text) then
    Some (before_first (λ byte. byte == mark) text, after_first (λ byte. byte == mark) text)
    else None

-- a number as a port, if it is below 65536
abbrev pub port_of : Result ℕ LinkFault → Option ℕ
port_of (Ok number) = if nat_lt number 65536 then Some number else None
port_of (Err why) = None

-- the number of a port: decimal digits, below 65536
abbrev pub port_in : List ℕ → Option ℕ
port_in text = port_of (length_in text)

-- one byte or more, and each of them is allowed in a name
abbrev pub is_name : List ℕ → Bool
is_name host = nat_lt 0 (length host) && list_all is_host_byte host

-- the same of an IPv6 address
abbrev pub is_literal : List ℕ → Bool
is_literal host = nat_lt 0 (length host) && list_all is_literal_byte host

-- the host with that port, if both are valid
abbrev pub place_at : Bool → List ℕ → Option ℕ → Option Place
place_at valid host None = None
place_at valid host (Some port) = if valid then Some (host, port) else None

-- the port after a colon, which nothing is before
abbrev pub port_by : Option (List ℕ × List ℕ) → Option ℕ
port_by None = None
port_by (Some (gap, digits)) = if length gap == 0 then port_in digits else None

-- nothing, or a colon and a port
abbrev pub port_after : List ℕ → Option ℕ
port_after rest = if length rest == 0 then Some 80 else port_by (split_at 58 rest)

-- a name, or a name, a colon and a port
abbrev pub named_by : List ℕ → Option (List ℕ × List ℕ) → Option Place
named_by text None = place_at (is_name text) text (Some 80)
named_by text (Some (host, digits)) = place_at (is_name host) host (port_in digits)

-- an IPv6 address, a bracket and perhaps a port
abbrev pub literal_by : Option (List ℕ × List ℕ) → Option Place
literal_by None = None
literal_by (Some (host, rest)) = place_at (is_literal host) host (port_after rest)

-- what an authority without a bracket names, or one that begins with a bracket
abbrev pub place_by : List ℕ → Option (List ℕ × List ℕ) → Option Place
place_by text None = named_by text (split_at 58 text)
place_by text (Some (before, inner)) = if length before == 0 then literal_by (split_at 93 inner) else None

-- the host and the port that an authority names
unfoldable pub place_in : List ℕ → Option Place
place_in text = place_by text (split_at 91 text)

-- the parts of an address by its place and its path
abbrev pub parts_at : List ℕ → List ℕ → Option Place → Option Parts
parts_at authority path None = None
parts_at authority path (Some (host, port)) =
    if is_path path then Some (record { authority = authority; host = host; port = port; path = path })
    else None

-- the parts, by what is before and after the slash that ends the authority
abbrev pub parts_by : Option (List ℕ × List ℕ) → Option Parts
parts_by None = None
parts_by (Some (authority, path)) = parts_at authority path (place_in authority)

-- the parts, by what is before and after the second slash
abbrev pub parts_after : Option (List ℕ × List ℕ) → Option Parts
parts_after None = None
parts_after (Some (gap, rest)) = if length gap == 0 then parts_by (split_at 47 rest) else None

-- the parts, by what is before and after the first slash
abbrev pub parts_after_scheme : Option (List ℕ × List ℕ) → Option Parts
parts_after_scheme None = None
parts_after_scheme (Some (scheme, rest)) =
    if bytes_eq scheme (codes "http:") then parts_after (split_at 47 rest) else None

-- rule: Parts of an address
-- the parts of `http://AUTHORITY/PATH`; another string has none
unfoldable pub address_in : List ℕ → Option Parts
address_in text = parts_after_scheme (split_at 47 text)
