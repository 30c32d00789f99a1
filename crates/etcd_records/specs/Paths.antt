-- The path of a history in etcd, `etcd://HOST:PORT,HOST:PORT/PREFIX`; this project's profile.
use Rattle.std.specs.Prelude.{ℕ, ◌+◌, Bool, false, ◌&&◌, ◌||◌, ◌==◌, nat_lt, List, [], ◌∷◌, length, take, drop, Option, None, Some, Result, Ok, Err, if◌then◌else◌, bytes_eq, codes}
use Rattle.std.specs.List.{list_all, position_or_len, before_first, after_first}
use Rattle.std.specs.Char.{is_ascii_alphanumeric, is_ascii_digit, is_ascii_hexdigit}
use Rattle.std.specs.Str.Parse.{digits_value}
use Rattle.etcd_records.specs.declared.paths.fault.EtcdPathFault.{EtcdPathFault}
use Rattle.etcd_records.specs.declared.paths.fault.EtcdPathFault.TheVariants as fault
use Rattle.etcd_records.specs.declared.paths.path.EtcdPath.{EtcdPath}

-- a byte of a host's name: a letter, a digit, a hyphen or a dot
abbrev pub is_host_byte : ℕ → Bool
is_host_byte byte = is_ascii_alphanumeric byte || byte == 45 || byte == 46

-- a byte of an IPv6 address: a hexadecimal digit, a colon or a dot
abbrev pub is_literal_byte : ℕ → Bool
is_literal_byte byte = is_ascii_hexdigit byte || byte == 58 || byte == 46

-- visible ASCII
abbrev pub is_visible : ℕ → Bool
is_visible byte = nat_lt 32 byte && nat_lt byte 127

-- one byte or more, and each of them is allowed in a name
abbrev pub is_name : List ℕ → Bool
is_name host = nat_lt 0 (length host) && list_all is_host_byte host

-- the same of an IPv6 address
abbrev pub is_literal : List ℕ → Bool
is_literal host = nat_lt 0 (length host) && list_all is_literal_byte host

-- a port in decimal digits, from 1 to 65535
abbrev pub is_port : List ℕ → Bool
is_port digits = list_all is_ascii_digit digits && nat_lt 0 (digits_value 10 digits)
    && nat_lt (digits_value 10 digits) 65536

-- the bytes before and after the first such byte, if there is one
abbrev pub split_at : ℕ → List ℕ → Option (List ℕ × List ℕ)
split_at mark text =
    if nat_lt (position_or_len (λ byte. byte == mark) text) (length text) then
    Some (before_first (λ byte. byte == mark) text, after_first (λ byte. byte == mark) text)
    else None

-- a name, a colon and a port
abbrev pub is_named : Option (List ℕ × List ℕ) → Bool
is_named None = false
is_named (Some (host, port)) = is_name host && is_port port

-- a colon, before which there is nothing, and a port
abbrev pub is_port_after : Option (List ℕ × List ℕ) → Bool
is_port_after None = false
is_port_after (Some (gap, port)) = length gap == 0 && is_port port

-- an IPv6 address, a bracket, a colon and a port
abbrev pub is_bracketed : Option (List ℕ × List ℕ) → Bool
is_bracketed None = false
is_bracketed (Some (host, rest)) = is_literal host && is_port_after (split_at 58 rest)

-- a place without a bracket, or one that begins with a bracket
abbrev pub is_place : List ℕ → Option (List ℕ × List ℕ) → Bool
is_place text None = is_named (split_at 58 text)
is_place text (Some (before, inner)) = length before == 0 && is_bracketed (split_at 93 inner)

-- rule: Address of a server of etcd
-- `HOST:PORT`, where the host is a name, an IPv4 address, or an IPv6 address in brackets
unfoldable pub is_address : List ℕ → Bool
is_address text = is_place text (split_at 91 text)

-- a byte before the first of some strings
abbrev pub before_all : ℕ → List (List ℕ) → List (List ℕ)
before_all byte [] = (byte ∷ []) ∷ []
before_all byte (first ∷ others) = (byte ∷ first) ∷ others

-- the strings between commas
abbrev pub addresses_in : List ℕ → List (List ℕ)
addresses_in [] = [] ∷ []
addresses_in (byte ∷ rest) = if byte == 44 then [] ∷ addresses_in rest else before_all byte (addresses_in rest)

-- what is wrong with addresses, of which the first has this number: there are more than 16, or one isn't valid
abbrev pub addresses_fault : ℕ → List (List ℕ) → Option EtcdPathFault
addresses_fault number [] = None
addresses_fault number (first ∷ others) =
    if nat_lt 16 number then Some fault.ManyAddresses
    else if is_address first then addresses_fault (number + 1) others
    else Some (fault.BadAddress number)

-- what is wrong with what is before the prefix
abbrev pub hosts_fault : List ℕ → Option EtcdPathFault
hosts_fault hosts =
    if length hosts == 0 then Some fault.NoAddress else addresses_fault 1 (addresses_in hosts)

-- what is wrong with a prefix: it has no byte or more than 256, or one that isn't visible ASCII
abbrev pub prefix_fault : List ℕ → Option EtcdPathFault
prefix_fault prefix =
    if length prefix == 0 then Some fault.NoPrefix
    else if nat_lt 256 (length prefix) then Some fault.LongPrefix
    else if list_all is_visible prefix then None
    else Some fault.BadPrefix

-- what is before the prefix, and the prefix
pub record Parts : Type 0 where
  pub hosts : List ℕ
  pub prefix : List ℕ

-- the parts that a path has
abbrev pub parts_of : EtcdPath → Parts
parts_of path = record { hosts = path.hosts.now; prefix = path.prefix.now }

-- the parts, by the first fault of the addresses and that of the prefix
abbrev pub parts_by : List ℕ → List ℕ → Option EtcdPathFault → Option EtcdPathFault → Result Parts EtcdPathFault
parts_by hosts prefix (Some why) other = Err why
parts_by hosts prefix None (Some why) = Err why
parts_by hosts prefix None None = Ok (record { hosts = hosts; prefix = prefix })

-- the parts that are before and after the first slash; without one there is no prefix
abbrev pub parts_at : List ℕ → Option (List ℕ × List ℕ) → Result Parts EtcdPathFault
parts_at rest None = parts_by rest [] (hosts_fault rest) (prefix_fault [])
parts_at rest (Some (hosts, prefix)) = parts_by hosts prefix (hosts_fault hosts) (prefix_fault prefix)

-- a path names a history in etcd, or would if it were valid
abbrev pub is_etcd_path : List ℕ → Bool
is_etcd_path path = bytes_eq (take 7 path) (codes "etcd://")

-- the parts of what follows the scheme
abbrev pub parts_after : List ℕ → Result Parts EtcdPathFault
parts_after rest = parts_at rest (split_at 47 rest)

-- rule: Path of a history in etcd
-- the parts of a path that begins with `etcd://`, or why it is invalid; another path has none
unfoldable pub etcd_path_in : List ℕ → Option (Result Parts EtcdPathFault)
etcd_path_in path = if is_etcd_path path then Some (parts_after (drop 7 path)) else None
