-- What is wrong with an address of the command line, which is HOST:PORT, with an IPv6 address in brackets, or unix:PATH;
-- this project's profile.
use Rattle.std.specs.Prelude.{ℕ, ◌==◌, ◌||◌, Bool, if◌then◌else◌, List, codes, length, nat_eq, nat_lt, Option, Some, None}
use Rattle.std.specs.List.{after_first, list_any, starts_with}
use Rattle.std.specs.Option.{option_or}
use Rattle.omaha_arguments.specs.Options.{number_of}
use Rattle.advice.specs.declared.addresses.AddressFault.{AddressFault}
use Rattle.advice.specs.declared.addresses.AddressFault.TheVariants as fault

abbrev pub is_colon : ℕ → Bool
is_colon byte = byte == 58

abbrev pub is_slash : ℕ → Bool
is_slash byte = byte == 47

abbrev pub is_bracket : ℕ → Bool
is_bracket byte = byte == 93

-- the address names a socket
abbrev pub is_socket : List ℕ → Bool
is_socket address = starts_with nat_eq address (codes "unix:")

-- the address begins with a scheme
abbrev pub has_scheme : List ℕ → Bool
has_scheme address = starts_with nat_eq address (codes "http://") || starts_with nat_eq address (codes "https://")

-- the address has nothing before its port
abbrev pub has_no_host : List ℕ → Bool
has_no_host address = starts_with nat_eq address (codes ":")

-- the address begins with an IPv6 address
abbrev pub has_literal : List ℕ → Bool
has_literal address = starts_with nat_eq address (codes "[")

-- what is after the address's bracket, or all of it
abbrev pub tail_of : List ℕ → List ℕ
tail_of address = if has_literal address then after_first is_bracket address else address

-- the string has a colon
abbrev pub has_colon : List ℕ → Bool
has_colon text = list_any is_colon text

-- what is wrong with a port
abbrev pub fault_of_number : Option ℕ → Option AddressFault
fault_of_number None = Some fault.BadPort
fault_of_number (Some number) = if nat_lt number 65536 then None else Some fault.HighPort

abbrev pub fault_of_port : List ℕ → Option AddressFault
fault_of_port port = if length port == 0 then Some fault.NoPort else fault_of_number (number_of port)

-- what is wrong with a host and a port
abbrev pub fault_of_pair : List ℕ → Option AddressFault
fault_of_pair address =
    if has_colon (tail_of address) then fault_of_port (after_first is_colon (tail_of address)) else Some fault.NoPort

-- the same, of which there may be no host
abbrev pub fault_of_place : List ℕ → Option AddressFault
fault_of_place address =
    option_or (fault_of_pair address) (if has_no_host address then Some fault.NoHost else None)

-- rule: Fault of an address
-- an empty string, a socket without a path, a scheme, a path, no port, a port that is no number, one above 65535, or no host
abbrev pub address_fault : List ℕ → Option AddressFault
address_fault address =
    if length address == 0 then Some fault.Empty
    else if is_socket address then (if length address == 5 then Some fault.NoPath else None)
    else if has_scheme address then Some fault.Scheme
    else if list_any is_slash address then Some fault.Path
    else fault_of_place address

-- the same of an address that a server may have been given twice
abbrev pub given_fault : List ℕ → Bool → Option AddressFault
given_fault address is_twice = option_or (address_fault address) (if is_twice then Some fault.Twice else None)

-- what to do about it
abbrev pub address_remedy : AddressFault → List ℕ
address_remedy fault.Empty = codes "the address is empty: write HOST:PORT, or unix:PATH"
address_remedy fault.NoPath = codes "unix: has no path: write unix:PATH"
address_remedy fault.Scheme = codes "write HOST:PORT, without http:// and a path"
address_remedy fault.Path = codes "write HOST:PORT, without a path"
address_remedy fault.NoPort = codes "it has no port: write HOST:PORT, or unix:PATH"
address_remedy fault.BadPort = codes "its port is no number: write HOST:PORT, or unix:PATH"
address_remedy fault.HighPort = codes "its port is above 65535"
address_remedy fault.NoHost = codes "it has no host: write HOST:PORT, such as 127.0.0.1:8080"
address_remedy fault.Twice = codes "--listen and --operator have this address: give each its own"
