-- What a second look at an address or a file finds, and what is said of it; this project's profile.
use Rattle.std.specs.Prelude.{◌≡◌, ◌≢◌, ℕ, Bool, false, List, ◌++◌, codes, Option, Some, None}
use Rattle.streams.specs.Strings.{shown_string}
use Rattle.advice.specs.Addresses.{address_remedy, given_fault}
use Rattle.advice.specs.declared.addresses.AddressFault.{AddressFault}
use Rattle.advice.specs.declared.looks.Aim.{Aim}
use Rattle.advice.specs.declared.looks.Aim.TheVariants as aim
use Rattle.advice.specs.declared.looks.Seen.{Seen}
use Rattle.advice.specs.declared.looks.Seen.TheVariants as seen

-- what may be seen at an address or a path
abbrev pub Sights : Type 1
Sights = Aim → List ℕ → Seen → Type 0

-- rule: Second look
-- what is said of what was seen
abbrev pub seen_string : Seen → List ℕ
seen_string seen.Missing = codes "there is no such file or folder"
seen_string seen.Denied = codes "permission is denied"
seen_string seen.Refused = codes "nobody listens there: is the server running?"
seen_string seen.InUse = codes "the address is in use"
seen_string seen.NotLocal = codes "this machine has no such address"
seen_string seen.Unreachable = codes "the network doesn't reach it"
seen_string seen.NoHost = codes "no such host is known"
seen_string seen.TimedOut = codes "no reply came in time"
seen_string seen.Folder = codes "it is a folder"
seen_string seen.NoFolder = codes "it is no folder"
seen_string seen.Special = codes "it is no regular file"
seen_string seen.LongName = codes "its name is too long"
seen_string seen.Large = codes "it has more than 268435456 bytes"
seen_string seen.Listening = codes "somebody listens there: is it the operator's listener of an omaha server?"
seen_string seen.Unanswering =
    codes "somebody listens there, but no whole reply came: it may have taken effect, omaha status shows"
seen_string seen.Free = codes "the address is free now: try again"
seen_string seen.Readable = codes "it is a file that can be read; a script has at most 262144 bytes"
seen_string seen.Writable = codes "it can be written now: try again"
seen_string seen.Unmade = codes "there is no such file, and none can be made there: look at its folder"
seen_string seen.Other = codes "it can't be used"

-- a string from outside with what is said of it, and the word that explains it
abbrev pub look_string : List ℕ → List ℕ → List ℕ → List ℕ
look_string what said word =
    shown_string what ++ (codes ": " ++ (said ++ (codes " (omaha explain " ++ (word ++ codes ")"))))

-- what was seen of an address without a fault
abbrev pub IsLook : Sights → Aim → List ℕ → List ℕ → List ℕ → Type 0
IsLook sights aim what word said = (found : Seen) × sights aim what found × (said ≡ look_string what (seen_string found) word)

-- by the fault of an address
abbrev pub IsAddressLook : Sights → Aim → List ℕ → Option AddressFault → List ℕ → Type 0
IsAddressLook sights aim address (Some fault) said = said ≡ look_string address (address_remedy fault) (codes "net")
IsAddressLook sights aim address None said = IsLook sights aim address (codes "net") said

-- rule: Advice on an address
-- what is wrong with an address, which a server may have been given twice, else what a second look finds there
abbrev pub IsAddressAdvice : Sights → Aim → List ℕ → Bool → List ℕ → Type 0
IsAddressAdvice sights aim address is_twice said = IsAddressLook sights aim address (given_fault address is_twice) said

-- what a second look finds if nothing is wrong
abbrev pub wanted_of : Aim → Seen
wanted_of aim.Connect = seen.Listening
wanted_of aim.Post = seen.Unanswering
wanted_of aim.Bind = seen.Free
wanted_of aim.Read = seen.Readable
wanted_of aim.Append = seen.Writable
wanted_of aim.Enter = seen.Folder

-- what was seen in place of that
abbrev pub IsOddLook : Sights → Aim → List ℕ → List ℕ → List ℕ → Type 0
IsOddLook sights aim what word said =
    (found : Seen) × sights aim what found × (found ≢ wanted_of aim) × (said ≡ look_string what (seen_string found) word)

-- of the address of a server that didn't reply to a walk, by its fault
abbrev pub IsServerLook : Sights → List ℕ → Option AddressFault → List ℕ → Type 0
IsServerLook sights address (Some fault) said = said ≡ look_string address (address_remedy fault) (codes "U1")
IsServerLook sights address None said = IsOddLook sights aim.Connect address (codes "U1") said

-- what is wrong with that address, else what a second look finds there
abbrev pub IsServerAdvice : Sights → List ℕ → List ℕ → Type 0
IsServerAdvice sights address said = IsServerLook sights address (given_fault address false) said
