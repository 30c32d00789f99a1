-- What is said of an invalid entry of a profile or a script; this project's profile.
use Rattle.std.specs.Prelude.{ℕ, if◌then◌else◌, List, [], ◌∷◌, ◌++◌, codes, decimal, length, nat_eq, nat_lt, Option, Some, None, option_map}
use Rattle.std.specs.List.{find, list_any}
use Rattle.std.specs.Option.{option_or}
use Rattle.std.specs.Str.{bytes_eq, chars}
use Rattle.streams.specs.Strings.{shown_string}
use Rattle.strsim.specs.Edits.{levenshtein_row}
use Rattle.advice.specs.Places.{Found}
use Rattle.advice.specs.Spots.{Spot, found_at, spot_of, verb_at}
use Rattle.advice.specs.Tables.{form_of, keys_of, kind_words, words_of}
use Rattle.advice.specs.declared.tables.Kind.{Kind}
use Rattle.advice.specs.declared.tables.Kind.TheVariants as kind
use Rattle.advice.specs.declared.entries.What.{What}
use Rattle.advice.specs.declared.entries.What.TheVariants as what

-- the line, if it is known
abbrev pub line_string : Option ℕ → List ℕ
line_string None = codes ": "
line_string (Some line) = codes ":" ++ (decimal line ++ codes ": ")

-- rule: Place of a fault
-- a file as it is shown, and the line, if it is known
abbrev pub place_string : List ℕ → Option ℕ → List ℕ
place_string file line = shown_string file ++ line_string line

-- how many characters have to be changed, added or left out to make one string of another
abbrev pub distance : List ℕ → List ℕ → ℕ
distance word key = levenshtein_row nat_eq (chars word) (chars key) (length (chars key))

-- the first word from which so few changes lead to a key
abbrev pub near_within : ℕ → List ℕ → List (List ℕ) → Option (List ℕ)
near_within limit key words = find (λ word. nat_lt (distance word key) limit) words

-- rule: Nearest key
-- the first word at one change from a key, else the first at two
abbrev pub near_key : List ℕ → List (List ℕ) → Option (List ℕ)
near_key key words = option_or (near_within 2 key words) (near_within 3 key words)

-- a key that only the other kind of document has
abbrev pub hint_of : Kind → List ℕ → Option (List ℕ)
hint_of kind.Profile key =
    if list_any (bytes_eq key) (codes "base" ∷ codes "edit" ∷ []) then
    Some (codes "is this a script? try omaha check PROFILE --script FILE") else None
hint_of kind.Script key =
    if list_any (bytes_eq key) (codes "app" ∷ codes "mirror" ∷ []) then
    Some (codes "is this a profile? a script has the keys schema, base and edit") else None
hint_of other key = None

-- what is said of an entry's path
abbrev pub what_string : List ℕ → What → List ℕ
what_string path (what.Mistaken of hint) =
    shown_string path ++ (codes " is no key of " ++ (kind_words of ++ (codes ": " ++ hint.now)))
what_string path (what.Near of near) =
    shown_string path ++ (codes " is no key of " ++ (kind_words of ++ (codes ": did you mean " ++ (near.now ++ codes "?"))))
what_string path (what.Unknown of keys) =
    shown_string path ++ (codes " is no key of " ++ (kind_words of ++ (codes ", which has: " ++ keys.now)))
what_string path (what.Value value form) =
    shown_string path ++ (codes " is " ++ (shown_string value.now ++ (codes ": write " ++ form.now)))
what_string path (what.Absent form) =
    codes "no line sets " ++ (shown_string path ++ (codes ": write " ++ form.now))
what_string path (what.Unseen form) = shown_string path ++ (codes ": write " ++ form.now)

-- an unknown key, by the nearest one
abbrev pub unknown_string : Kind → List ℕ → List ℕ → Option (List ℕ) → List ℕ
unknown_string of keys path None =
    shown_string path ++ (codes " is no key of " ++ (kind_words of ++ (codes ", which has: " ++ keys)))
unknown_string of keys path (Some near) =
    shown_string path ++ (codes " is no key of " ++ (kind_words of ++ (codes ": did you mean " ++ (near ++ codes "?"))))

-- an unknown key, by the hint that there may be
abbrev pub stray_string : Kind → List ℕ → List ℕ → List ℕ → Option (List ℕ) → List ℕ
stray_string of keys key path None = unknown_string of keys path (near_key key (words_of keys))
stray_string of keys key path (Some hint) =
    shown_string path ++ (codes " is no key of " ++ (kind_words of ++ (codes ": " ++ hint)))

-- a known key that no line sets, of a table whose header is known or not
abbrev pub absent_string : List ℕ → List ℕ → Option ℕ → List ℕ
absent_string form path None = shown_string path ++ (codes ": write " ++ form)
absent_string form path (Some first) = codes "no line sets " ++ (shown_string path ++ (codes ": write " ++ form))

-- a known key, by its table's header and by the line that sets it
abbrev pub known_string : List ℕ → List ℕ → Option ℕ → Option Found → List ℕ
known_string form path first None = absent_string form path first
known_string form path first (Some found) =
    shown_string path ++ (codes " is " ++ (shown_string found.value ++ (codes ": write " ++ form)))

-- an entry, by the keys of its table
abbrev pub entry_with : List ℕ → List (List ℕ) → Spot → List ℕ → List ℕ
entry_with keys lines spot path =
    if list_any (bytes_eq spot.key) (words_of keys) then
    known_string (form_of spot.kind spot.key) path spot.first (found_at lines spot)
    else stray_string spot.kind keys spot.key path (hint_of spot.kind spot.key)

-- an entry by its spot
abbrev pub entry_at : List (List ℕ) → Spot → List ℕ → List ℕ
entry_at lines spot path = entry_with (keys_of spot.kind (verb_at lines spot)) lines spot path

-- the line before a table's first one, if it has a header
abbrev pub header_line : Option ℕ → Option ℕ
header_line None = None
header_line (Some first) = if nat_lt 0 first then Some first else None

-- the line of an entry: that of its key, else that of its table's header
abbrev pub entry_line : List (List ℕ) → Spot → Option ℕ
entry_line lines spot = option_or (option_map (λ found. found.line) (found_at lines spot)) (header_line spot.first)

-- an entry by its spot, with the place and the code
unfoldable pub entry_said : List ℕ → List ℕ → List (List ℕ) → Spot → List ℕ → List ℕ
entry_said code file lines spot path =
    place_string file (entry_line lines spot)
    ++ (entry_at lines spot path ++ (codes " (omaha explain " ++ (code ++ codes ")")))

-- rule: Advice on an entry
-- the place of the entry of a path, and whether its key is unknown, has another form, or is missing; and the code
-- that explains it
abbrev pub entry_advice : List ℕ → List ℕ → List (List ℕ) → Kind → List ℕ → List ℕ
entry_advice code file lines document path = entry_said code file lines (spot_of lines document path) path
