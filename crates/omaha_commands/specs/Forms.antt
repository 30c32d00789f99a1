-- What an operator's listener of an omaha server replies to the body of a command; this project's profile.
use Rattle.std.specs.Prelude.{ℕ, ◌-◌, ◌==◌, ◌&&◌, ◌||◌, Bool, true, false, List, bytes_eq, codes, drop, length, nat_eq, take, if◌then◌else◌, Option, Some, None, Result, Ok, Err}
use Rattle.std.specs.List.{after_first, before_first, starts_with}
use Rattle.std.specs.Option.{is_some}
use Rattle.std.specs.Str.{is_utf8}
use Rattle.catalogue.specs.declared.edit.Edit.{Edit}
use Rattle.catalogue.specs.declared.mirror.Mirror.{Mirror}
use Rattle.omaha_arguments.specs.Options.{number_of}
use Rattle.operator_pages.specs.Health.{stopping_line}
use Rattle.profile_toml.specs.Reading.{profile_of_bytes}
use Rattle.profile_toml.specs.declared.fault.ProfileFault.{ProfileFault}
use Rattle.service_desks.specs.Following.{follow_word}
use Rattle.service_desks.specs.Operators.{dump_word}
use Rattle.service_desks.specs.Raises.{is_raise, line_of}
use Rattle.update_client.specs.declared.posting.Reply.{Reply}
use Rattle.omaha_commands.specs.declared.forms.Meaning.{Meaning}
use Rattle.omaha_commands.specs.declared.forms.Meaning.TheVariants as meaning

-- the bytes without the line feed at their end, if there is one
abbrev pub before_feed : List ℕ → Option (List ℕ)
before_feed rest =
    if bytes_eq (drop (length rest - 1) rest) (codes "\n") then Some (take (length rest - 1) rest) else None

-- the bytes between a word and the line feed at the end of a reply
abbrev pub line_after : List ℕ → List ℕ → Option (List ℕ)
line_after word reply = if bytes_eq (take (length word) reply) word then before_feed (drop (length word) reply) else None

-- there are bytes, and they are the decimal digits of a number
abbrev pub are_digits : Option (List ℕ) → Bool
are_digits None = false
are_digits (Some digits) = is_some (number_of digits)

-- the reply is a line of a word and a number
abbrev pub is_numbered : List ℕ → List ℕ → Bool
is_numbered word reply = are_digits (line_after word reply)

-- the reply is one to a look for a record of another server
abbrev pub is_followed : List ℕ → Bool
is_followed reply = is_numbered (codes "followed ") reply || is_numbered (codes "edition ") reply

-- the line is there, and it is this one
abbrev pub is_line : List ℕ → Option (List ℕ) → Bool
is_line line None = false
is_line line (Some said) = bytes_eq said line

-- the reply says that the raise was made which a body asked for: `raised`, and the name and the budget that the body has
abbrev pub is_raised : List ℕ → List ℕ → Bool
is_raised body reply = is_line (line_of body) (line_after (codes "raised ") reply)

-- the end of a line
abbrev pub is_feed : ℕ → Bool
is_feed byte = byte == 10

-- the first line of a string, and what follows it
abbrev pub first_line : List ℕ → List ℕ
first_line text = before_first is_feed text

abbrev pub later_lines : List ℕ → List ℕ
later_lines text = after_first is_feed text

-- the line is a word and the decimal digits of a number
abbrev pub has_number : List ℕ → List ℕ → Bool
has_number word line = bytes_eq (take (length word) line) word && is_some (number_of (drop (length word) line))

-- the string begins with a line of the edition and one of when the server started, and the next one has its address
abbrev pub are_status_lines : List ℕ → Bool
are_status_lines text =
    has_number (codes "edition ") (first_line text)
    && (has_number (codes "started ") (first_line (later_lines text))
    && starts_with nat_eq (later_lines (later_lines text)) (codes "address "))

-- the reply is the status of a server
abbrev pub is_status : List ℕ → Bool
is_status reply = is_utf8 reply && are_status_lines reply

-- there is no fault
abbrev pub is_read : Result (List Edit × List Mirror) ProfileFault → Bool
is_read (Ok profile) = true
is_read (Err fault) = false

-- the reply is read as a profile
abbrev pub is_profile : List ℕ → Bool
is_profile reply = is_read (profile_of_bytes reply)

-- the reply of 200 is the one to a body that asks for no dump: to the status, to the server's end, to a look for a record,
-- to a raise, or to a script
abbrev pub is_line_expected : List ℕ → List ℕ → Bool
is_line_expected body reply =
    if bytes_eq body (codes "status") then is_status reply
    else if bytes_eq body (codes "stop") then bytes_eq reply stopping_line
    else if bytes_eq body follow_word then is_followed reply
    else if is_raise body then is_raised body reply
    else is_numbered (codes "edition ") reply

-- the reply of 200 is the one to a body
abbrev pub is_expected : List ℕ → List ℕ → Bool
is_expected body reply = if bytes_eq body dump_word then is_profile reply else is_line_expected body reply

-- the reply says what became of a script or a raise
abbrev pub is_outcome : List ℕ → Bool
is_outcome reply =
    starts_with nat_eq reply (codes "stale ") || (starts_with nat_eq reply (codes "refused ")
    || (starts_with nat_eq reply (codes "history ") || starts_with nat_eq reply (codes "bad raise")))

-- the reply says what is wrong with a script
abbrev pub is_fault : List ℕ → Bool
is_fault reply =
    starts_with nat_eq reply (codes "F1 ") || (starts_with nat_eq reply (codes "F2 ") || (starts_with nat_eq reply (codes "F3 ")
    || (starts_with nat_eq reply (codes "F4 ") || starts_with nat_eq reply (codes "F5 "))))

-- the reply says which package is lacking
abbrev pub is_lack : List ℕ → Bool
is_lack reply = starts_with nat_eq reply (codes "missing ") || starts_with nat_eq reply (codes "size ")

-- the reply begins as a line of the desk does that says why it didn't do what it was asked for
abbrev pub is_declining : List ℕ → Bool
is_declining reply = is_outcome reply || (is_fault reply || is_lack reply)

-- what a reply of 200 is, by whether it is the one to the body
abbrev pub meaning_by_form : Bool → Meaning
meaning_by_form expected = if expected then meaning.Done else meaning.Unexpected

-- what a reply of another status is
abbrev pub meaning_by_decline : List ℕ → Meaning
meaning_by_decline reply = if is_declining reply then meaning.Declined else meaning.Unexpected

-- what a reply is, by whether its status is 200
abbrev pub meaning_by : Bool → List ℕ → List ℕ → Meaning
meaning_by true body reply = meaning_by_form (is_expected body reply)
meaning_by false body reply = meaning_by_decline reply

-- rule: Reply of an operator's listener
-- what a reply to a body is: the one that was asked for, one that says why there is none, or no operator's listener's
abbrev pub meaning_of : List ℕ → Reply → Meaning
meaning_of body reply = meaning_by (reply.status == 200) body reply.body.items
