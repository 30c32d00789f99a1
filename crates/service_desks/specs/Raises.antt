-- What a raise of a budget comes to that is sent to the operator's desk; this project's profile.
use Rattle.std.specs.Prelude.{◌≡◌, ◌⊎◌, ℕ, ◌≤◌, ◌-◌, ◌==◌, ◌&&◌, not, Bool, true, false, if◌then◌else◌, List, [], ◌∷◌, ◌++◌, codes, drop, length, nat_eq, nat_lt, slice_index, take, Result, Ok, Err, Option, None, Some}
use Rattle.std.specs.Char.{is_ascii_digit}
use Rattle.std.specs.List.{after_first, before_first, ends_with, list_all, starts_with}
use Rattle.std.specs.Str.{is_utf8}
use Rattle.std.specs.Str.Parse.{digits_value}
use Rattle.http_desks.specs.declared.desk.DeskStatus.{DeskStatus}
use Rattle.http_desks.specs.declared.desk.DeskStatus.TheVariants as status
use Rattle.http_desks.specs.declared.desk.Off.{Off}
use Rattle.http_desks.specs.declared.desk.Off.TheVariants as off
use Rattle.kept_records.specs.Keeping.{record_of}
use Rattle.kept_records.specs.declared.record.Kind.TheVariants as kind
use Rattle.kept_records.specs.declared.record.Record.{Record}
use Rattle.mirror_ledger.specs.Named.{budget_at}
use Rattle.mirror_ledger.specs.Raising.{IsAt, RaisesTo}
use Rattle.mirror_ledger.specs.declared.raise_error.RaiseError.{RaiseError}
use Rattle.catalogue.specs.Mirrors.{max_budget}
use Rattle.catalogue.specs.declared.mirror.Mirror.{Mirror}
use Rattle.service_desks.specs.Lines.{IsUnkept, invalid_raise_line, raised_line, unraised_line}
use Rattle.service_desks.specs.States.{Store, with_raise}

-- what a body begins with that asks for a raise
abbrev pub raise_word : List ℕ
raise_word = codes "raise "

-- the body asks for a raise
abbrev pub is_raise : List ℕ → Bool
is_raise body = starts_with nat_eq body raise_word

-- a space
abbrev pub is_space : ℕ → Bool
is_space byte = byte == 32

-- without the line feed at its end, if it has one
abbrev pub without_feed : List ℕ → List ℕ
without_feed text = if ends_with nat_eq text (codes "\n") then take (length text - 1) text else text

-- what follows the word, on its line
abbrev pub line_of : List ℕ → List ℕ
line_of body = without_feed (drop 6 body)

-- the name and the number of a line: what is before its first space, and what is after it
abbrev pub name_of : List ℕ → List ℕ
name_of line = before_first is_space line

abbrev pub digits_of : List ℕ → List ℕ
digits_of line = after_first is_space line

-- one or more bytes, no line feed
abbrev pub is_name : List ℕ → Bool
is_name name = nat_lt 0 (length name) && list_all (λ byte. not (byte == 10)) name

-- a zero before further digits
abbrev pub has_leading_zero : List ℕ → Bool
has_leading_zero digits = nat_lt 1 (length digits) && (slice_index digits 0 == 48)

-- one or more digits, without leading zeros
abbrev pub is_number : List ℕ → Bool
is_number digits = nat_lt 0 (length digits) && list_all is_ascii_digit digits && not (has_leading_zero digits)

-- rule: Form of a raise
-- the name and the digits of a body that asks for a raise, if it is a valid one: `raise NAME BUDGET` in UTF-8, one space
-- between them, and at most one line feed after them
abbrev pub raise_of : List ℕ → Option (List ℕ × List ℕ)
raise_of body =
    if is_utf8 (line_of body) && is_name (name_of (line_of body)) && is_number (digits_of (line_of body))
    then Some (name_of (line_of body), digits_of (line_of body))
    else None

-- the reply to a raise
abbrev pub raise_reply : List ℕ → List ℕ → Result (Unit {0}) RaiseError → DeskStatus × List ℕ
raise_reply name digits (Ok done) = (status.Success, raised_line name digits)
raise_reply name digits (Err refused) = (status.UnprocessableContent, unraised_line refused)

-- rule: Kept raise
-- what a raise leaves of what is kept: the raise is kept, if a budget was raised
abbrev pub left_by : Store → List ℕ → Result (Unit {0}) RaiseError → Store
left_by store raise (Ok done) = with_raise store raise
left_by store raise (Err refused) = store

-- the same of the records alone
abbrev pub HasKept : List ℕ → List Record → List Record → Result (Unit {0}) RaiseError → Type 0
HasKept raise old new (Ok done) = new ≡ old ++ record_of kind.Raise raise ∷ []
HasKept raise old new (Err refused) = new ≡ old

-- the mirrors with their budgets, and what is kept
abbrev pub Funds : Type 0
Funds = List Mirror × Store

-- a budget was raised, or was not, and the reply says which
pub record IsRaiseReply (old new : Funds) (raise name digits : List ℕ) (reply : DeskStatus × List ℕ) : Type 0 where
  pub outcome : Result (Unit {0}) RaiseError
  pub raised : RaisesTo old.0 new.0 name (digits_value 10 digits) outcome
  pub left : new.1 ≡ left_by old.1 raise outcome
  pub replied : reply ≡ raise_reply name digits outcome

-- the reply to a body that asks for a raise; an invalid one raises nothing, nor does one that can't be kept
abbrev pub IsReplyToRaise : Funds → Funds → List ℕ → Option (List ℕ × List ℕ) → DeskStatus × List ℕ → Type 0
IsReplyToRaise old new raise (Some asked) reply =
    IsRaiseReply old new raise asked.0 asked.1 reply ⊎ (IsUnkept reply × (new ≡ old))
IsReplyToRaise old new raise None reply = (reply ≡ (status.BadRequest, invalid_raise_line)) × (new ≡ old)

-- rule: Reply to a raise
-- what a body comes to that asks for a raise of a budget, from the mirrors with their budgets before it, and what is kept,
-- to those after it; if memory runs out, or the raise isn't kept, nothing is raised
abbrev pub RaisesBy : Funds → Funds → List ℕ → Result (DeskStatus × List ℕ) Off → Type 0
RaisesBy old new body (Ok reply) = IsReplyToRaise old new body (raise_of body) reply
RaisesBy old new body (Err off.Memory) = new ≡ old
RaisesBy old new body (Err off.Closed) = new ≡ old

-- the same of one that may meet another server's record at its number: then it has no reply yet
abbrev pub AttemptsToRaise : Funds → Funds → List ℕ → Option (Result (DeskStatus × List ℕ) Off) → Type 0
AttemptsToRaise old new body (Some answer) = RaisesBy old new body answer
AttemptsToRaise old new body None = new ≡ old

-- the mirror at an index has the name, and may have its budget raised to the number
abbrev pub MayRaise : List Mirror → List ℕ → ℕ → ℕ → Type 0
MayRaise mirrors name budget index =
    IsAt mirrors name index × (budget ≤ max_budget) × (budget_at mirrors index ≤ budget)

-- a body raised a budget among mirrors, once more; or no such raise could be made, and they are as before
abbrev pub Replays : List Mirror → List ℕ → Bool → List Mirror → Type 0
Replays old body true new =
    (asked : List ℕ × List ℕ) × (raise_of body ≡ Some asked)
    × RaisesTo old new asked.0 (digits_value 10 asked.1) (Ok tt)
Replays old body false new =
    (new ≡ old)
    × ((asked : List ℕ × List ℕ) (raised : List Mirror) → raise_of body ≡ Some asked →
    RaisesTo old raised asked.0 (digits_value 10 asked.1) (Ok tt) → ⊥)
