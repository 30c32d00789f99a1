-- What a server's operator's desk replies, and what a command expects of it; this project's profile.
use Rattle.std.specs.Prelude.{◌≡◌, ℕ, ◌^◌, ◌<◌, ◌++◌, true, false, List, bytes_eq, codes, Some}
use Rattle.std.specs.Str.{is_utf8}
use Rattle.catalogue.specs.Histories.{History}
use Rattle.catalogue.specs.declared.fault.Refused.{Refused}
use Rattle.catalogue.specs.declared.mirror.Mirror.{Mirror}
use Rattle.http_desks.specs.declared.desk.DeskStatus.{DeskStatus}
use Rattle.mirror_ledger.specs.declared.raise_error.RaiseError.{RaiseError}
use Rattle.operator_pages.specs.Health.{status_string, stopping_line}
use Rattle.operator_pages.specs.declared.shown.Shown.{Shown}
use Rattle.package_files.specs.Lacking.{lacking_string}
use Rattle.package_files.specs.declared.lacking.Lack.{Lack}
use Rattle.profile_toml.specs.declared.fault.ProfileFault.{ProfileFault}
use Rattle.service_desks.specs.Following.{follow_word}
use Rattle.service_desks.specs.Lines.{doubt_line, edition_line, followed_line, full_line, invalid_raise_line, raised_line, refused_line, script_line, stale_line, unraised_line, unreachable_line}
use Rattle.service_desks.specs.Operators.{IsDump, dump_word}
use Rattle.service_desks.specs.Raises.{is_raise, raise_of}
use Rattle.omaha_commands.specs.Forms.{is_declining, is_expected}

-- the body is a script, as the desk takes it: no word of its own, and no raise
pub record IsScriptBody (body : List ℕ) : Type 0 where
  pub dump : bytes_eq body dump_word ≡ false
  pub status : bytes_eq body (codes "status") ≡ false
  pub stop : bytes_eq body (codes "stop") ≡ false
  pub follow : bytes_eq body follow_word ≡ false
  pub raise : is_raise body ≡ false

-- a command expects the line of each edition that its script is published as
abbrev pub EditionsAreExpected : Type 0
EditionsAreExpected =
    (script : List ℕ) (number : ℕ) → IsScriptBody script → number < 2 ^ 64 → is_expected script (edition_line number) ≡ true

-- it expects the line of each raise that it asks for
abbrev pub RaisesAreExpected : Type 0
RaisesAreExpected =
    (body : List ℕ) (asked : List ℕ × List ℕ) → is_raise body ≡ true → raise_of body ≡ Some asked →
    is_expected body (raised_line asked.0 asked.1) ≡ true

-- it expects each dump
abbrev pub DumpsAreExpected : Type 0
DumpsAreExpected =
    (mirrors : List Mirror) (history : History) (reply : DeskStatus × List ℕ) → IsDump mirrors history reply →
    is_expected dump_word reply.1 ≡ true

-- it expects each status that is written as a string
abbrev pub StatusesAreExpected : Type 0
StatusesAreExpected =
    (shown : Shown) → shown.edition < 2 ^ 64 → shown.counts.started < 2 ^ 64 → is_utf8 (status_string shown) ≡ true →
    is_expected (codes "status") (status_string shown) ≡ true

-- it expects what a server says that was asked to end
abbrev pub StopsAreExpected : Type 0
StopsAreExpected = is_expected (codes "stop") stopping_line ≡ true

-- and whatever a look for another server's record comes to
pub record LooksAreExpected : Type 0 where
  pub adopted : (number : ℕ) → number < 2 ^ 64 → is_expected follow_word (followed_line number) ≡ true
  pub none : (number : ℕ) → number < 2 ^ 64 → is_expected follow_word (edition_line number) ≡ true

-- each line of another status says why the desk didn't do what it was asked for
pub record LinesDecline : Type 0 where
  pub stale : (number : ℕ) → is_declining (stale_line number) ≡ true
  pub refused : (edit : Refused) → is_declining (refused_line edit) ≡ true
  pub full : is_declining full_line ≡ true
  pub unreachable : is_declining unreachable_line ≡ true
  pub doubt : is_declining doubt_line ≡ true
  pub script : (fault : ProfileFault) → is_declining (script_line fault) ≡ true
  pub unraised : (fault : RaiseError) → is_declining (unraised_line fault) ≡ true
  pub invalid_raise : is_declining invalid_raise_line ≡ true
  pub lacking : (name : List ℕ) (what : Lack) → is_declining (lacking_string name what ++ codes "\n") ≡ true
