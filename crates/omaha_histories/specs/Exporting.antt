-- The profile that records lead to; this project's profile.
use Rattle.std.specs.Prelude.{ℕ, List}
use Rattle.editions.specs.Editions.{content_of}
use Rattle.kept_records.specs.declared.record.Record.{Record}
use Rattle.profile_toml.specs.WrittenProfiles.{IsProfileFile, IsReadAs}
use Rattle.omaha_histories.specs.Restarting.{Found, LeadTo}

-- bytes are the profile of the content and the mirrors that records lead to, and are read as them
pub record IsExport (records : List Record) (bytes : List ℕ) : Type 0 where
  pub found : Found
  pub led : LeadTo records found
  pub written : IsProfileFile (content_of found.history) found.mirrors bytes
  pub reads_back : IsReadAs (content_of found.history) found.mirrors bytes
