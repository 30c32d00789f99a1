use Rattle.std.proofs.Common.{subst, sym}
use Rattle.values.specs.Reading.{Reads}
use Rattle.profile_toml.specs.Fields.{known}
use Rattle.profile_toml.specs.Readers.{placed}
use Rattle.profile_toml.specs.Releases.{release_keys}
use Rattle.profile_toml.specs.declared.document.Schema.{Schema}
use Rattle.profile_toml.proofs.release.check_release_keys.Goals as goal

pub returns-in-One : goal.returns-in-One
returns-in-One c =
    subst (λ (schema : Schema). Reads (λ (nothing : Unit {0}). nothing) c.check_keys.result (known (release_keys schema) (placed c.args.table.now)))
    (sym c.in-One.is) c.check_keys.ensures

pub returns-in-Two : goal.returns-in-Two
returns-in-Two c =
    subst (λ (schema : Schema). Reads (λ (nothing : Unit {0}). nothing) c.check_keys-in-Two.result (known (release_keys schema) (placed c.args.table.now)))
    (sym c.in-Two.is) c.check_keys-in-Two.ensures
