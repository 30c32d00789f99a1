use Rattle.std.proofs.Common.{ap}
use Rattle.std.specs.Option.{ok_or}
use Rattle.profile_toml.specs.declared.fault.ProfileFault.TheVariants.{NotToml}
use Rattle.profile_toml.proofs.DocumentLemmas.{document_of-read, document_of-refused}
use Rattle.profile_toml.proofs.document.parse.Goals as goal

pub returns-in-Ok : goal.returns-in-Ok
returns-in-Ok c =
    let read = c.in-Ok.ensures.ok in
    ap (λ table. ok_or table NotToml) (document_of-read _ _ read.0 read.1)

pub returns-else-is_memory : goal.returns-else-is_memory
returns-else-is_memory c =
    let refused = c.in-Err.ensures.refused (λ memory.
    let yes = c.is_memory.ensures.1 memory in
    cc) in
    ap (λ table. ok_or table NotToml) (document_of-refused _ refused)
