use Rattle.std.proofs.Common.{◌≡◌, string_bytes, rules}
use Rattle.profile_toml.proofs.NameLemmas.{AreNames-push}
use Rattle.profile_toml.proofs.cohort.Cohorts.with.Goals as goal

pub invariant_of-result : goal.invariant_of-result
invariant_of-result c =
    let name = c.into_string-name.result in
    let same : string_bytes name ≡ c.args.cohort.name = search rules in
    let longer =
    AreNames-push c.self.inside.names c.insert.new.self c.self.inside.entries c.args.cohort name same
    c.self.invariant c.in_ok-insert.ensures.updates in
    rw c.in_ok-push.ensures.ok longer
