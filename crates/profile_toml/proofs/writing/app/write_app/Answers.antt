use Rattle.std.proofs.Common.{rules}
use Rattle.profile_toml.proofs.SizeLemmas.{cohorts_below, diffs_below, releases_below}
use Rattle.profile_toml.proofs.writing.app.write_app.Goals as goal

pub write_cohorts-requires-clause-shared : goal.write_cohorts-requires-clause-shared
write_cohorts-requires-clause-shared c =
    rw c.as_slice-cohorts.ensures
    (cohorts_below c.args.app.now.releases c.args.app.now.cohorts c.requires.cohorts_valid)

pub write_releases-requires : goal.write_releases-requires
write_releases-requires c =
    rw c.as_slice-releases.ensures
    (releases_below c.args.app.now.cohorts c.args.app.now.releases c.requires.releases_valid)

pub write_diffs-requires-clause-sized : goal.write_diffs-requires-clause-sized
write_diffs-requires-clause-sized c =
    rw c.as_slice.ensures
    (diffs_below c.args.app.now.releases c.args.app.now.diffs c.requires.diffs_valid)

pub returns : goal.returns
returns c = search rules
