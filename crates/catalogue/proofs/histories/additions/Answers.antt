-- Each accepted edit adds what it says, so all edits of a history add what is there in the end.
use Rattle.std.proofs.Common.{[]}
use Rattle.std.specs.List.{list_any}
use Rattle.catalogue.specs.Histories.{adds_app, adds_cohort, adds_diff, adds_release, edits_of, same_diff, same_release}
use Rattle.catalogue.specs.Lookups.{cohorts_of, diffs_of, has_cohort, is_app, releases_of}
use Rattle.catalogue.proofs.AdditionLemmas.{any_app-after, any_cohort-after, any_diff-after, any_release-after}
use Rattle.catalogue.proofs.HistoryLemmas.{Makes-from_run, list_any-Makes}
use Rattle.catalogue.proofs.histories.additions.Goals as goal

pub returns-clause-apps : goal.returns-clause-apps
returns-clause-apps c = λ history apps led id.
    list_any-Makes (list_any (is_app id)) (adds_app id) (any_app-after id) (edits_of history) [] apps (Makes-from_run history [] apps led)

pub returns-clause-releases : goal.returns-clause-releases
returns-clause-releases c = λ history apps led id release.
    list_any-Makes (λ content. list_any (same_release release) (releases_of content id)) (adds_release id release) (any_release-after id release) (edits_of history) [] apps (Makes-from_run history [] apps led)

pub returns-clause-cohorts : goal.returns-clause-cohorts
returns-clause-cohorts c = λ history apps led id name.
    list_any-Makes (λ content. has_cohort (cohorts_of content id) name) (adds_cohort id name) (any_cohort-after id name) (edits_of history) [] apps (Makes-from_run history [] apps led)

pub returns-clause-diffs : goal.returns-clause-diffs
returns-clause-diffs c = λ history apps led id diff.
    list_any-Makes (λ content. list_any (same_diff diff) (diffs_of content id)) (adds_diff id diff) (any_diff-after id diff) (edits_of history) [] apps (Makes-from_run history [] apps led)
