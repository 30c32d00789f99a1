-- Each accepted edit sets what it says and leaves the rest.
use Rattle.std.proofs.Common.{[]}
use Rattle.catalogue.specs.Histories.{edits_of, has_rollback, is_open, sets_open, sets_rollback, sets_share, sets_targets, share_of, targets_of}
use Rattle.catalogue.proofs.HistoryLemmas.{Makes-from_run, last_set-Makes}
use Rattle.catalogue.proofs.SettingLemmas.{has_rollback-after, is_open-after, share_of-after, targets_of-after}
use Rattle.catalogue.proofs.histories.cohort_settings.Goals as goal

pub returns-clause-targets : goal.returns-clause-targets
returns-clause-targets c = λ history apps led id name.
    last_set-Makes (λ content. targets_of content id name) (sets_targets id name) (targets_of-after id name) (edits_of history) [] apps (Makes-from_run history [] apps led)

pub returns-clause-shares : goal.returns-clause-shares
returns-clause-shares c = λ history apps led id name.
    last_set-Makes (λ content. share_of content id name) (sets_share id name) (share_of-after id name) (edits_of history) [] apps (Makes-from_run history [] apps led)

pub returns-clause-rollback_flags : goal.returns-clause-rollback_flags
returns-clause-rollback_flags c = λ history apps led id name.
    last_set-Makes (λ content. has_rollback content id name) (sets_rollback id name) (has_rollback-after id name) (edits_of history) [] apps (Makes-from_run history [] apps led)

pub returns-clause-open_flags : goal.returns-clause-open_flags
returns-clause-open_flags c = λ history apps led id name.
    last_set-Makes (λ content. is_open content id name) (sets_open id name) (is_open-after id name) (edits_of history) [] apps (Makes-from_run history [] apps led)
