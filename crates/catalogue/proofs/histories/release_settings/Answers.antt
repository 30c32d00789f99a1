-- Each accepted edit sets what it says and leaves the rest.
use Rattle.std.proofs.Common.{[]}
use Rattle.catalogue.specs.Histories.{audience_of, edits_of, floor_of, is_stone, is_withdrawn, sets_audience, sets_floor, sets_stone, sets_withdrawn}
use Rattle.catalogue.proofs.HistoryLemmas.{Makes-from_run, last_set-Makes}
use Rattle.catalogue.proofs.ReleaseSettingLemmas.{audience_of-after, floor_of-after, is_stone-after, is_withdrawn-after}
use Rattle.catalogue.proofs.histories.release_settings.Goals as goal

pub returns-clause-stones : goal.returns-clause-stones
returns-clause-stones c = λ history apps led id version.
    last_set-Makes (λ content. is_stone content id version) (sets_stone id version) (is_stone-after id version) (edits_of history) [] apps (Makes-from_run history [] apps led)

pub returns-clause-withdrawals : goal.returns-clause-withdrawals
returns-clause-withdrawals c = λ history apps led id version.
    last_set-Makes (λ content. is_withdrawn content id version) (sets_withdrawn id version) (is_withdrawn-after id version) (edits_of history) [] apps (Makes-from_run history [] apps led)

pub returns-clause-audiences : goal.returns-clause-audiences
returns-clause-audiences c = λ history apps led id version.
    last_set-Makes (λ content. audience_of content id version) (sets_audience id version) (audience_of-after id version) (edits_of history) [] apps (Makes-from_run history [] apps led)

pub returns-clause-floors : goal.returns-clause-floors
returns-clause-floors c = λ history apps led id version.
    last_set-Makes (λ content. floor_of content id version) (sets_floor id version) (floor_of-after id version) (edits_of history) [] apps (Makes-from_run history [] apps led)
