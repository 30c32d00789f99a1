-- How many items all apps have: few enough to be counted.
use Rattle.std.proofs.Common.{◌≡◌, ℕ, ◌+◌, ◌<◌, ◌≤◌, List, get_or, length, take, arith}
use Rattle.std.specs.List.{All, sum_by}
use Rattle.std.proofs.lemmas.List.Elements.{All-from_recursion, All-weaker}
use Rattle.std.proofs.lemmas.List.Sums.{sum_by-le, sum_by_more_le}
use Rattle.catalogue.specs.Validity.{IsValid, IsValidApp}
use Rattle.catalogue.specs.declared.content.App.{App}

-- a count so far and the next one, where each app has few items
pub few_so_far :
    (count : App → ℕ) (apps : List App) (index sum next : ℕ) (app : App) →
    IsValid apps → ((other : App) → IsValidApp other → count other ≤ 16384) → index < length apps →
    sum ≡ sum_by count (take index apps) → next ≡ count (get_or apps index app) → sum + next ≤ 1048576
few_so_far count apps index sum next app valid few within is more =
    let all : All (λ other. count other ≤ 16384) apps =
    All-weaker IsValidApp (λ other. count other ≤ 16384) few apps (All-from_recursion IsValidApp apps valid.apps_valid)
    in
    let most = sum_by-le count 16384 apps all in
    let part = sum_by_more_le count apps index app within in
    let bound = valid.few_apps in
    omega arith
