-- The releases and the differentials of each app of a valid content ascend: of the app at an index,
-- and of the one found.
use Rattle.std.proofs.Common.{◌≡◌, ℕ, ◌<◌, true, List, [], length, get_or, Option, Some, None, refl, sym, subst, ◌∙◌}
use Rattle.std.specs.List.{position_or_len, slice_get}
use Rattle.std.specs.Option.{option_map_or}
use Rattle.std.proofs.lemmas.List.Elements.{All-from_recursion}
use Rattle.std.proofs.lemmas.List.Folds.{find_at}
use Rattle.std.proofs.lemmas.Option.{get_or_from_slice_get, slice_get_within}
use Rattle.catalogue.specs.Lookups.{app_of, diffs_at, is_app, releases_at}
use Rattle.values.specs.Ordered.{ascend}
use Rattle.catalogue.specs.Validity.{IsValid, IsValidApp, is_diff_before, is_release_below}
use Rattle.catalogue.specs.declared.content.App.{App}

pub IsValidApp-item :
    (apps : List App) (i : ℕ) (app : App) → i < length apps → app ≡ get_or apps i app →
    IsValid apps → IsValidApp app
IsValidApp-item apps i app within item valid =
    subst IsValidApp (sym item) (All-from_recursion IsValidApp apps valid.apps_valid i app within)

IsValidApp-slice_get :
    (apps : List App) (i : ℕ) (app : App) → slice_get apps i ≡ Some app → IsValid apps → IsValidApp app
IsValidApp-slice_get apps i app at valid =
    IsValidApp-item apps i app (slice_get_within apps i app at) (sym (get_or_from_slice_get apps i app app at)) valid

pub IsValidApp-app_of :
    (apps : List App) (id : List ℕ) (app : App) → app_of apps id ≡ Some app → IsValid apps → IsValidApp app
IsValidApp-app_of apps id app found valid =
    IsValidApp-slice_get apps (position_or_len (is_app id) apps) app (sym (find_at (is_app id) apps) ∙ found) valid

pub ascend-releases_at :
    (apps : List App) (i : ℕ) → IsValid apps → ascend is_release_below (releases_at apps i) ≡ true
ascend-releases_at apps i valid = cases (slice_get apps i) refl
  where
    cases :
        (o : Option App) → slice_get apps i ≡ o →
        ascend is_release_below (option_map_or (λ app. app.releases) o []) ≡ true
    cases None none = refl
    cases (Some app) at = (IsValidApp-slice_get apps i app at valid).releases_ascend

pub ascend-diffs_at :
    (apps : List App) (i : ℕ) → IsValid apps → ascend is_diff_before (diffs_at apps i) ≡ true
ascend-diffs_at apps i valid = cases (slice_get apps i) refl
  where
    cases :
        (o : Option App) → slice_get apps i ≡ o →
        ascend is_diff_before (option_map_or (λ app. app.diffs) o []) ≡ true
    cases None none = refl
    cases (Some app) at = (IsValidApp-slice_get apps i app at valid).diffs_ascend
