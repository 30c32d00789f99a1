-- The edits of a valid content make it: each one adds at the end of what is there, or sets something
-- of the last app.
use Rattle.std.proofs.Common.{◌≡◌, ℕ, ◌<◌, ◌≤◌, ◌==◌, ◌||◌, Bool, true, false, cond, List, [], ◌∷◌, ◌++◌, drop, map, length, Option, Some, None, Ok, option_map, refl, ap, sym, ◌∙◌, arith}
use Rattle.std.specs.List.{list_all, list_any, flat_map}
use Rattle.std.specs.Option.{is_some, is_none}
use Rattle.std.specs.Str.{bytes_eq}
use Rattle.std.proofs.lemmas.Bool.{eqb-true, or_parts}
use Rattle.std.proofs.lemmas.List.{append-nil, map-append}
use Rattle.std.proofs.lemmas.Slice.Eq.{bytes_eq-Decides}
use Rattle.catalogue.specs.VersionLaws.{LenientAgrees}
use Rattle.catalogue.specs.Versions.{is_below, lenient_version_of, printed, version_of, zero_version}
use Rattle.catalogue.proofs.AcceptedLemmas.{None-from_not_some}
use Rattle.catalogue.proofs.AppLemmas.{lowered}
use Rattle.catalogue.proofs.ValidCohortLemmas.{ValidCohort, ValidCohort-from_test}
use Rattle.catalogue.proofs.ValidDiffLemmas.{ValidDiff, ValidDiff-from_test}
use Rattle.catalogue.proofs.ValidReleaseLemmas.{ValidRelease, ValidRelease-from_test}
use Rattle.catalogue.proofs.HistoryLemmas.{Makes, Makes-append}
use Rattle.values.proofs.InsertedLemmas.{list_all-weaker}
use Rattle.catalogue.proofs.KeyLemmas.{IsOrder-pairs, IsOrder-versions, VersionLaws}
use Rattle.catalogue.proofs.LastAppLemmas.{accepts_app, accepts_audience, accepts_cohort, accepts_diff, accepts_floor, accepts_open, accepts_release, accepts_rollback, accepts_share, accepts_stone, accepts_targets, accepts_withdrawn, bytes_eq-same, change-last}
use Rattle.catalogue.proofs.LastPackageLemmas.{added, added_diff, bare_release, declared_of-diff, declared_of-release, new_diff-added, new_release-added}
use Rattle.catalogue.proofs.MakingLemmas.{Makes-each, Makes-each_one, Makes-flag, Makes-one, Makes-option, Makes-same, outcome_from-Makes}
use Rattle.values.proofs.OrderedLemmas.{has_in-above, put_in-last}
use Rattle.catalogue.proofs.EditSpellingLemmas.{hash_named-encode_lower, hash_of-encode_lower, is_misspelled-spelling_of, is_none-spells, is_unreleased-spelling_of, lenient_version_of-spells, option_map-spelling_of, spells-spelling_of}
use Rattle.values.proofs.SplitLemmas.{AllByRecursion-at, ascend-before, change-at_item, length-before, list_all-at, list_any-at, list_any-before, split_next}
use Rattle.catalogue.specs.Batches.{outcome}
use Rattle.catalogue.specs.Changes.{in_cohort, in_release, new_cohort, new_diff, new_release, with_cohort, with_diff, with_release, with_release_setting, with_setting}
use Rattle.values.specs.Lists.{change}
use Rattle.catalogue.specs.Contents.{default_name, edit_of_cohort, edit_of_diff, edit_of_floor, edit_of_open, edit_of_release, edit_of_rollback, edit_of_share, edits_of_app, edits_of_audience, edits_of_content, edits_of_floor, edits_of_open, edits_of_release, edits_of_rollback, edits_of_settings, edits_of_share, edits_of_stone, edits_of_targets, edits_of_withdrawn, spelling_of}
use Rattle.catalogue.specs.Edits.CohortSettings.{setting_of_set_target}
use Rattle.catalogue.specs.Limits.{max_apps, max_cohorts, max_diffs, max_releases, max_share}
use Rattle.catalogue.specs.Lookups.{has_cohort, has_diff, has_hash, has_release, is_app, is_cohort, is_pair_below, is_release, packages_of, pair_of, same_pair}
use Rattle.catalogue.specs.Validity.{IsValid, IsValidApp, has_valid_floor, is_diff_before, is_valid_audience, is_valid_release, is_package, is_release_below, spells}
use Rattle.values.specs.Lists.{IsOnce}
use Rattle.catalogue.specs.declared.content.App.{App}
use Rattle.catalogue.specs.declared.content.Cohort.{Cohort}
use Rattle.catalogue.specs.declared.content.Diff.{Diff}
use Rattle.catalogue.specs.declared.content.Release.{Release}
use Rattle.catalogue.specs.declared.edit.Edit.TheVariants as edit
use Rattle.catalogue.specs.declared.edits.cohort_settings.CohortSetting.TheVariants as setting
use Rattle.catalogue.specs.declared.edits.cohort_settings.SetTarget.{SetTarget}
use Rattle.catalogue.specs.declared.edits.release_settings.ReleaseSetting.{ReleaseSetting}
use Rattle.catalogue.specs.declared.edits.release_settings.ReleaseSetting.TheVariants as release_setting

-- a cohort as it is when it is added
abbrev bare : Cohort → Cohort
bare cohort = new_cohort cohort.name

-- an app of which the cohorts, the releases and the differentials are made
abbrev grown : App → List Cohort → List Release → List Diff → App
grown app cohorts releases diffs = record { id = app.id; cohorts = cohorts; releases = releases; diffs = diffs }

has_cohort-bare : (name : List ℕ) (cohorts : List Cohort) → has_cohort (map bare cohorts) name ≡ has_cohort cohorts name
has_cohort-bare name [] = refl
has_cohort-bare name (cohort ∷ cohorts) = ap (λ b. is_cohort name cohort || b) (has_cohort-bare name cohorts)

-- an audience of cohorts is one of bare cohorts
is_valid_audience-bare :
    (cohorts : List Cohort) (names : Option (List (List ℕ))) → is_valid_audience cohorts names ≡ true →
    is_valid_audience (map bare cohorts) names ≡ true
is_valid_audience-bare cohorts None known = refl
is_valid_audience-bare cohorts (Some names) known =
    list_all-weaker (has_cohort cohorts) (has_cohort (map bare cohorts)) (λ name there. has_cohort-bare name cohorts ∙ there) names known

length-bare : (cohorts : List Cohort) → length (map bare cohorts) ≡ length cohorts
length-bare [] = refl
length-bare (cohort ∷ cohorts) = let others = length-bare cohorts in omega arith

-- an app that is valid, after others that have not its identifier
module _ (laws : VersionLaws) (agrees : LenientAgrees) (front : List App) (app : App) (back : List App) (fresh : list_any (is_app app.id) front ≡ false) (room : length front < max_apps) (once : IsOnce is_package (packages_of (front ++ app ∷ back))) (valid : IsValidApp app) where
  -- the content whose last app has these cohorts, releases and differentials
  abbrev stands : List Cohort → List Release → List Diff → List App
  stands cohorts releases diffs = front ++ grown app cohorts releases diffs ∷ []

  valid_cohort :
      (before : List Cohort) (cohort : Cohort) (behind : List Cohort) →
      app.cohorts ≡ before ++ cohort ∷ behind →
      ValidCohort app.releases cohort
  valid_cohort before cohort behind cut =
      ValidCohort-from_test app.releases cohort (list_all-at _ before cohort behind (rw cut at valid.cohorts_valid))

  valid_release :
      (below : List Release) (release : Release) (above : List Release) →
      app.releases ≡ below ++ release ∷ above →
      ValidRelease app.cohorts release
  valid_release below release above cut =
      ValidRelease-from_test app.cohorts release (list_all-at _ below release above (rw cut at valid.releases_valid))

  valid_diff :
      (below : List Diff) (diff : Diff) (above : List Diff) →
      app.diffs ≡ below ++ diff ∷ above →
      ValidDiff app.releases diff
  valid_diff below diff above cut =
      ValidDiff-from_test app.releases diff (list_all-at _ below diff above (rw cut at valid.diffs_valid))

  -- each release's spelling spells its version
  spelled_releases : list_all (λ release. spells release.spelled release.version) app.releases ≡ true
  spelled_releases =
      list_all-weaker (is_valid_release app.cohorts) (λ release. spells release.spelled release.version)
      (λ release is_good. (ValidRelease-from_test app.cohorts release is_good).spelled) app.releases valid.releases_valid

  -- no cohort before another has its name
  new_name :
      (before : List Cohort) (cohort : Cohort) (behind : List Cohort) →
      app.cohorts ≡ before ++ cohort ∷ behind →
      has_cohort before cohort.name ≡ false
  new_name before cohort behind cut =
      list_any-before is_cohort before cohort behind (rw cut at valid.cohorts_once) cohort.name (bytes_eq-same cohort.name)

  -- the app with its default cohort, and then its other cohorts
  makes_cohorts :
      (cohorts : List Cohort) →
      app.cohorts ≡ cohorts →
      1 ≤ length cohorts →
      Makes (edit.AddApp (record { app = app.id; default = default_name cohorts }) ∷ map (edit_of_cohort app) (drop 1 cohorts)) front (stands (map bare cohorts) [] [])
  makes_cohorts [] is some = absurd (omega arith)
  makes_cohorts (default ∷ others) is some = (
    accepts_app front (record { app = app.id; default = default.name }) valid.identified (valid_cohort [] default others is).named fresh room,
    Makes-each_one (λ before behind. stands (map bare before) [] []) (edit_of_cohort app) (default ∷ others)
        (λ before cohort behind cut.
        let at = is ∙ cut in
        let few : length (before ++ cohort ∷ behind) ≤ max_cohorts = rw at at valid.few_cohorts in
        let there_before = length-before before cohort behind max_cohorts few in
        let as_many = length-bare before in (
          accepts_cohort front app.id fresh (grown app (map bare before) [] []) refl cohort.name (valid_cohort before cohort behind at).named
              (has_cohort-bare cohort.name before ∙ new_name before cohort behind at) (omega arith),
          change-last front app.id fresh (with_cohort (bare cohort)) (grown app (map bare before) [] []) refl
              ∙ ap (λ (cs : List Cohort). stands cs [] []) (sym (map-append bare before (cohort ∷ []))),
        )) (default ∷ []) others refl,
  )

  -- a release: it is added, and then its settings are set
  module _ (below : List Release) (release : Release) (above : List Release) (cut : app.releases ≡ below ++ release ∷ above) where
    abbrev cohorts : List Cohort
    cohorts = map bare app.cohorts

    -- the content with the release at some values, those below it being made
    abbrev released : Release → List App
    released at = stands cohorts (below ++ at ∷ []) []

    good : ValidRelease app.cohorts release
    good = valid_release below release above cut

    lower : list_all (λ r. is_release_below r release) below ≡ true
    lower = ascend-before is_release_below below release above (rw cut at valid.releases_ascend)

    read : lenient_version_of release.spelled ≡ release.version
    read = lenient_version_of-spells agrees release.spelled release.version good.spelled

    new_version : has_release below release.version ≡ false
    new_version = has_in-above is_below bytes_eq (λ (r : Release). r.version) (IsOrder-versions laws) release below lower

    released-set :
        (new : ReleaseSetting) (at : Release) → at.version ≡ release.version →
        change (is_app app.id) (in_release (lenient_version_of release.spelled) (with_release_setting new)) (released at)
        ≡ released (with_release_setting new at)
    released-set new at same =
        let f = with_release_setting new in
        ap (λ (v : List ℕ). change (is_app app.id) (in_release v f) (released at)) read
        ∙ change-last front app.id fresh (in_release release.version f) (grown app cohorts (below ++ at ∷ []) []) refl
        ∙ ap (λ (rs : List Release). stands cohorts rs [])
        (change-at_item (is_release release.version) f below at [] new_version (ap (bytes_eq release.version) same ∙ bytes_eq-same release.version))

    there :
        (at : Release) →
        at.version ≡ release.version →
        has_release (below ++ at ∷ []) (lenient_version_of release.spelled) ≡ true
    there at same =
        ap (has_release (below ++ at ∷ [])) read
        ∙ list_any-at (is_release release.version) below at [] (ap (bytes_eq release.version) same ∙ bytes_eq-same release.version)

    makes_bare : Makes (edit_of_release app release ∷ []) (stands cohorts below []) (released (bare_release release))
    makes_bare =
        let partial = grown app cohorts below [] in
        Makes-one (edit_of_release app release) (stands cohorts below []) (released (bare_release release))
        (accepts_release front app.id fresh partial refl release.spelled release.name (added app.id release).sha256 release.size
        (is_none-spells release.spelled release.version good.spelled)
        (ap (λ (o : Option (List ℕ)). is_none o) (hash_of-encode_lower release.hash good.hashed)) good.sized good.named
        (ap (has_release below) read ∙ new_version)
        (ap (λ (h : List ℕ). list_any (has_hash h) below) (hash_named-encode_lower release.hash good.hashed) ∙ list_any-before has_hash below release above (rw cut at valid.hashes_once) release.hash (bytes_eq-same release.hash))
        (declared_of-release front app back below release above cut once partial refl refl)
        (length-before below release above max_releases (rw cut at valid.few_releases)))
        (change-last front app.id fresh (with_release (new_release (added app.id release))) partial refl
        ∙ ap (λ (r : Release). front ++ with_release r partial ∷ []) (new_release-added agrees app.id app.cohorts release good)
        ∙ ap (λ (rs : List Release). stands cohorts rs []) (put_in-last is_below bytes_eq (λ (r : Release). r.version) (bare_release release) below lower))

    spelled : is_none (version_of release.spelled) ≡ false
    spelled = is_none-spells release.spelled release.version good.spelled

    -- the content by the release's stone flag, its withdrawn flag, its audience, its floor
    abbrev by_stone : Bool → List App
    by_stone on = released (record release { stone = on; withdrawn = false; audience = None; floor = zero_version })

    abbrev by_withdrawn : Bool → List App
    by_withdrawn on = released (record release { withdrawn = on; audience = None; floor = zero_version })

    abbrev by_audience : Option (List (List ℕ)) → List App
    by_audience names = released (record release { audience = names; floor = zero_version })

    abbrev by_floor : List ℕ → List App
    by_floor floor = released (record release { floor = floor })

    floored : spells (printed release.floor) release.floor ≡ true
    floored = list_all-at has_valid_floor below release above (rw cut at valid.floors_valid)

    makes_floor : Makes (edits_of_floor app release) (by_floor zero_version) (by_floor release.floor)
    makes_floor = cases (bytes_eq release.floor zero_version) refl
      where
        cases :
            (b : Bool) → bytes_eq release.floor zero_version ≡ b →
            Makes (cond b [] (edit_of_floor app release ∷ [])) (by_floor zero_version) (by_floor release.floor)
        cases true none = ap by_floor ((bytes_eq-Decides release.floor zero_version).0 none)
        cases false given =
            let open_at = record release { floor = zero_version } in
            Makes-one (edit_of_floor app release) (by_floor zero_version) (by_floor release.floor)
            (accepts_floor front app.id fresh (grown app cohorts (below ++ open_at ∷ []) []) refl release.spelled (printed release.floor)
            spelled (is_none-spells (printed release.floor) release.floor floored) (there open_at refl))
            (released-set (release_setting.Floor (lenient_version_of (printed release.floor))) open_at refl
            ∙ ap by_floor (lenient_version_of-spells agrees (printed release.floor) release.floor floored))

    makes_release : Makes (edits_of_release app release) (stands cohorts below []) (released release)
    makes_release =
        let bare_at = bare_release release in
        let stoned = record release { withdrawn = false; audience = None; floor = zero_version } in
        let withdrawn = record release { audience = None; floor = zero_version } in
        Makes-append (edit_of_release app release ∷ edits_of_stone app release ++ edits_of_withdrawn app release ++ edits_of_audience app release) (edits_of_floor app release) (stands cohorts below []) (by_audience release.audience) (released release)
        (Makes-append (edit_of_release app release ∷ edits_of_stone app release ++ edits_of_withdrawn app release) (edits_of_audience app release) (stands cohorts below []) (by_withdrawn release.withdrawn) (by_audience release.audience)
        (Makes-append (edit_of_release app release ∷ edits_of_stone app release) (edits_of_withdrawn app release) (stands cohorts below []) (by_stone release.stone) (by_withdrawn release.withdrawn)
        (Makes-append (edit_of_release app release ∷ []) (edits_of_stone app release) (stands cohorts below []) (released bare_at) (by_stone release.stone) makes_bare
        (Makes-flag release.stone (edit.SetStone (record { app = app.id; version = release.spelled; on = true })) by_stone
        (accepts_stone front app.id fresh (grown app cohorts (below ++ bare_at ∷ []) []) refl release.spelled true spelled (there bare_at refl))
        (released-set (release_setting.Stone true) bare_at refl)))
        (Makes-flag release.withdrawn (edit.SetWithdrawn (record { app = app.id; version = release.spelled; on = true })) by_withdrawn
        (accepts_withdrawn front app.id fresh (grown app cohorts (below ++ stoned ∷ []) []) refl release.spelled true spelled (there stoned refl))
        (released-set (release_setting.Withdrawn true) stoned refl)))
        (Makes-option release.audience (edit.SetAudience (record { app = app.id; version = release.spelled; cohorts = release.audience })) by_audience
        (λ names given. (
          accepts_audience front app.id fresh (grown app cohorts (below ++ withdrawn ∷ []) []) refl release.spelled release.audience spelled (there withdrawn refl) (is_valid_audience-bare app.cohorts release.audience good.heard),
          released-set (release_setting.Audience release.audience) withdrawn refl,
        )))) makes_floor

  -- its releases
  makes_releases : Makes (flat_map (edits_of_release app) app.releases) (stands (map bare app.cohorts) [] []) (stands (map bare app.cohorts) app.releases [])
  makes_releases =
      Makes-each (λ below above. stands (map bare app.cohorts) below []) (edits_of_release app) app.releases
      (λ below release above cut. makes_release below release above cut) [] app.releases refl

  -- its differentials
  makes_diffs :
      (made : List Cohort) →
      Makes (map (edit_of_diff app) app.diffs) (stands made app.releases []) (stands made app.releases app.diffs)
  makes_diffs made =
      Makes-each_one (λ below above. stands made app.releases below) (edit_of_diff app) app.diffs
      (λ below diff above cut.
      let good = valid_diff below diff above cut in
      let lower = ascend-before is_diff_before below diff above (rw cut at valid.diffs_ascend) in
      let e = added_diff app.id app.releases diff in
      let partial = grown app made app.releases below in
      let from_spelled = spells-spelling_of app.releases spelled_releases diff.from good.starts in
      let to_spelled = spells-spelling_of app.releases spelled_releases diff.to good.ends in
      let from = lenient_version_of-spells agrees e.from diff.from from_spelled in
      let to = lenient_version_of-spells agrees e.to diff.to to_spelled in (
        accepts_diff front app.id fresh partial refl e refl
            (is_none-spells e.from diff.from from_spelled) (is_none-spells e.to diff.to to_spelled)
            (ap (λ (o : Option (List ℕ)). is_none o) (hash_of-encode_lower diff.hash good.hashed)) good.sized good.named
            (ap (has_release app.releases) from ∙ good.starts) (ap (has_release app.releases) to ∙ good.ends)
            (ap (λ (v : List ℕ). is_below v (lenient_version_of e.to)) from ∙ ap (is_below diff.from) to ∙ good.upward)
            (ap (λ (v : List ℕ). has_diff below (v, lenient_version_of e.to)) from
            ∙ ap (λ (v : List ℕ). has_diff below (diff.from, v)) to
            ∙ has_in-above is_pair_below same_pair pair_of (IsOrder-pairs laws) diff below lower)
            (declared_of-diff front app back below diff above cut once partial refl refl)
            (length-before below diff above max_diffs (rw cut at valid.few_diffs)),
        change-last front app.id fresh (with_diff (new_diff e)) partial refl
            ∙ ap (λ (d : Diff). front ++ with_diff d partial ∷ []) (new_diff-added agrees app.id app.releases diff good from_spelled to_spelled)
            ∙ ap (stands made app.releases) (put_in-last is_pair_below same_pair pair_of diff below lower),
      )) [] app.diffs refl

  -- a setting of a cohort
  module _ (before : List Cohort) (cohort : Cohort) (behind : List Cohort) (cut : app.cohorts ≡ before ++ cohort ∷ behind) where
    -- the cohorts with this one at some values, those before it being made and those after it bare
    abbrev among : Cohort → List Cohort
    among at = before ++ at ∷ map bare behind

    abbrev settled : Cohort → List App
    settled at = stands (among at) app.releases app.diffs

    abbrev with_among : Cohort → App
    with_among at = grown app (among at) app.releases app.diffs

    settled-set :
        (f : Cohort → Cohort) (at : Cohort) →
        at.name ≡ cohort.name →
        change (is_app app.id) (in_cohort cohort.name f) (settled at) ≡ settled (f at)
    settled-set f at named =
        change-last front app.id fresh (in_cohort cohort.name f) (with_among at) refl
        ∙ ap (λ (cs : List Cohort). stands cs app.releases app.diffs)
        (change-at_item (is_cohort cohort.name) f before at (map bare behind) (new_name before cohort behind cut) (ap (λ (n : List ℕ). bytes_eq cohort.name n) named ∙ bytes_eq-same cohort.name))

    cohort_there : (at : Cohort) → at.name ≡ cohort.name → has_cohort (among at) cohort.name ≡ true
    cohort_there at named =
        list_any-at (is_cohort cohort.name) before at (map bare behind) (ap (λ (n : List ℕ). bytes_eq cohort.name n) named ∙ bytes_eq-same cohort.name)

    -- the cohort with its targets, then with its share
    abbrev targeted : Cohort
    targeted = with_setting (setting.Targets cohort.target cohort.held) (bare cohort)

    abbrev shared : Cohort
    shared = with_setting (setting.Share cohort.share) targeted

    makes_targets : Makes (edits_of_targets app cohort) (settled (bare cohort)) (settled targeted)
    makes_targets = cases (is_some cohort.target || is_some cohort.held) refl
      where
        known : ValidCohort app.releases cohort
        known = valid_cohort before cohort behind cut

        e : SetTarget
        e = record {
          app = app.id;
          cohort = cohort.name;
          target = option_map (spelling_of app.releases) cohort.target;
          held = option_map (spelling_of app.releases) cohort.held;
        }

        cases :
            (b : Bool) →
            (is_some cohort.target || is_some cohort.held) ≡ b →
            Makes (cond b (edit.SetTarget e ∷ []) []) (settled (bare cohort)) (settled targeted)
        cases true given =
            Makes-one (edit.SetTarget e) (settled (bare cohort)) (settled targeted)
            (accepts_targets front app.id fresh (with_among (bare cohort)) refl cohort.name e.target e.held (cohort_there (bare cohort) refl)
            (is_misspelled-spelling_of agrees app.releases spelled_releases cohort.target known.target) (is_misspelled-spelling_of agrees app.releases spelled_releases cohort.held known.held)
            (is_unreleased-spelling_of agrees app.releases spelled_releases cohort.target known.target) (is_unreleased-spelling_of agrees app.releases spelled_releases cohort.held known.held))
            (settled-set (with_setting (setting_of_set_target e)) (bare cohort) refl
            ∙ ap (λ (t : Option (List ℕ)). settled (with_setting (setting.Targets t (option_map lenient_version_of e.held)) (bare cohort))) (option_map-spelling_of agrees app.releases spelled_releases cohort.target known.target)
            ∙ ap (λ (h : Option (List ℕ)). settled (with_setting (setting.Targets cohort.target h) (bare cohort))) (option_map-spelling_of agrees app.releases spelled_releases cohort.held known.held))
        cases false given =
            let none = or_parts (is_some cohort.target) (is_some cohort.held) given in
            let no_target = None-from_not_some cohort.target none.0 in
            let no_held = None-from_not_some cohort.held none.1 in
            ap (λ (t : Option (List ℕ)). settled (with_setting (setting.Targets t cohort.held) (bare cohort))) no_target
            ∙ ap (λ (h : Option (List ℕ)). settled (with_setting (setting.Targets None h) (bare cohort))) no_held

    makes_share : Makes (edits_of_share app cohort) (settled targeted) (settled shared)
    makes_share = cases (cohort.share == max_share) refl
      where
        cases :
            (b : Bool) →
            (cohort.share == max_share) ≡ b →
            Makes (cond b [] (edit_of_share app cohort ∷ [])) (settled targeted) (settled shared)
        cases true all =
            ap (λ (n : ℕ). settled (with_setting (setting.Share n) targeted)) (eqb-true cohort.share max_share all)
        cases false given =
            Makes-one (edit_of_share app cohort) (settled targeted) (settled shared)
            (accepts_share front app.id fresh (with_among targeted) refl cohort.name cohort.share (cohort_there targeted refl) (valid_cohort before cohort behind cut).shared)
            (settled-set (with_setting (setting.Share cohort.share)) targeted refl)

    -- the content by the cohort's rollback flag, and by its open flag
    abbrev by_rollback : Bool → List App
    by_rollback on = settled (record cohort { rollback = on; hintable = false })

    abbrev by_open : Bool → List App
    by_open on = settled (record cohort { hintable = on })

    makes_settings : Makes (edits_of_settings app cohort) (settled (bare cohort)) (settled cohort)
    makes_settings =
        let closed = record cohort { hintable = false } in
        Makes-append (edits_of_targets app cohort ++ edits_of_share app cohort ++ edits_of_rollback app cohort) (edits_of_open app cohort) (settled (bare cohort)) (by_rollback cohort.rollback) (settled cohort)
        (Makes-append (edits_of_targets app cohort ++ edits_of_share app cohort) (edits_of_rollback app cohort) (settled (bare cohort)) (settled shared) (by_rollback cohort.rollback)
        (Makes-append (edits_of_targets app cohort) (edits_of_share app cohort) (settled (bare cohort)) (settled targeted) (settled shared) makes_targets makes_share)
        (Makes-flag cohort.rollback (edit_of_rollback app cohort) by_rollback
        (accepts_rollback front app.id fresh (with_among shared) refl cohort.name true (cohort_there shared refl))
        (settled-set (with_setting (setting.Rollback true)) shared refl)))
        (Makes-flag cohort.hintable (edit_of_open app cohort) by_open
        (accepts_open front app.id fresh (with_among closed) refl cohort.name true (cohort_there closed refl))
        (settled-set (with_setting (setting.Open true)) closed refl))

  -- the settings of all its cohorts
  makes_all_settings : Makes (flat_map (edits_of_settings app) app.cohorts) (stands (map bare app.cohorts) app.releases app.diffs) (front ++ app ∷ [])
  makes_all_settings =
      Makes-same (flat_map (edits_of_settings app) app.cohorts) (stands (map bare app.cohorts) app.releases app.diffs) (stands (app.cohorts ++ []) app.releases app.diffs) (front ++ app ∷ [])
      (Makes-each (λ before behind. stands (before ++ map bare behind) app.releases app.diffs) (edits_of_settings app) app.cohorts
      (λ before cohort behind cut.
      Makes-same (edits_of_settings app cohort) (stands (before ++ map bare (cohort ∷ behind)) app.releases app.diffs) (stands (before ++ cohort ∷ map bare behind) app.releases app.diffs) (stands ((before ++ cohort ∷ []) ++ map bare behind) app.releases app.diffs)
      (makes_settings before cohort behind cut) (ap (λ (cs : List Cohort). stands cs app.releases app.diffs) (split_next before cohort (map bare behind)))) [] app.cohorts refl)
      (ap (λ (cs : List Cohort). stands cs app.releases app.diffs) (append-nil app.cohorts))

  makes_app : Makes (edits_of_app app) front (front ++ app ∷ [])
  makes_app =
      let cohorts = map bare app.cohorts in
      let first = edit.AddApp (record { app = app.id; default = default_name app.cohorts }) ∷ map (edit_of_cohort app) (drop 1 app.cohorts) in
      let releases = flat_map (edits_of_release app) app.releases in
      let diffs = map (edit_of_diff app) app.diffs in
      let settings = flat_map (edits_of_settings app) app.cohorts in
      Makes-append (first ++ releases ++ diffs) settings front (stands cohorts app.releases app.diffs) (front ++ app ∷ [])
      (Makes-append (first ++ releases) diffs front (stands cohorts app.releases []) (stands cohorts app.releases app.diffs)
      (Makes-append first releases front (stands cohorts [] []) (stands cohorts app.releases [])
      (makes_cohorts app.cohorts refl valid.some_cohort) makes_releases) (makes_diffs cohorts)) makes_all_settings

-- the edits of a valid content are accepted from the empty content on, and make it
pub outcome-edits_of_content :
    VersionLaws →
    LenientAgrees →
    (apps : List App) →
    IsValid apps →
    outcome (edits_of_content apps) [] ≡ Ok apps
outcome-edits_of_content laws agrees apps valid =
    outcome_from-Makes 0 (edits_of_content apps) [] apps
    (Makes-each (λ front back. front) edits_of_app apps
    (λ front app back cut.
    makes_app laws agrees front app back
    (list_any-before is_app front app back (rw cut at valid.ids_once) app.id (bytes_eq-same (lowered app.id)))
    (length-before front app back max_apps (rw cut at valid.few_apps))
    (rw cut at valid.names_once)
    (AllByRecursion-at IsValidApp front app back (rw cut at valid.apps_valid))) [] apps refl)
