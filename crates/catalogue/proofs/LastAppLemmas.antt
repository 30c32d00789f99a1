-- Edits of the last app of a content: when they are accepted, and what they make.
use Rattle.std.proofs.Common.{◌≡◌, ℕ, ◌<◌, ◌||◌, Bool, true, false, not, nat_le, List, [], ◌∷◌, ◌++◌, length, Option, Some, None, refl, ap, ◌∙◌}
use Rattle.std.specs.List.{list_any}
use Rattle.std.specs.Option.{is_none, is_some, option_map_or}
use Rattle.std.specs.Str.{bytes_eq}
use Rattle.std.proofs.lemmas.Bool.{lt-leb, not_from_true, or_from}
use Rattle.std.proofs.lemmas.Slice.Eq.{bytes_eq-Decides}
use Rattle.catalogue.specs.Versions.{is_below, lenient_version_of, version_of}
use Rattle.catalogue.proofs.AppLemmas.{lowered}
use Rattle.catalogue.proofs.MakingLemmas.{None-from_NoneHold}
use Rattle.values.proofs.SplitLemmas.{change-at_item, find-at, find-nowhere}
use Rattle.values.specs.Lists.{change}
use Rattle.catalogue.specs.Edits.{fault_of}
use Rattle.catalogue.specs.Edits.Apps.{tests_of_add_app}
use Rattle.catalogue.specs.Edits.CohortSettings.{is_misspelled, is_unreleased, tests_of_set_open, tests_of_set_rollback, tests_of_set_share, tests_of_set_target}
use Rattle.catalogue.specs.Edits.Cohorts.{tests_of_add_cohort}
use Rattle.catalogue.specs.Edits.Diffs.{tests_of_add_diff}
use Rattle.catalogue.specs.Edits.ReleaseSettings.{tests_of_set_audience, tests_of_set_floor, tests_of_set_stone, tests_of_set_withdrawn}
use Rattle.catalogue.specs.Edits.Releases.{tests_of_add_release}
use Rattle.catalogue.specs.Forms.{hash_named, hash_of, is_app_id, is_cohort_name, is_package_name, is_size}
use Rattle.catalogue.specs.Limits.{max_apps, max_cohorts, max_diffs, max_releases, max_share}
use Rattle.catalogue.specs.Lookups.{app_of, declared_of, has_cohort, has_diff, has_hash, has_release, is_app}
use Rattle.catalogue.specs.Validity.{is_valid_audience}
use Rattle.catalogue.specs.declared.content.App.{App}
use Rattle.values.specs.declared.declared.Declared.{Declared}
use Rattle.catalogue.specs.declared.edit.Edit.TheVariants as edit
use Rattle.catalogue.specs.declared.edits.apps.AddApp.{AddApp}
use Rattle.catalogue.specs.declared.edits.cohort_settings.SetOpen.{SetOpen}
use Rattle.catalogue.specs.declared.edits.cohort_settings.SetRollback.{SetRollback}
use Rattle.catalogue.specs.declared.edits.cohort_settings.SetShare.{SetShare}
use Rattle.catalogue.specs.declared.edits.cohort_settings.SetTarget.{SetTarget}
use Rattle.catalogue.specs.declared.edits.cohorts.AddCohort.{AddCohort}
use Rattle.catalogue.specs.declared.edits.diffs.AddDiff.{AddDiff}
use Rattle.catalogue.specs.declared.edits.release_settings.SetAudience.{SetAudience}
use Rattle.catalogue.specs.declared.edits.release_settings.SetFloor.{SetFloor}
use Rattle.catalogue.specs.declared.edits.release_settings.SetStone.{SetStone}
use Rattle.catalogue.specs.declared.edits.release_settings.SetWithdrawn.{SetWithdrawn}
use Rattle.catalogue.specs.declared.edits.releases.AddRelease.{AddRelease}

-- a string is equal to itself
pub bytes_eq-same : (text : List ℕ) → bytes_eq text text ≡ true
bytes_eq-same text = (bytes_eq-Decides text text).1 refl

-- an app is added after others
pub accepts_app :
    (front : List App) (e : AddApp) →
    is_app_id e.app ≡ true →
    is_cohort_name e.default ≡ true →
    list_any (is_app e.app) front ≡ false →
    length front < max_apps →
    fault_of front (edit.AddApp e) ≡ None
accepts_app front e identified named fresh room =
    let absent = find-nowhere (is_app e.app) front fresh in
    None-from_NoneHold (tests_of_add_app front e)
    (not_from_true _ identified, (not_from_true _ named, (ap (λ (o : Option App). is_some o) absent, (lt-leb max_apps (length front) room, tt))))

module _ (front : List App) (id : List ℕ) (fresh : list_any (is_app id) front ≡ false) where
  -- the last app is found if none before it has its identifier
  app_of-last : (app : App) → app.id ≡ id → app_of (front ++ app ∷ []) id ≡ Some app
  app_of-last app same = find-at (is_app id) front app [] fresh (ap (λ (other : List ℕ). bytes_eq (lowered id) (lowered other)) same ∙ bytes_eq-same (lowered id))

  -- and it is the one that is changed
  pub change-last :
      (f : App → App) (app : App) →
      app.id ≡ id →
      change (is_app id) f (front ++ app ∷ []) ≡ front ++ f app ∷ []
  change-last f app same = change-at_item (is_app id) f front app [] fresh (ap (λ (other : List ℕ). bytes_eq (lowered id) (lowered other)) same ∙ bytes_eq-same (lowered id))

  pub accepts_release :
      (app : App) →
      app.id ≡ id →
      (version name sha256 : List ℕ) (size : ℕ) →
      is_none (version_of version) ≡ false →
      is_none (hash_of sha256) ≡ false →
      is_size size ≡ true →
      is_package_name name ≡ true →
      has_release app.releases (lenient_version_of version) ≡ false →
      list_any (has_hash (hash_named sha256)) app.releases ≡ false →
      declared_of (front ++ app ∷ []) name ≡ None →
      length app.releases < max_releases →
      fault_of (front ++ app ∷ []) (edit.AddRelease (record { app = id; version = version; name = name; size = size; sha256 = sha256 })) ≡ None
  accepts_release app same version name sha256 size spelled hashed sized named new_version new_hash new_name room =
      let apps = front ++ app ∷ [] in
      let e : AddRelease = record { app = id; version = version; name = name; size = size; sha256 = sha256 } in
      let found = app_of-last app same in
      let releases = λ (o : Option App). option_map_or (λ a. a.releases) o [] in
      None-from_NoneHold (tests_of_add_release apps e) (
        ap (λ (o : Option App). is_none o) found,
        (
          spelled,
          (
            hashed,
            (
              not_from_true _ sized,
              (
                not_from_true _ named,
                (
                  ap (λ (o : Option App). has_release (releases o) (lenient_version_of version)) found ∙ new_version,
                  (
                    ap (λ (o : Option App). list_any (has_hash (hash_named sha256)) (releases o)) found ∙ new_hash,
                    (
                      ap (λ (o : Option Declared). is_some o) new_name,
                      (ap (λ (o : Option App). nat_le max_releases (length (releases o))) found ∙ lt-leb max_releases (length app.releases) room, tt),
                    ),
                  ),
                ),
              ),
            ),
          ),
        ),
      )

  pub accepts_cohort :
      (app : App) →
      app.id ≡ id →
      (name : List ℕ) →
      is_cohort_name name ≡ true →
      has_cohort app.cohorts name ≡ false →
      length app.cohorts < max_cohorts →
      fault_of (front ++ app ∷ []) (edit.AddCohort (record { app = id; cohort = name })) ≡ None
  accepts_cohort app same name named new_name room =
      let apps = front ++ app ∷ [] in
      let e : AddCohort = record { app = id; cohort = name } in
      let found = app_of-last app same in
      None-from_NoneHold (tests_of_add_cohort apps e) (
        ap (λ (o : Option App). is_none o) found,
        (
          not_from_true _ named,
          (
            ap (λ (o : Option App). has_cohort (option_map_or (λ a. a.cohorts) o []) name) found ∙ new_name,
            (ap (λ (o : Option App). nat_le max_cohorts (length (option_map_or (λ a. a.cohorts) o []))) found ∙ lt-leb max_cohorts (length app.cohorts) room, tt),
          ),
        ),
      )

  -- the app's cohort of a name is not missed
  cohort_there :
      (app : App) →
      app.id ≡ id →
      (name : List ℕ) →
      has_cohort app.cohorts name ≡ true →
      not (has_cohort (option_map_or (λ a. a.cohorts) (app_of (front ++ app ∷ []) id) []) name) ≡ false
  cohort_there app same name there =
      not_from_true _ (ap (λ (o : Option App). has_cohort (option_map_or (λ a. a.cohorts) o []) name) (app_of-last app same) ∙ there)

  pub accepts_targets :
      (app : App) →
      app.id ≡ id →
      (name : List ℕ) (target held : Option (List ℕ)) →
      has_cohort app.cohorts name ≡ true →
      is_misspelled target ≡ false →
      is_misspelled held ≡ false →
      is_unreleased app.releases target ≡ false →
      is_unreleased app.releases held ≡ false →
      fault_of (front ++ app ∷ []) (edit.SetTarget (record { app = id; cohort = name; target = target; held = held })) ≡ None
  accepts_targets app same name target held there target_spelled held_spelled target_released held_released =
      let apps = front ++ app ∷ [] in
      let e : SetTarget = record { app = id; cohort = name; target = target; held = held } in
      let found = app_of-last app same in
      let released : (is_unreleased app.releases target || is_unreleased app.releases held) ≡ false = or_from _ _ target_released held_released in
      None-from_NoneHold (tests_of_set_target apps e) (
        ap (λ (o : Option App). is_none o) found,
        (
          cohort_there app same name there,
          (
            or_from _ _ target_spelled held_spelled,
            (
              ap (λ (o : Option App). is_unreleased (option_map_or (λ a. a.releases) o []) target || is_unreleased (option_map_or (λ a. a.releases) o []) held) found
                  ∙ released,
              tt,
            ),
          ),
        ),
      )

  pub accepts_share :
      (app : App) →
      app.id ≡ id →
      (name : List ℕ) (share : ℕ) →
      has_cohort app.cohorts name ≡ true →
      nat_le share max_share ≡ true →
      fault_of (front ++ app ∷ []) (edit.SetShare (record { app = id; cohort = name; share = share })) ≡ None
  accepts_share app same name share there within =
      let apps = front ++ app ∷ [] in
      let e : SetShare = record { app = id; cohort = name; share = share } in
      None-from_NoneHold (tests_of_set_share apps e)
      (ap (λ (o : Option App). is_none o) (app_of-last app same), (cohort_there app same name there, (not_from_true _ within, tt)))

  pub accepts_open :
      (app : App) →
      app.id ≡ id →
      (name : List ℕ) (on : Bool) →
      has_cohort app.cohorts name ≡ true →
      fault_of (front ++ app ∷ []) (edit.SetOpen (record { app = id; cohort = name; on = on })) ≡ None
  accepts_open app same name on there =
      let apps = front ++ app ∷ [] in
      let e : SetOpen = record { app = id; cohort = name; on = on } in
      None-from_NoneHold (tests_of_set_open apps e)
      (ap (λ (o : Option App). is_none o) (app_of-last app same), (cohort_there app same name there, tt))

  pub accepts_rollback :
      (app : App) →
      app.id ≡ id →
      (name : List ℕ) (on : Bool) →
      has_cohort app.cohorts name ≡ true →
      fault_of (front ++ app ∷ []) (edit.SetRollback (record { app = id; cohort = name; on = on })) ≡ None
  accepts_rollback app same name on there =
      let apps = front ++ app ∷ [] in
      let e : SetRollback = record { app = id; cohort = name; on = on } in
      None-from_NoneHold (tests_of_set_rollback apps e)
      (ap (λ (o : Option App). is_none o) (app_of-last app same), (cohort_there app same name there, tt))

  -- the app's release of a spelled version is not missed
  release_there :
      (app : App) → app.id ≡ id → (version : List ℕ) → has_release app.releases version ≡ true →
      not (has_release (option_map_or (λ a. a.releases) (app_of (front ++ app ∷ []) id) []) version) ≡ false
  release_there app same version there =
      not_from_true _ (ap (λ (o : Option App). has_release (option_map_or (λ a. a.releases) o []) version) (app_of-last app same) ∙ there)

  pub accepts_stone :
      (app : App) → app.id ≡ id → (text : List ℕ) (on : Bool) → is_none (version_of text) ≡ false →
      has_release app.releases (lenient_version_of text) ≡ true →
      fault_of (front ++ app ∷ []) (edit.SetStone (record { app = id; version = text; on = on })) ≡ None
  accepts_stone app same text on spelled there =
      let apps = front ++ app ∷ [] in
      let e : SetStone = record { app = id; version = text; on = on } in
      None-from_NoneHold (tests_of_set_stone apps e)
      (ap (λ (o : Option App). is_none o) (app_of-last app same), (spelled, (release_there app same (lenient_version_of text) there, tt)))

  pub accepts_withdrawn :
      (app : App) → app.id ≡ id → (text : List ℕ) (on : Bool) → is_none (version_of text) ≡ false →
      has_release app.releases (lenient_version_of text) ≡ true →
      fault_of (front ++ app ∷ []) (edit.SetWithdrawn (record { app = id; version = text; on = on })) ≡ None
  accepts_withdrawn app same text on spelled there =
      let apps = front ++ app ∷ [] in
      let e : SetWithdrawn = record { app = id; version = text; on = on } in
      None-from_NoneHold (tests_of_set_withdrawn apps e)
      (ap (λ (o : Option App). is_none o) (app_of-last app same), (spelled, (release_there app same (lenient_version_of text) there, tt)))

  pub accepts_audience :
      (app : App) → app.id ≡ id → (text : List ℕ) (names : Option (List (List ℕ))) →
      is_none (version_of text) ≡ false → has_release app.releases (lenient_version_of text) ≡ true →
      is_valid_audience app.cohorts names ≡ true →
      fault_of (front ++ app ∷ []) (edit.SetAudience (record { app = id; version = text; cohorts = names })) ≡ None
  accepts_audience app same text names spelled there known =
      let apps = front ++ app ∷ [] in
      let e : SetAudience = record { app = id; version = text; cohorts = names } in
      let found = app_of-last app same in
      None-from_NoneHold (tests_of_set_audience apps e) (
        ap (λ (o : Option App). is_none o) found,
        (
          spelled,
          (
            release_there app same (lenient_version_of text) there,
            (not_from_true _ (ap (λ (o : Option App). is_valid_audience (option_map_or (λ a. a.cohorts) o []) names) found ∙ known), tt),
          ),
        ),
      )

  pub accepts_floor :
      (app : App) → app.id ≡ id → (text floor : List ℕ) → is_none (version_of text) ≡ false →
      is_none (version_of floor) ≡ false → has_release app.releases (lenient_version_of text) ≡ true →
      fault_of (front ++ app ∷ []) (edit.SetFloor (record { app = id; version = text; floor = floor })) ≡ None
  accepts_floor app same text floor spelled floor_spelled there =
      let apps = front ++ app ∷ [] in
      let e : SetFloor = record { app = id; version = text; floor = floor } in
      None-from_NoneHold (tests_of_set_floor apps e) (
        ap (λ (o : Option App). is_none o) (app_of-last app same),
        (spelled, (floor_spelled, (release_there app same (lenient_version_of text) there, tt))),
      )

  pub accepts_diff :
      (app : App) → app.id ≡ id → (e : AddDiff) → e.app ≡ id →
      is_none (version_of e.from) ≡ false → is_none (version_of e.to) ≡ false →
      is_none (hash_of e.sha256) ≡ false → is_size e.size ≡ true → is_package_name e.name ≡ true →
      has_release app.releases (lenient_version_of e.from) ≡ true →
      has_release app.releases (lenient_version_of e.to) ≡ true →
      is_below (lenient_version_of e.from) (lenient_version_of e.to) ≡ true →
      has_diff app.diffs (lenient_version_of e.from, lenient_version_of e.to) ≡ false →
      declared_of (front ++ app ∷ []) e.name ≡ None → length app.diffs < max_diffs →
      fault_of (front ++ app ∷ []) (edit.AddDiff e) ≡ None
  accepts_diff app same e named_id from_spelled to_spelled hashed sized named starts ends upward new_pair new_name room =
      let apps = front ++ app ∷ [] in
      let from = lenient_version_of e.from in
      let to = lenient_version_of e.to in
      let found : app_of apps e.app ≡ Some app = ap (app_of apps) named_id ∙ app_of-last app same in
      let releases = λ (o : Option App). option_map_or (λ a. a.releases) o [] in
      let diffs = λ (o : Option App). option_map_or (λ a. a.diffs) o [] in
      None-from_NoneHold (tests_of_add_diff apps e) (
        ap (λ (o : Option App). is_none o) found,
        (
          or_from _ _ from_spelled to_spelled,
          (
            hashed,
            (
              not_from_true _ sized,
              (
                not_from_true _ named,
                (
                  or_from _ _
                      (not_from_true _ (ap (λ (o : Option App). has_release (releases o) from) found ∙ starts))
                      (not_from_true _ (ap (λ (o : Option App). has_release (releases o) to) found ∙ ends)),
                  (
                    not_from_true _ upward,
                    (
                      ap (λ (o : Option App). has_diff (diffs o) (from, to)) found ∙ new_pair,
                      (
                        ap (λ (o : Option Declared). is_some o) new_name,
                        (ap (λ (o : Option App). nat_le max_diffs (length (diffs o))) found ∙ lt-leb max_diffs (length app.diffs) room, tt),
                      ),
                    ),
                  ),
                ),
              ),
            ),
          ),
        ),
      )
