-- The faults of profiles and of scripts, which print as one line.
use Rattle.std.proofs.Common.{◌≡◌, ℕ, ◌+◌, ◌==◌, nat_le, List, [], ◌∷◌, ◌++◌, length, Bool, true, false, cond, Option, Some, None, Result, Ok, Err, codes, decimal, refl}
use Rattle.std.specs.List.{list_any}
use Rattle.std.specs.Option.{ok_or, option_map_or}
use Rattle.toml.specs.Data.{Items, no_items, item, Members, as_bool, as_str}
use Rattle.catalogue.specs.declared.edit.Edit.{Edit}
use Rattle.catalogue.specs.declared.mirror.Mirror.{Mirror}
use Rattle.profile_toml.specs.Fields.{◌>>=◌, as_natural, required}
use Rattle.profile_toml.specs.TableLaws.{IsOneLine}
use Rattle.profile_toml.specs.Lists.{element}
use Rattle.profile_toml.specs.Paths.{invalid_key}
use Rattle.profile_toml.specs.Tables.{PlacedList, PlacedTable, document}
use Rattle.profile_toml.specs.declared.tables.path.BadEntry.{BadEntry}
use Rattle.profile_toml.proofs.TableFaultLemmas.{HasLine, HasLine-cond, HasLine-err, HasLine-ok, HasLine-ok_or, HasLine-then, FailsInOneLine, each_element, knows, needs, needs_list, reads_each, takes, takes_list, takes_strings}
use Rattle.profile_toml.proofs.LineLemmas.{IsOneLine-append, IsOneLine-decimal}
use Rattle.profile_toml.proofs.PathLemmas.{IsOneLine-path_of}
use Rattle.profile_toml.specs.Apps.{app_keys, app_of}
use Rattle.profile_toml.specs.Cohorts.{cohort_keys, cohort_of, cohorts_after, cohorts_of, is_named, new_name}
use Rattle.profile_toml.specs.Diffs.{diff_in, diff_keys, diff_of}
use Rattle.profile_toml.specs.Documents.{document_of, entries, schema_of, schema_read}
use Rattle.profile_toml.specs.FaultStrings.{fault_string}
use Rattle.profile_toml.specs.Mirrors.{invalid_mirror, valid_mirrors, mirror_keys, mirror_of}
use Rattle.profile_toml.specs.Profiles.{profile_keys, profile_of}
use Rattle.profile_toml.specs.Reading.{profile_of_bytes, script_of_bytes}
use Rattle.profile_toml.specs.Releases.{package_in, release_keys, release_of}
use Rattle.profile_toml.specs.ScriptEdits.{app_added, audience_set, cohort_added, diff_added, edit_in, edit_of, floor_set, keys_of_edit, open_set, release_added, rollback_set, share_set, stone_set, target_set, verb_named, verb_of, withdrawn_set}
use Rattle.profile_toml.specs.Scripts.{few_edits, max_edits, script_keys, script_of}
use Rattle.profile_toml.specs.declared.cohort.CohortEntry.{CohortEntry}
use Rattle.profile_toml.specs.declared.document.Schema.{Schema}
use Rattle.profile_toml.specs.declared.document.Schema.TheVariants as schemas
use Rattle.profile_toml.specs.declared.fault.ProfileFault.{ProfileFault}
use Rattle.profile_toml.specs.declared.fault.ProfileFault.TheVariants as fault
use Rattle.profile_toml.specs.declared.script_edit.Verb.{Verb}
use Rattle.profile_toml.specs.declared.script_edit.Verb.TheVariants as verb

FailsInOneLine-mirror_of : FailsInOneLine mirror_of
unfolding mirror_of
FailsInOneLine-mirror_of = λ table at.
    knows mirror_keys table _ at (λ all_known.
    needs as_str (codes "name") table _ at (λ name.
    needs as_str (codes "codebase") table _ at (λ codebase.
    needs as_natural (codes "budget") table _ at (λ budget. HasLine-ok _))))

FailsInOneLine-package_in : FailsInOneLine package_in
unfolding package_in
FailsInOneLine-package_in = λ table at.
    needs as_str (codes "version") table _ at (λ version.
    needs as_str (codes "name") table _ at (λ name.
    needs as_natural (codes "size") table _ at (λ size.
    needs as_str (codes "sha256") table _ at (λ sha256. HasLine-ok _))))

FailsInOneLine-release_of : (schema : Schema) → FailsInOneLine (release_of schema)
unfolding release_of
FailsInOneLine-release_of schema = λ table at.
    knows (release_keys schema) table _ at (λ all_known.
    HasLine-then (package_in table) _ (FailsInOneLine-package_in table at) (λ full.
    takes as_bool (codes "stone") table _ at (λ stone.
    takes as_bool (codes "withdrawn") table _ at (λ withdrawn.
    takes_strings (codes "audience") table _ at (λ audience.
    takes as_str (codes "floor") table _ at (λ floor. HasLine-ok _))))))

FailsInOneLine-diff_in : FailsInOneLine diff_in
unfolding diff_in
FailsInOneLine-diff_in = λ table at.
    needs as_str (codes "from") table _ at (λ from.
    needs as_str (codes "to") table _ at (λ to.
    needs as_str (codes "name") table _ at (λ name.
    needs as_natural (codes "size") table _ at (λ size.
    needs as_str (codes "sha256") table _ at (λ sha256. HasLine-ok _)))))

FailsInOneLine-diff_of : FailsInOneLine diff_of
unfolding diff_of
FailsInOneLine-diff_of = λ table at.
    knows diff_keys table _ at (λ all_known. FailsInOneLine-diff_in table at)

FailsInOneLine-new_name : (before : List CohortEntry) → FailsInOneLine (new_name before)
unfolding new_name
FailsInOneLine-new_name before = λ table at.
    needs as_str (codes "name") table _ at (λ name.
    HasLine-cond (list_any (is_named name) before)
    (Err (invalid_key table.place (codes "name"))) (Ok name)
    (HasLine-err _ (invalid_key table.place (codes "name"))
    (IsOneLine-path_of table.place (codes "name") at))
    (HasLine-ok name))

FailsInOneLine-cohort_of : (before : List CohortEntry) → FailsInOneLine (cohort_of before)
unfolding cohort_of
FailsInOneLine-cohort_of before = λ table at.
    knows cohort_keys table _ at (λ all_known.
    HasLine-then (new_name before table) _ (FailsInOneLine-new_name before table at) (λ name.
    takes as_str (codes "target") table _ at (λ target.
    takes as_str (codes "held") table _ at (λ held.
    takes as_natural (codes "share") table _ at (λ share.
    takes as_bool (codes "rollback") table _ at (λ rolled.
    takes as_bool (codes "open") table _ at (λ opened. HasLine-ok _)))))))

HasLine-cohorts_after : (before : List CohortEntry) (list : List ℕ) (index : ℕ) (items : Items)
    → IsOneLine list → HasLine (cohorts_after before list index items)
HasLine-cohorts_after before list index no_items of_list = HasLine-ok before
HasLine-cohorts_after before list index (item value values) of_list =
    each_element list index value _ of_list (λ table at.
    HasLine-then (cohort_of before table) _ (FailsInOneLine-cohort_of before table at) (λ cohort.
    HasLine-cohorts_after (before ++ cohort ∷ []) list (index + 1) values of_list))

FailsInOneLine-app_of : (schema : Schema) → FailsInOneLine (app_of schema)
unfolding app_of
FailsInOneLine-app_of schema = λ table at.
    knows app_keys table _ at (λ all_known.
    needs as_str (codes "id") table _ at (λ id.
    needs as_str (codes "default") table _ at (λ default.
    takes_list (codes "cohort") table _ at (λ cohort_list at_cohorts.
    takes_list (codes "release") table _ at (λ release_list at_releases.
    takes_list (codes "diff") table _ at (λ diff_list at_diffs.
    HasLine-then (cohorts_of cohort_list) _
    (HasLine-cohorts_after [] cohort_list.path 0 cohort_list.items at_cohorts) (λ cohorts.
    reads_each (release_of schema) release_list _ (FailsInOneLine-release_of schema) at_releases (λ releases.
    reads_each diff_of diff_list _ FailsInOneLine-diff_of at_diffs (λ diffs.
    HasLine-ok _)))))))))

FailsInOneLine-profile_of : (schema : Schema) → FailsInOneLine (profile_of schema)
unfolding profile_of
FailsInOneLine-profile_of schema = λ table at.
    knows profile_keys table _ at (λ all_known.
    needs_list (codes "mirror") table _ at (λ mirror_list at_mirrors.
    takes_list (codes "app") table _ at (λ app_list at_apps.
    reads_each mirror_of mirror_list _ FailsInOneLine-mirror_of at_mirrors (λ mirrors.
    reads_each (app_of schema) app_list _ (FailsInOneLine-app_of schema) at_apps (λ apps. HasLine-ok _)))))

FailsInOneLine-verb_of : (schema : Schema) → FailsInOneLine (verb_of schema)
unfolding verb_of
FailsInOneLine-verb_of schema = λ table at.
    needs as_str (codes "do") table _ at (λ name.
    HasLine-ok_or (verb_named schema name) (invalid_key table.place (codes "do"))
    (IsOneLine-path_of table.place (codes "do") at))

-- what an edit of a script says
FailsInOneLine-edit_in : (kind : Verb) → FailsInOneLine (edit_in kind)
unfolding edit_in app_added release_added cohort_added target_set share_set open_set diff_added stone_set withdrawn_set audience_set floor_set rollback_set
FailsInOneLine-edit_in verb.AddApp = λ table at.
    HasLine-then (app_added table) _
    (knows (keys_of_edit verb.AddApp) table _ at (λ all_known.
    needs as_str (codes "app") table _ at (λ app.
    needs as_str (codes "default") table _ at (λ default. HasLine-ok _)))) (λ e. HasLine-ok _)
FailsInOneLine-edit_in verb.AddRelease = λ table at.
    HasLine-then (release_added table) _
    (knows (keys_of_edit verb.AddRelease) table _ at (λ all_known.
    needs as_str (codes "app") table _ at (λ app.
    HasLine-then (package_in table) _ (FailsInOneLine-package_in table at) (λ full. HasLine-ok _))))
    (λ e. HasLine-ok _)
FailsInOneLine-edit_in verb.AddCohort = λ table at.
    HasLine-then (cohort_added table) _
    (knows (keys_of_edit verb.AddCohort) table _ at (λ all_known.
    needs as_str (codes "app") table _ at (λ app.
    needs as_str (codes "cohort") table _ at (λ cohort. HasLine-ok _)))) (λ e. HasLine-ok _)
FailsInOneLine-edit_in verb.SetTarget = λ table at.
    HasLine-then (target_set table) _
    (knows (keys_of_edit verb.SetTarget) table _ at (λ all_known.
    needs as_str (codes "app") table _ at (λ app.
    needs as_str (codes "cohort") table _ at (λ cohort.
    takes as_str (codes "target") table _ at (λ target.
    takes as_str (codes "held") table _ at (λ held. HasLine-ok _)))))) (λ e. HasLine-ok _)
FailsInOneLine-edit_in verb.SetShare = λ table at.
    HasLine-then (share_set table) _
    (knows (keys_of_edit verb.SetShare) table _ at (λ all_known.
    needs as_str (codes "app") table _ at (λ app.
    needs as_str (codes "cohort") table _ at (λ cohort.
    needs as_natural (codes "share") table _ at (λ share. HasLine-ok _))))) (λ e. HasLine-ok _)
FailsInOneLine-edit_in verb.SetOpen = λ table at.
    HasLine-then (open_set table) _
    (knows (keys_of_edit verb.SetOpen) table _ at (λ all_known.
    needs as_str (codes "app") table _ at (λ app.
    needs as_str (codes "cohort") table _ at (λ cohort.
    needs as_bool (codes "on") table _ at (λ on. HasLine-ok _))))) (λ e. HasLine-ok _)
FailsInOneLine-edit_in verb.AddDiff = λ table at.
    HasLine-then (diff_added table) _
    (knows (keys_of_edit verb.AddDiff) table _ at (λ all_known.
    needs as_str (codes "app") table _ at (λ app.
    HasLine-then (diff_in table) _ (FailsInOneLine-diff_in table at) (λ diff. HasLine-ok _))))
    (λ e. HasLine-ok _)
FailsInOneLine-edit_in verb.SetStone = λ table at.
    HasLine-then (stone_set table) _
    (knows (keys_of_edit verb.SetStone) table _ at (λ all_known.
    needs as_str (codes "app") table _ at (λ app.
    needs as_str (codes "version") table _ at (λ named.
    needs as_bool (codes "on") table _ at (λ on. HasLine-ok _))))) (λ e. HasLine-ok _)
FailsInOneLine-edit_in verb.SetWithdrawn = λ table at.
    HasLine-then (withdrawn_set table) _
    (knows (keys_of_edit verb.SetWithdrawn) table _ at (λ all_known.
    needs as_str (codes "app") table _ at (λ app.
    needs as_str (codes "version") table _ at (λ named.
    needs as_bool (codes "on") table _ at (λ on. HasLine-ok _))))) (λ e. HasLine-ok _)
FailsInOneLine-edit_in verb.SetAudience = λ table at.
    HasLine-then (audience_set table) _
    (knows (keys_of_edit verb.SetAudience) table _ at (λ all_known.
    needs as_str (codes "app") table _ at (λ app.
    needs as_str (codes "version") table _ at (λ version.
    takes_strings (codes "cohorts") table _ at (λ cohorts. HasLine-ok _))))) (λ e. HasLine-ok _)
FailsInOneLine-edit_in verb.SetFloor = λ table at.
    HasLine-then (floor_set table) _
    (knows (keys_of_edit verb.SetFloor) table _ at (λ all_known.
    needs as_str (codes "app") table _ at (λ app.
    needs as_str (codes "version") table _ at (λ named.
    needs as_str (codes "floor") table _ at (λ floor. HasLine-ok _))))) (λ e. HasLine-ok _)
FailsInOneLine-edit_in verb.SetRollback = λ table at.
    HasLine-then (rollback_set table) _
    (knows (keys_of_edit verb.SetRollback) table _ at (λ all_known.
    needs as_str (codes "app") table _ at (λ app.
    needs as_str (codes "cohort") table _ at (λ named.
    needs as_bool (codes "on") table _ at (λ on. HasLine-ok _))))) (λ e. HasLine-ok _)

FailsInOneLine-edit_of : (schema : Schema) → FailsInOneLine (edit_of schema)
unfolding edit_of
FailsInOneLine-edit_of schema = λ table at.
    HasLine-then (verb_of schema table) _ (FailsInOneLine-verb_of schema table at) (λ kind. FailsInOneLine-edit_in kind table at)

FailsInOneLine-script_of : (schema : Schema) → FailsInOneLine (script_of schema)
unfolding script_of
FailsInOneLine-script_of schema = λ table at.
    knows script_keys table _ at (λ all_known.
    needs as_natural (codes "base") table _ at (λ base.
    takes_list (codes "edit") table _ at (λ edit_list at_edits.
    reads_each (edit_of schema) edit_list _ (FailsInOneLine-edit_of schema) at_edits (λ edits. HasLine-ok _))))

-- if there is a fault, it prints as one line
PrintsLine : {A : Type 0} → Result A ProfileFault → Type 0
PrintsLine (Ok value) = Unit {0}
PrintsLine (Err told) = IsOneLine (fault_string told)

PrintsLine-then : {X Y : Type 0}
    (first : Result X ProfileFault) (step : X → Result Y ProfileFault)
    → PrintsLine first → ((x : X) → PrintsLine (step x)) → PrintsLine (first >>= step)
unfolding PrintsLine
PrintsLine-then (Ok x) step of_first of_step = of_step x
PrintsLine-then (Err told) step of_first of_step = of_first

PrintsLine-document : (found : Option Members) → PrintsLine (ok_or found fault.NotToml)
unfolding PrintsLine
PrintsLine-document (Some entry) = tt
PrintsLine-document None = refl

PrintsLine-schema_of : (table : PlacedTable) → PrintsLine (schema_of table)
unfolding PrintsLine
PrintsLine-schema_of table = by_read (required as_natural (codes "schema") table)
  where
    by_tests : (one two : Bool)
        → PrintsLine (cond one (Ok schemas.One) (cond two (Ok schemas.Two) (Err fault.BadSchema)))
    by_tests true two = tt
    by_tests false true = tt
    by_tests false false = refl

    by_read : (read : Result ℕ BadEntry) → PrintsLine (schema_read read)
    by_read (Ok number) = by_tests (number == 1) (number == 2)
    by_read (Err bad) = refl

PrintsLine-entries : {A : Type 0} (read : Result A BadEntry) → HasLine read → PrintsLine (entries read)
unfolding PrintsLine HasLine
PrintsLine-entries (Ok value) line = tt
PrintsLine-entries (Err bad) line = IsOneLine-append (codes "F3 BadEntry ") bad.path refl line

PrintsLine-valid_mirrors : (mirrors : List Mirror) → PrintsLine (valid_mirrors mirrors)
unfolding PrintsLine
PrintsLine-valid_mirrors mirrors = by_index (invalid_mirror mirrors)
  where
    by_index : (bad : Option ℕ)
        → PrintsLine (option_map_or (λ index. Err (fault.BadMirror index)) bad (Ok mirrors))
    by_index None = tt
    by_index (Some index) =
        IsOneLine-append (codes "F4 BadMirror ") (decimal index) refl (IsOneLine-decimal index)

PrintsLine-few_edits : (edits : List Edit) → PrintsLine (few_edits edits)
unfolding PrintsLine
PrintsLine-few_edits edits = by_test (nat_le (length edits) max_edits)
  where
    by_test : (test : Bool) → PrintsLine (cond test (Ok edits) (Err fault.TooManyEdits))
    by_test true = tt
    by_test false = refl

PrintsLine-profile_of_bytes : (text : List ℕ) → PrintsLine (profile_of_bytes text)
unfolding PrintsLine profile_of_bytes
PrintsLine-profile_of_bytes text =
    PrintsLine-then (ok_or (document_of text) fault.NotToml) _
    (PrintsLine-document (document_of text)) (λ members.
    PrintsLine-then (schema_of (document members)) _
    (PrintsLine-schema_of (document members)) (λ schema.
    PrintsLine-then (entries (profile_of schema (document members))) _
    (PrintsLine-entries (profile_of schema (document members)) (FailsInOneLine-profile_of schema (document members) refl))
    (λ profile.
    PrintsLine-then (valid_mirrors profile.mirrors) _ (PrintsLine-valid_mirrors profile.mirrors)
    (λ mirrors. tt))))

PrintsLine-script_of_bytes : (text : List ℕ) → PrintsLine (script_of_bytes text)
unfolding PrintsLine script_of_bytes
PrintsLine-script_of_bytes text =
    PrintsLine-then (ok_or (document_of text) fault.NotToml) _
    (PrintsLine-document (document_of text)) (λ members.
    PrintsLine-then (schema_of (document members)) _
    (PrintsLine-schema_of (document members)) (λ schema.
    PrintsLine-then (entries (script_of schema (document members))) _
    (PrintsLine-entries (script_of schema (document members)) (FailsInOneLine-script_of schema (document members) refl))
    (λ script.
    PrintsLine-then (few_edits script.1) _ (PrintsLine-few_edits script.1) (λ edits. tt))))

told_as : {A : Type 0} (read : Result A ProfileFault) → PrintsLine read
    → (told : ProfileFault) → read ≡ Err told → IsOneLine (fault_string told)
unfolding PrintsLine
told_as (Ok value) line told same = absurd (cc)
told_as (Err first) line told same = let this : first ≡ told = cc (same) in rw (← this) line

pub IsOneLine-profile : (text : List ℕ) (told : ProfileFault)
    → profile_of_bytes text ≡ Err told → IsOneLine (fault_string told)
IsOneLine-profile text told same =
    told_as (profile_of_bytes text) (PrintsLine-profile_of_bytes text) told same

pub IsOneLine-script : (text : List ℕ) (told : ProfileFault)
    → script_of_bytes text ≡ Err told → IsOneLine (fault_string told)
IsOneLine-script text told same =
    told_as (script_of_bytes text) (PrintsLine-script_of_bytes text) told same
