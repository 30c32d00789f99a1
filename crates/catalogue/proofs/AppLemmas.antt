-- What is read of the app of an identifier, after an app is changed or added.
use Rattle.std.proofs.Common.{◌≡◌, ℕ, Bool, true, false, cond, List, [], ◌∷◌, ◌++◌, map, find, Option, Some, None, refl, ap, ◌∙◌}
use Rattle.std.specs.Char.{to_ascii_lowercase}
use Rattle.std.specs.Option.{option_map, option_map_or, option_or}
use Rattle.std.proofs.lemmas.List.Folds.{find-append}
use Rattle.std.proofs.lemmas.Slice.Eq.{bytes_eq-Decides}
use Rattle.values.proofs.LookupLemmas.{find-change, has_key}
use Rattle.values.specs.Lists.{change}
use Rattle.catalogue.specs.Forms.{same_id}
use Rattle.catalogue.specs.Lookups.{app_of, is_app}
use Rattle.catalogue.specs.declared.content.App.{App}

-- an identifier without regard to case
abbrev pub lowered : List ℕ → List ℕ
lowered id = map to_ascii_lowercase id

-- what is read of the app of an identifier, or the value if there is no such app
abbrev pub read_app : {B : Type 0} → (App → B) → B → List App → List ℕ → B
read_app read none apps id = option_map_or read (app_of apps id) none

-- two identifiers of one app find the same
pub app_of-same_id :
    (apps : List App) (id other : List ℕ) →
    same_id id other ≡ true →
    app_of apps id ≡ app_of apps other
app_of-same_id apps id other same =
    let decides = bytes_eq-Decides (lowered id) (lowered other) in
    ap (λ (key : List ℕ). find (has_key (λ (app : App). lowered app.id) key) apps) (decides.0 same)

-- under the changed app's identifier the changed app is found, under any other what was found before
pub app_of-change :
    (f : App → App) →
    ((app : App) → (f app).id ≡ app.id) →
    (apps : List App) (id changed : List ℕ) →
    app_of (change (is_app changed) f apps) id ≡ cond (same_id id changed) (option_map f (app_of apps id)) (app_of apps id)
app_of-change f kept apps id changed =
    find-change (λ (app : App). lowered app.id) f (λ app. ap lowered (kept app)) (lowered id) (lowered changed) apps

-- of the app that an identifier finds under another spelling
pub read_app-same_id :
    {B : Type 0} (read : App → B) (none : B) (apps : List App) (id other : List ℕ) (app : App) →
    same_id id other ≡ true →
    app_of apps other ≡ Some app →
    read_app read none apps id ≡ read app
read_app-same_id read none apps id other app same found =
    ap (λ (o : Option App). option_map_or read o none) (app_of-same_id apps id other same ∙ found)

-- of the changed app what is read of it as it is now, of any other what was read before
pub read_app-change :
    {B : Type 0} (read : App → B) (none : B) (f : App → App) →
    ((app : App) → (f app).id ≡ app.id) →
    (apps : List App) (id changed : List ℕ) (app : App) →
    app_of apps changed ≡ Some app →
    read_app read none (change (is_app changed) f apps) id ≡ cond (same_id id changed) (read (f app)) (read_app read none apps id)
read_app-change read none f kept apps id changed app found =
    ap (λ (o : Option App). option_map_or read o none) (app_of-change f kept apps id changed)
    ∙ cases (same_id id changed) refl
  where
    cases :
        (b : Bool) →
        same_id id changed ≡ b →
        option_map_or read (cond b (option_map f (app_of apps id)) (app_of apps id)) none ≡ cond b (read (f app)) (read_app read none apps id)
    cases true same = ap (λ (o : Option App). option_map_or read (option_map f o) none) (app_of-same_id apps id changed same ∙ found)
    cases false other = refl

-- a change that leaves what is read of each app leaves what is read
pub read_app-kept :
    {B : Type 0} (read : App → B) (none : B) (f : App → App) →
    ((app : App) → (f app).id ≡ app.id) →
    ((app : App) → read (f app) ≡ read app) →
    (apps : List App) (id changed : List ℕ) →
    read_app read none (change (is_app changed) f apps) id ≡ read_app read none apps id
read_app-kept read none f kept same apps id changed =
    ap (λ (o : Option App). option_map_or read o none) (app_of-change f kept apps id changed)
    ∙ cases (same_id id changed) (app_of apps id)
  where
    cases :
        (b : Bool) (o : Option App) →
        option_map_or read (cond b (option_map f o) o) none ≡ option_map_or read o none
    cases true None = refl
    cases true (Some app) = same app
    cases false o = refl

-- an app that is added is read if there was none of its identifier
pub read_app-push :
    {B : Type 0} (read : App → B) (none : B) (apps : List App) (app : App) (id : List ℕ) →
    read_app read none (apps ++ app ∷ []) id ≡ option_map_or read (app_of apps id) (cond (same_id id app.id) (read app) none)
read_app-push read none apps app id =
    ap (λ (o : Option App). option_map_or read o none) (find-append (is_app id) apps (app ∷ []))
    ∙ cases (app_of apps id) (same_id id app.id)
  where
    cases :
        (o : Option App) (b : Bool) →
        option_map_or read (option_or o (cond b (Some app) None)) none ≡ option_map_or read o (cond b (read app) none)
    cases None true = refl
    cases None false = refl
    cases (Some found) b = refl

-- an app that is added and gives what is read if there is none leaves what is read
pub read_app-push_none :
    {B : Type 0} (read : App → B) (none : B) (apps : List App) (app : App) (id : List ℕ) →
    read app ≡ none →
    read_app read none (apps ++ app ∷ []) id ≡ read_app read none apps id
read_app-push_none read none apps app id same =
    read_app-push read none apps app id ∙ ap (option_map_or read (app_of apps id)) (cases (same_id id app.id))
  where
    cases : (b : Bool) → cond b (read app) none ≡ none
    cases true = same
    cases false = refl

-- what is made of what is read is read
pub read_app-then :
    {B C : Type 0} (make : B → C) (read : App → B) (none : B) (apps : List App) (id : List ℕ) →
    make (read_app read none apps id) ≡ read_app (λ app. make (read app)) (make none) apps id
read_app-then make read none apps id = cases (app_of apps id)
  where
    cases : (o : Option App) → make (option_map_or read o none) ≡ option_map_or (λ app. make (read app)) o (make none)
    cases None = refl
    cases (Some app) = refl
