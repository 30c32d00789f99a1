-- A rule that changes no release of an app frees no stuck release.
use Rattle.std.proofs.Common.{◌≡◌, ℕ, ◌&&◌, not, inr, Bool, true, false, cond, List, [], ◌∷◌, map, Option, None, Some, refl, sym, ap, ◌∙◌, subst}
use Rattle.std.specs.List.{list_all}
use Rattle.std.specs.Option.{is_some}
use Rattle.std.specs.Str.{bytes_eq}
use Rattle.std.proofs.lemmas.Bool.{and_parts, false≢true}
use Rattle.std.proofs.lemmas.Slice.Eq.{bytes_eq-Decides}
use Rattle.catalogue.specs.Versions.{zero_version}
use Rattle.catalogue.specs.Lookups.{is_release}
use Rattle.catalogue.specs.declared.content.App.{App}
use Rattle.catalogue.specs.declared.content.Cohort.{Cohort}
use Rattle.catalogue.specs.declared.content.Release.{Release}
use Rattle.payload_graph.specs.declared.payload.TrackKey.{TrackKey}
use Rattle.reviews.specs.Lifts.{is_idle, lifted, lifted_cohort, lifted_release, target_version}
use Rattle.reviews.specs.Reasons.{AreFirst, IsStuck, StaysStuck}
use Rattle.reviews.specs.declared.cause.Cause.{Cause}
use Rattle.reviews.specs.declared.cause.Cause.TheVariants.{Withdrawn, Audience, Stone, Floor, Downgrade}
use Rattle.reviews.specs.declared.cause.Reason.{Reason}

withdrawn-idle : (w t : Bool) → not (w && t) ≡ true → (w && not t) ≡ w
withdrawn-idle true true idle = absurd (false≢true idle)
withdrawn-idle true false idle = refl
withdrawn-idle false t idle = refl

audience-idle : {A : Type 0} (o : Option A) (t : Bool) → not (is_some o && t) ≡ true → cond t None o ≡ o
audience-idle None true idle = refl
audience-idle None false idle = refl
audience-idle (Some a) true idle = absurd (false≢true idle)
audience-idle (Some a) false idle = refl

stone-idle : (s : Bool) → not s ≡ true → false ≡ s
stone-idle true idle = absurd (false≢true idle)
stone-idle false idle = refl

-- items that a function leaves as they are
map-same : {A : Type 0} (f : A → A) (p : A → Bool) → ((x : A) → p x ≡ true → f x ≡ x) → (xs : List A) → list_all p xs ≡ true → map f xs ≡ xs
map-same f p same [] all = refl
map-same {A} f p same (x ∷ xs) all =
    let parts = and_parts (p x) (list_all p xs) all in
    ap (λ (y : A). y ∷ map f xs) (same x parts.0) ∙ ap (λ (ys : List A). x ∷ ys) (map-same f p same xs parts.1)

cohorts-same : (f : Cohort → Cohort) → ((cohort : Cohort) → f cohort ≡ cohort) → (cohorts : List Cohort) → map f cohorts ≡ cohorts
cohorts-same f same [] = refl
cohorts-same f same (cohort ∷ cohorts) =
    ap (λ (c : Cohort). c ∷ map f cohorts) (same cohort) ∙ ap (λ (cs : List Cohort). cohort ∷ cs) (cohorts-same f same cohorts)

-- an app without a rule is the app if its cohorts and its releases are
app-same : (app : App) (cohorts : List Cohort) (releases : List Release) → cohorts ≡ app.cohorts → releases ≡ app.releases → record app { cohorts = cohorts; releases = releases } ≡ app
app-same app cohorts releases same_cohorts same_releases =
    ap (λ (cs : List Cohort). record app { cohorts = cs; releases = releases }) same_cohorts
    ∙ ap (λ (rs : List Release). record app { releases = rs }) same_releases

lifted-idle : (cause : Cause) (app : App) (key : TrackKey) → is_idle cause (target_version app key) app.releases ≡ true → lifted cause app key ≡ app
lifted-idle Withdrawn app key idle =
    app-same app (map (lifted_cohort Withdrawn) app.cohorts) (map (lifted_release Withdrawn (target_version app key)) app.releases)
    (cohorts-same (lifted_cohort Withdrawn) (λ cohort. refl) app.cohorts)
    (map-same (lifted_release Withdrawn (target_version app key))
    (λ (release : Release). not (release.withdrawn && is_release (target_version app key) release))
    (λ release one. ap (λ (b : Bool). record release { withdrawn = b }) (withdrawn-idle release.withdrawn (is_release (target_version app key) release) one))
    app.releases idle)
lifted-idle Audience app key idle =
    app-same app (map (lifted_cohort Audience) app.cohorts) (map (lifted_release Audience (target_version app key)) app.releases)
    (cohorts-same (lifted_cohort Audience) (λ cohort. refl) app.cohorts)
    (map-same (lifted_release Audience (target_version app key))
    (λ (release : Release). not (is_some release.audience && is_release (target_version app key) release))
    (λ release one. ap (λ audience. record release { audience = audience }) (audience-idle release.audience (is_release (target_version app key) release) one))
    app.releases idle)
lifted-idle Stone app key idle =
    app-same app (map (lifted_cohort Stone) app.cohorts) (map (lifted_release Stone (target_version app key)) app.releases)
    (cohorts-same (lifted_cohort Stone) (λ cohort. refl) app.cohorts)
    (map-same (lifted_release Stone (target_version app key)) (λ (release : Release). not release.stone)
    (λ release one. ap (λ (b : Bool). record release { stone = b }) (stone-idle release.stone one)) app.releases idle)
lifted-idle Floor app key idle =
    app-same app (map (lifted_cohort Floor) app.cohorts) (map (lifted_release Floor (target_version app key)) app.releases)
    (cohorts-same (lifted_cohort Floor) (λ cohort. refl) app.cohorts)
    (map-same (lifted_release Floor (target_version app key)) (λ (release : Release). bytes_eq release.floor zero_version)
    (λ release one. ap (λ (v : List ℕ). record release { floor = v }) (sym ((bytes_eq-Decides release.floor zero_version).0 one))) app.releases idle)
lifted-idle Downgrade app key idle = absurd (false≢true idle)

StaysStuck-idle :
    (cause : Cause) (app : App) (key : TrackKey) (release : ℕ) → is_idle cause (target_version app key) app.releases ≡ true →
    IsStuck app key release → StaysStuck app key release cause
StaysStuck-idle Withdrawn app key release idle stuck = subst (λ (a : App). IsStuck a key release) (sym (lifted-idle Withdrawn app key idle)) stuck
StaysStuck-idle Audience app key release idle stuck = subst (λ (a : App). IsStuck a key release) (sym (lifted-idle Audience app key idle)) stuck
StaysStuck-idle Stone app key release idle stuck = subst (λ (a : App). IsStuck a key release) (sym (lifted-idle Stone app key idle)) stuck
StaysStuck-idle Floor app key release idle stuck = subst (λ (a : App). IsStuck a key release) (sym (lifted-idle Floor app key idle)) stuck
StaysStuck-idle Downgrade app key release idle stuck = absurd (false≢true idle)

-- the reasons are the same with such a rule before those that were looked at
pub AreFirst-idle :
    (cause : Cause) (app : App) (key : TrackKey) (causes : List Cause) (reasons : List Reason) →
    is_idle cause (target_version app key) app.releases ≡ true → AreFirst app key causes reasons → AreFirst app key (cause ∷ causes) reasons
AreFirst-idle cause app key causes reasons idle first = record {
  sized = first.sized;
  first = λ release within stuck. inr (StaysStuck-idle cause app key release idle stuck, first.first release within stuck);
}
