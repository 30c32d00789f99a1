-- The numbers of a valid content and of valid mirrors are below 2^63, as TOML's integers are.
use Rattle.std.proofs.Common.{◌≡◌, ℕ, ◌<◌, ◌^◌, Bool, true, nat_le, List, [], ◌∷◌, arith}
use Rattle.std.specs.List.{AllByRecursion, list_all}
use Rattle.std.proofs.lemmas.Bool.{and_parts, leb-true}
use Rattle.catalogue.specs.Forms.{is_hash, is_size}
use Rattle.catalogue.specs.Limits.{max_share}
use Rattle.catalogue.specs.Mirrors.{is_mirror, max_budget}
use Rattle.catalogue.specs.Validity.{is_valid_audience, is_valid_cohort, is_valid_diff, is_valid_release, is_released}
use Rattle.catalogue.specs.declared.content.Cohort.{Cohort}
use Rattle.catalogue.specs.declared.content.Diff.{Diff}
use Rattle.catalogue.specs.declared.content.Release.{Release}
use Rattle.catalogue.specs.declared.mirror.Mirror.{Mirror}

all_from_test : {A : Type 0} (test : A → Bool) (P : A → Type 0) → ((x : A) → test x ≡ true → P x)
    → (xs : List A) → list_all test xs ≡ true → AllByRecursion P xs
all_from_test test P step [] all = tt
all_from_test test P step (x ∷ xs) all =
    let parts = and_parts (test x) (list_all test xs) all in
    (step x parts.0, all_from_test test P step xs parts.1)

below-is_size : (size : ℕ) → is_size size ≡ true → size < 2 ^ 63
below-is_size size sized =
    let most = leb-true size (2 ^ 40) (and_parts (nat_le 1 size) (nat_le size (2 ^ 40)) sized).1 in omega arith

below-is_valid_release : (cohorts : List Cohort) (release : Release)
    → is_valid_release cohorts release ≡ true → release.size < 2 ^ 63
below-is_valid_release cohorts release good =
    let open_to = and_parts _ (is_valid_audience cohorts release.audience) good in
    let hashed = and_parts _ (is_hash release.hash) open_to.0 in
    let sized = and_parts _ (is_size release.size) hashed.0 in
    below-is_size release.size sized.1

below-is_valid_diff : (releases : List Release) (diff : Diff)
    → is_valid_diff releases diff ≡ true → diff.size < 2 ^ 63
below-is_valid_diff releases diff good =
    let hashed = and_parts _ (is_hash diff.hash) good in
    let sized = and_parts _ (is_size diff.size) hashed.0 in
    below-is_size diff.size sized.1

below-is_valid_cohort : (releases : List Release) (cohort : Cohort)
    → is_valid_cohort releases cohort ≡ true → cohort.share < 2 ^ 63
below-is_valid_cohort releases cohort good =
    let held = and_parts _ (is_released releases cohort.held) good in
    let target = and_parts _ (is_released releases cohort.target) held.0 in
    let share = and_parts _ (nat_le cohort.share max_share) target.0 in
    let most = leb-true cohort.share max_share share.1 in omega arith

below-is_mirror : (mirror : Mirror) → is_mirror mirror ≡ true → mirror.budget < 2 ^ 63
below-is_mirror mirror good =
    let most = leb-true mirror.budget max_budget (and_parts _ (nat_le mirror.budget max_budget) good).1 in omega arith

pub releases_below : (cohorts : List Cohort) (releases : List Release)
    → list_all (is_valid_release cohorts) releases ≡ true → AllByRecursion (λ release. release.size < 2 ^ 63) releases
releases_below cohorts releases good =
    all_from_test (is_valid_release cohorts) (λ release. release.size < 2 ^ 63) (below-is_valid_release cohorts) releases good

pub diffs_below : (releases : List Release) (diffs : List Diff)
    → list_all (is_valid_diff releases) diffs ≡ true → AllByRecursion (λ diff. diff.size < 2 ^ 63) diffs
diffs_below releases diffs good =
    all_from_test (is_valid_diff releases) (λ diff. diff.size < 2 ^ 63) (below-is_valid_diff releases) diffs good

pub cohorts_below : (releases : List Release) (cohorts : List Cohort)
    → list_all (is_valid_cohort releases) cohorts ≡ true → AllByRecursion (λ cohort. cohort.share < 2 ^ 63) cohorts
cohorts_below releases cohorts good =
    all_from_test (is_valid_cohort releases) (λ cohort. cohort.share < 2 ^ 63) (below-is_valid_cohort releases) cohorts good

pub mirrors_below : (mirrors : List Mirror)
    → list_all is_mirror mirrors ≡ true → AllByRecursion (λ mirror. mirror.budget < 2 ^ 63) mirrors
mirrors_below mirrors good =
    all_from_test is_mirror (λ mirror. mirror.budget < 2 ^ 63) below-is_mirror mirrors good
