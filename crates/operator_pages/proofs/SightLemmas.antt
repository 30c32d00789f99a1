-- One app more of those that are looked at.
use Rattle.std.proofs.Common.{◌≡◌, ◌<◌, ◌+◌, ◌++◌, ◌∙◌, ℕ, List, [], ◌∷◌, ap, arith, get_or, length, map, take, true}
use Rattle.std.proofs.lemmas.List.{length-take-le, map_push, take_more}
use Rattle.std.proofs.lemmas.List.Elements.{All-from_recursion}
use Rattle.std.specs.List.{enumerate_from}
use Rattle.values.specs.Ordered.{ascend}
use Rattle.catalogue.specs.Validity.{IsValid, IsValidApp, is_release_below}
use Rattle.catalogue.specs.declared.content.App.{App}
use Rattle.reviews.specs.declared.review.TrackReview.{TrackReview}
use Rattle.operator_pages.specs.AppSights.{sight_by, sights_by}

module _ {A : Type 0} where
  enumerate_from-push : (start : ℕ) (xs : List A) (x : A) →
      enumerate_from start (xs ++ x ∷ []) ≡ enumerate_from start xs ++ (start + length xs, x) ∷ []
  enumerate_from-push start [] x = let same : start ≡ start + 0 = omega arith in ap (λ (k : ℕ). (k, x) ∷ []) same
  enumerate_from-push start (first ∷ xs) x =
      let same : start + 1 + length xs ≡ start + length (first ∷ xs) = omega arith in
      ap (λ (rest : List (ℕ × A)). (start, first) ∷ rest)
      (enumerate_from-push (start + 1) xs x ∙ ap (λ (k : ℕ). enumerate_from (start + 1) xs ++ (k, x) ∷ []) same)

pub sights_by-more :
    (reviews : List TrackReview) (apps : List App) (index : ℕ) (app : App) → index < length apps →
    sights_by reviews (take (index + 1) apps)
    ≡ sights_by reviews (take index apps) ++ sight_by reviews index (get_or apps index app) ∷ []
sights_by-more reviews apps index app within =
    let before = take index apps in
    let next = get_or apps index app in
    let see = λ (numbered : ℕ × App). sight_by reviews numbered.0 numbered.1 in
    let sized : length before ≡ index = length-take-le index apps (omega (arith, within)) in
    let place : 0 + length before ≡ index = omega (arith, sized) in
    ap (sights_by reviews) (take_more apps index app within)
    ∙ ap (map see) (enumerate_from-push 0 before next)
    ∙ map_push see (enumerate_from 0 before) (0 + length before, next)
    ∙ ap (λ (k : ℕ). sights_by reviews before ++ sight_by reviews k next ∷ []) place

-- the releases of an app of a valid content ascend
pub releases-ascend :
    (apps : List App) (index : ℕ) (app : App) → IsValid apps → index < length apps →
    ascend is_release_below (get_or apps index app).releases ≡ true
releases-ascend apps index app valid within =
    (All-from_recursion IsValidApp apps valid.apps_valid index app within).releases_ascend
