-- Pairs of tracks of which an app isn't there, and the lists of changes.
use Rattle.std.proofs.Common.{◌≡◌, ℕ, ◌+◌, ◌++◌, List, [], ◌∷◌, length, ltb, Option, None, Some, sym, ap, ◌∙◌, append_assoc, arith}
use Rattle.std.specs.List.{cons_option, filter_map, range_with_len, slice_get}
use Rattle.std.specs.Option.{is_some, option_map_or}
use Rattle.std.proofs.lemmas.Bool.{ltb-false}
use Rattle.std.proofs.lemmas.List.{append-nil, map-id}
use Rattle.std.proofs.lemmas.List.Elements.{filter_map-append}
use Rattle.std.proofs.lemmas.List.FromFn.{map-range_with_len_more}
use Rattle.std.proofs.lemmas.Option.{slice_get_past}
use Rattle.catalogue.specs.declared.content.App.{App}
use Rattle.review_reports.specs.Changes.{changes_between, changes_of_pair}
use Rattle.review_reports.specs.declared.change.Change.{Change}
use Rattle.reviews.specs.declared.review.TrackReview.{TrackReview}

-- an item that was not found isn't there
pub none-there :
    {Y : Type 0} (found : Option Y) (xs ys : List App) (index : ℕ) → is_some found ≡ ltb index (length xs) → found ≡ None → xs ≡ ys →
    slice_get ys index ≡ None
none-there {Y} found xs ys index test none same =
    ap (λ (zs : List App). slice_get zs index) (sym same)
    ∙ slice_get_past xs index (ltb-false index (length xs) (sym test ∙ ap (λ (o : Option Y). is_some o) none))

module _ (before after : List App) (old new : TrackReview) (changes : List Change) where
  pub without-before : slice_get before old.key.app ≡ None → changes ≡ changes ++ changes_of_pair before after old new
  without-before none =
      sym
      (ap
      (λ (o : Option App). changes ++ option_map_or (λ (one : App). option_map_or (λ (other : App). changes_between one other old new) (slice_get after new.key.app) []) o [])
      none
      ∙ append-nil changes)

  nothing : (o : Option App) → changes ++ option_map_or (λ (one : App). []) o [] ≡ changes
  nothing None = append-nil changes
  nothing (Some app) = append-nil changes

  pub without-after : slice_get after new.key.app ≡ None → changes ≡ changes ++ changes_of_pair before after old new
  without-after none =
      sym
      (ap
      (λ (o : Option App). changes ++ option_map_or (λ (one : App). option_map_or (λ (other : App). changes_between one other old new) o []) (slice_get before old.key.app) [])
      none
      ∙ nothing (slice_get before old.key.app))

-- the indexes below the next one
range-more : (n : ℕ) → range_with_len 0 (n + 1) ≡ range_with_len 0 n ++ n ∷ []
range-more n =
    sym (map-id (range_with_len 0 (n + 1))) ∙ map-range_with_len_more (λ (k : ℕ). k) 0 n n (omega arith)
    ∙ ap (λ (xs : List ℕ). xs ++ n ∷ []) (map-id (range_with_len 0 n))

-- what is found below the next index
filter_map-range :
    {A : Type 0} (f : ℕ → Option A) (n : ℕ) (found : Option A) → f n ≡ found →
    filter_map f (range_with_len 0 (n + 1)) ≡ filter_map f (range_with_len 0 n) ++ cons_option found []
filter_map-range {A} f n found is =
    ap (filter_map f) (range-more n) ∙ filter_map-append f (range_with_len 0 n) (n ∷ [])
    ∙ ap (λ (o : Option A). filter_map f (range_with_len 0 n) ++ cons_option o []) is

-- what is found at the next index comes after the rest
pub filter_map-pushed :
    {A : Type 0} (f : ℕ → Option A) (before now : List A) (n : ℕ) (found : Option A) → f n ≡ found →
    now ≡ before ++ filter_map f (range_with_len 0 n) →
    now ++ cons_option found [] ≡ before ++ filter_map f (range_with_len 0 (n + 1))
filter_map-pushed {A} f before now n found is so_far =
    ap (λ (xs : List A). xs ++ cons_option found []) so_far
    ∙ append_assoc before (filter_map f (range_with_len 0 n)) (cons_option found [])
    ∙ sym (ap (λ (xs : List A). before ++ xs) (filter_map-range f n found is))
