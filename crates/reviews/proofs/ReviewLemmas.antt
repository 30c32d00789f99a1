-- What a certified table says of a track's releases, and the reviews of tables.
use Rattle.std.proofs.Common.{◌≡◌, ℕ, ◌+◌, ◌<◌, ◌≤◌, ◌++◌, inl, inr, true, false, List, [], ◌∷◌, get_or, length, map, take, Option, None, Some, IfSome, refl, sym, ap, ◌∙◌, subst, arith}
use Rattle.std.specs.List.{All, list_any, slice_get}
use Rattle.std.specs.Option.{option_and_then, option_map}
use Rattle.std.proofs.lemmas.Bool.{cases_lt, false≢true}
use Rattle.std.proofs.lemmas.List.{get_or_append_left, get_or_push, map_more, map_push, take_all}
use Rattle.std.proofs.lemmas.List.Elements.{All-push}
use Rattle.std.proofs.lemmas.List.Folds.{list_any_at}
use Rattle.catalogue.specs.declared.content.App.{App}
use Rattle.catalogue.specs.declared.content.Cohort.{Cohort}
use Rattle.payload_graph.specs.Chains.{cohort_target}
use Rattle.payload_graph.specs.Net.{Net, net_among, net_in, net_of}
use Rattle.payload_graph.specs.declared.payload.TrackKey.{TrackKey}
use Rattle.payload_graph.specs.declared.place.Place.{Place}
use Rattle.payload_graph.specs.declared.place.Place.TheVariants.{At}
use Rattle.par_tables.specs.Tables.{AreTables, net_of_table}
use Rattle.price_cert.specs.Laws.{ArePrices}
use Rattle.price_cert.specs.Rows.{price_at, price_of, row_at}
use Rattle.price_cert.specs.Rules.{AreCertified}
use Rattle.price_cert.specs.Tables.{Certificate}
use Rattle.price_cert.specs.declared.row.Row.{Row}
use Rattle.price_cert.specs.declared.row.Row.TheVariants as row
use Rattle.quotes.specs.Quotes.{IsQuote, IsQuoteAmong}
use Rattle.quotes.specs.Sums.{IsPriceOf, PricesAreLeastOnTracks}
use Rattle.quotes.specs.declared.quote.Quote.{Quote}
use Rattle.quotes.specs.declared.quote.Quote.TheVariants as quote
use Rattle.reviews.proofs.ChainLemmas.{length-doors_of}
use Rattle.reviews.specs.Reasons.{Explains, IsReason, IsStuck}
use Rattle.reviews.proofs.ListLemmas.{map-mapped}
use Rattle.reviews.specs.Reviews.{AreReviews, IsOutcome, IsTrackReviewAmong, is_unpriced, outcome_by}
use Rattle.reviews.specs.Tracks.{IsTrackOf}
use Rattle.reviews.specs.declared.cause.Reason.{Reason}
use Rattle.reviews.specs.declared.review.TrackReview.{TrackReview}
use Rattle.reviews.specs.declared.outcome.Outcome.{Outcome}

-- the graph of a track of an app
pub net_in-there :
    (apps : List App) (app : App) (key : TrackKey) (net : Net) → slice_get apps key.app ≡ Some app → net_among apps key ≡ Some net →
    net_in app key ≡ Some net
net_in-there apps app key net there made =
    sym (ap (λ (o : Option App). option_and_then (λ (a : App). net_in a key) o) there) ∙ made

net_in-track :
    (app : App) (key : TrackKey) (cohort : Cohort) (target : ℕ) → IsTrackOf app key cohort target →
    net_in app key ≡ Some (net_of app key cohort target)
net_in-track app key cohort target track =
    ap (λ (o : Option Cohort). option_and_then (λ (c : Cohort). option_map (net_of app key c) (cohort_target app c key)) o) track.cohort_there
    ∙ ap (λ (o : Option ℕ). option_map (net_of app key cohort) o) track.target_there

-- a certified table has a row for each release
pub length-rows :
    (app : App) (key : TrackKey) (cohort : Cohort) (target : ℕ) (net : Net) (rows : List Row) →
    IsTrackOf app key cohort target → net_in app key ≡ Some net → AreCertified net rows → length rows ≡ length app.releases
length-rows app key cohort target net rows track made certified =
    let both : Some (net_of app key cohort target) ≡ Some net = sym (net_in-track app key cohort target track) ∙ made in
    let same : net_of app key cohort target ≡ net = cc in
    certified.sized ∙ ap (λ (n : Net). length n.doors) (sym same) ∙ length-doors_of cohort key.pin app.releases

-- a release with a price isn't stuck
priced-stuck : (app : App) (key : TrackKey) (release : ℕ) (price : Option ℕ) (sum : ℕ) →
    price ≡ Some sum → IsPriceOf app key (At release) price → IsStuck app key release → ⊥
priced-stuck app key release None sum is least stuck = absurd (let clash : None ≡ Some sum = is in cc)
priced-stuck app key release (Some price) sum is least stuck = stuck least.chain least.leads

unpriced-row : (r : Row) → price_of r ≡ None → is_unpriced r ≡ true
unpriced-row row.Nothing none = refl
unpriced-row row.End none = absurd (let clash : Some 0 ≡ None = none in cc)
unpriced-row (row.Price price kind to) none = absurd (let clash : Some price ≡ None = none in cc)

-- if each row has a price, no release is stuck
pub Explains-priced :
    PricesAreLeastOnTracks → (app : App) (key : TrackKey) (cohort : Cohort) (target : ℕ) (net : Net) (rows : List Row) (reasons : List Reason) →
    IsTrackOf app key cohort target → net_in app key ≡ Some net → AreCertified net rows → ArePrices net rows →
    list_any is_unpriced rows ≡ false → Explains app key reasons
Explains-priced least app key cohort target net rows reasons track made certified prices none release within stuck =
    absurd (by_price (price_at rows release) refl)
  where
    size : length rows ≡ length app.releases
    size = length-rows app key cohort target net rows track made certified

    inside : release < length rows
    inside = let same = size in omega arith

    by_price : (price : Option ℕ) → price_at rows release ≡ price → ⊥
    by_price None is =
        false≢true (sym none ∙ list_any_at is_unpriced rows release row.Nothing inside (unpriced-row (row_at rows release) is))
    by_price (Some sum) is =
        priced-stuck app key release (price_at rows release) sum is (least app key net rows release track.valid made prices within) stuck

-- a quote of a release is its outcome
pub IsOutcome-quote :
    (app : App) (key : TrackKey) (release : ℕ) (reason : Reason) (said : Quote) →
    (IsStuck app key release → IsReason app key release reason) → IsQuote app key (At release) said →
    IsOutcome app key release (outcome_by reason said)
IsOutcome-quote app key release reason quote.Here explains is = is
IsOutcome-quote app key release reason (quote.Next payload sum) explains is = is
IsOutcome-quote app key release reason quote.NoChain explains is = (is, explains is)

-- one outcome more
pub each_more :
    (P : ℕ → Outcome → Type 0) (outcomes : List Outcome) (next : Outcome) (count : ℕ) → length outcomes ≡ count →
    ((release : ℕ) (d : Outcome) → release < count → P release (get_or outcomes release d)) → P count next →
    (release : ℕ) (d : Outcome) → release < count + 1 → P release (get_or (outcomes ++ next ∷ []) release d)
each_more P outcomes next count size before last release d within = elim (cases_lt release count) [
  | inl less ↦ subst (P release) (sym (get_or_append_left outcomes (next ∷ []) d release (omega arith))) (before release d less)
  | inr past ↦
      let same : count ≡ release = omega arith in
      subst (λ n. P n (get_or (outcomes ++ next ∷ []) n d)) same (subst (P count) (sym (get_or_push outcomes next d count size)) last)
]

-- a quote among apps is that of the app at its index
pub IsQuote-there :
    (apps : List App) (app : App) (key : TrackKey) (place : Place) (said : Quote) → slice_get apps key.app ≡ Some app →
    IsQuoteAmong apps key place said → IsQuote app key place said
IsQuote-there apps app key place said there is = subst (λ (o : Option App). IfSome o (λ a. IsQuote a key place said)) there is

abbrev key_of : TrackReview → TrackKey
key_of review = review.key

abbrev key_of_table : Certificate → TrackKey
key_of_table table = table.net.key

-- the reviews of the first tables, in their order
pub record AreReviewed (apps : List App) (tables : List Certificate) (count : ℕ) (reviews : List TrackReview) : Type 0 where
  pub tracks : map key_of reviews ≡ map key_of_table (take count tables)
  pub each : All (IsTrackReviewAmong apps) reviews

-- one review more
pub AreReviewed-more :
    (apps : List App) (tables : List Certificate) (count : ℕ) (reviews next : List TrackReview) (review : TrackReview) (table : Certificate) →
    count < length tables → table ≡ get_or tables count table → review.key ≡ table.net.key → IsTrackReviewAmong apps review →
    next ≡ reviews ++ review ∷ [] → AreReviewed apps tables count reviews → AreReviewed apps tables (count + 1) next
AreReviewed-more apps tables count reviews next review table within at own is pushed are =
    let keys : List TrackKey = map key_of_table (take count tables) in
    record {
      tracks =
          ap (λ (xs : List TrackReview). map key_of xs) pushed
          ∙ map_push key_of reviews review
          ∙ ap (λ (xs : List TrackKey). xs ++ review.key ∷ []) are.tracks
          ∙ ap (λ (k : TrackKey). keys ++ k ∷ []) (own ∙ ap key_of_table at)
          ∙ sym (map_more key_of_table tables count table within);
      each =
          subst (λ (xs : List TrackReview). All (IsTrackReviewAmong apps) xs) (sym pushed)
          (All-push (IsTrackReviewAmong apps) reviews review are.each is);
    }

-- those of all tables
pub AreReviews-tables :
    (apps : List App) (tables : List Certificate) (count : ℕ) (reviews : List TrackReview) → AreTables apps tables → length tables ≤ count →
    AreReviewed apps tables count reviews → AreReviews apps reviews
AreReviews-tables apps tables count reviews tabled all are =
    record {
      tracks =
          are.tracks
          ∙ ap (λ (xs : List Certificate). map key_of_table xs) (take_all count tables all)
          ∙ map-mapped net_of_table (λ (net : Net). net.key) tables
          ∙ ap (λ (nets : List Net). map (λ (net : Net). net.key) nets) tabled.nets;
      each = are.each;
    }
