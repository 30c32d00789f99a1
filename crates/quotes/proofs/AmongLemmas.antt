-- The quotes of an app of a content.
use Rattle.std.proofs.Common.{◌≡◌, ℕ, ◌<◌, List, [], length, Option, None, Some, refl, sym, ap, ◌∙◌, subst}
use Rattle.std.specs.List.{slice_get}
use Rattle.std.specs.Option.{option_and_then, option_map_or, IfSome}
use Rattle.std.proofs.lemmas.List.Elements.{All-from_recursion}
use Rattle.std.proofs.lemmas.Option.{get_or_from_slice_get, slice_get_within}
use Rattle.catalogue.specs.VersionLaws.{BelowIsIrreflexive}
use Rattle.catalogue.specs.Lookups.{diffs_at, releases_at}
use Rattle.catalogue.specs.Validity.{IsValid, IsValidApp}
use Rattle.catalogue.specs.declared.content.App.{App}
use Rattle.catalogue.specs.declared.content.Diff.{Diff}
use Rattle.catalogue.specs.declared.content.Release.{Release}
use Rattle.payload_graph.specs.declared.payload.TrackKey.{TrackKey}
use Rattle.payload_graph.specs.declared.place.Place.TheVariants.{At}
use Rattle.payload_graph.specs.Laws.{DiffersArePermitted, FullsArePermitted}
use Rattle.payload_graph.specs.Net.{Net, net_among, net_in}
use Rattle.price_cert.specs.Laws.{ArePrices}
use Rattle.price_cert.specs.Rows.{row_at}
use Rattle.price_cert.specs.Rules.{AreCertified}
use Rattle.price_cert.specs.declared.row.Row.{Row}
use Rattle.quotes.proofs.QuoteLemmas.{length-rows, quote-served}
use Rattle.quotes.specs.Quotes.{IsQuote, IsQuoteAmong, row_quote}

-- the app of a graph's key
pub record HasApp (apps : List App) (key : TrackKey) (net : Net) : Type 0 where
  pub app : App
  pub there : slice_get apps key.app ≡ Some app
  pub made : net_in app key ≡ Some net
  pub valid : IsValidApp app

pub HasApp-net_among :
    (apps : List App) (key : TrackKey) (net : Net) →
    IsValid apps → net_among apps key ≡ Some net → HasApp apps key net
HasApp-net_among apps key net valid made = cases (slice_get apps key.app) refl made
  where
    cases :
        (app : Option App) → slice_get apps key.app ≡ app →
        option_and_then (λ app. net_in app key) app ≡ Some net → HasApp apps key net
    cases None there made = cc
    cases (Some app) there made =
        let within = slice_get_within apps key.app app there in
        record {
          app = app;
          there = there;
          made = made;
          valid = subst IsValidApp (get_or_from_slice_get apps key.app app app there) (All-from_recursion IsValidApp apps valid.apps_valid key.app app within);
        }

module _ (irreflexive : BelowIsIrreflexive) (fulls : FullsArePermitted) (differs : DiffersArePermitted) (apps : List App) (key : TrackKey) (net : Net) (rows : List Row) (valid : IsValid apps) (made : net_among apps key ≡ Some net) (certified : AreCertified net rows) (are : ArePrices net rows) where
  has : HasApp apps key net
  has = HasApp-net_among apps key net valid made

  releases_are : releases_at apps key.app ≡ has.app.releases
  releases_are = ap (λ (o : Option App). option_map_or (λ (app : App). app.releases) o []) has.there

  diffs_are : diffs_at apps key.app ≡ has.app.diffs
  diffs_are = ap (λ (o : Option App). option_map_or (λ (app : App). app.diffs) o []) has.there

  pub length-rows_among : length rows ≡ length (releases_at apps key.app)
  length-rows_among =
      length-rows irreflexive fulls differs has.app key net rows has.valid has.made certified are
      ∙ sym (ap (λ (releases : List Release). length releases) releases_are)

  pub quote-among :
      (release : ℕ) → release < length (releases_at apps key.app) →
      IsQuoteAmong apps key (At release) (row_quote (releases_at apps key.app) (diffs_at apps key.app) release (row_at rows release))
  quote-among release within =
      let inside = subst (λ (releases : List Release). release < length releases) releases_are within in
      let quote = quote-served irreflexive fulls differs has.app key net rows has.valid has.made certified are release inside in
      let own = subst (λ (diffs : List Diff). IsQuote has.app key (At release) (row_quote has.app.releases diffs release (row_at rows release))) (sym diffs_are) quote in
      let all = subst (λ (releases : List Release). IsQuote has.app key (At release) (row_quote releases (diffs_at apps key.app) release (row_at rows release))) (sym releases_are) own in
      subst (λ (o : Option App). IfSome o (λ app. IsQuote app key (At release) (row_quote (releases_at apps key.app) (diffs_at apps key.app) release (row_at rows release)))) (sym has.there) all
