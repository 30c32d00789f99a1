-- The tables of an edition, and those of a plan, certify the plan.
use Rattle.std.proofs.Common.{◌≡◌, ℕ, zero, suc, ◌+◌, ◌<◌, inl, inr, not, Bool, true, false, cond, eqb, List, [], ◌∷◌, ◌++◌, length, get_or, Option, None, Some, refl, sym, ap, ◌∙◌, subst, arith}
use Rattle.std.specs.List.{All, Any, find, list_all, position_or_len, range_with_len}
use Rattle.std.specs.Option.{is_none, option_and_then, option_map_or, IfSome}
use Rattle.std.proofs.lemmas.Bool.{and_from, eq-eqb, false≢true}
use Rattle.std.proofs.lemmas.List.{get_or-append-add, get_or_append_left, length-append}
use Rattle.std.proofs.lemmas.List.Elements.{All-head, All-tail}
use Rattle.std.proofs.lemmas.List.Folds.{find_at}
use Rattle.std.proofs.lemmas.Option.{get_or_from_slice_get, slice_get_within}
use Rattle.catalogue.specs.Histories.{HistoriesAreValid}
use Rattle.cohorts.specs.Offers.{is_any}
use Rattle.cohorts.specs.declared.pin.Pin.{Pin}
use Rattle.cohorts.specs.declared.pin.Pin.TheVariants as pin
use Rattle.editions.specs.Editions.{content_of}
use Rattle.omaha_json.specs.declared.request.AppAsk.{AppAsk}
use Rattle.par_tables.specs.Tables.{AreTables, IsTable, TracksHaveTables}
use Rattle.payload_graph.specs.Net.{Net, net_among, net_in}
use Rattle.payload_graph.specs.declared.payload.TrackKey.{TrackKey}
use Rattle.price_cert.specs.Rules.{AreCertified, broken_at}
use Rattle.price_cert.specs.Tables.{Certificate}
use Rattle.price_cert.specs.declared.row.Row.{Row}
use Rattle.price_cert.specs.declared.rules.Rule.{Rule}
use Rattle.quotes.specs.ByRows.{CertifiedRowsQuote}
use Rattle.catalogue.specs.declared.content.App.{App}
use Rattle.replies.specs.Clients.{Client, is_pinned, key_of}
use Rattle.replies.specs.Plans.{HasTable, client_to_update, pinned_key}
use Rattle.theorems.specs.Laws.{PlansAreOne, TrackGraphsAreGraphs}
use Rattle.theorems.specs.Choices.{AreStored, Tables, are_rows_for, are_rows_of, choices_of, graph_for, pass_check}
use Rattle.theorems.specs.InterleavingLaws.{PlansAreByPrices}
use Rattle.theorems.proofs.EventChoiceLemmas.{IsPlan-choices_of}
use Rattle.theorems.proofs.ClientLemmas.{Wants, Wants-client, same-rollback}
use Rattle.theorems.proofs.KeptLemmas.{IsValid-content}

-- a test that holds of each index holds of a range
all-range :
    (test : ℕ → Bool) (start count : ℕ) → ((k : ℕ) → k < start + count → test k ≡ true) →
    list_all test (range_with_len start count) ≡ true
all-range test start zero holds = refl
all-range test start (suc count) holds =
    and_from (test start) (list_all test (range_with_len (start + 1) count)) (holds start (omega arith))
    (all-range test (start + 1) count (λ k within. holds k (omega arith)))

-- certified rows pass the check
pub passed-AreCertified : (net : Net) (rows : List Row) → AreCertified net rows → pass_check net rows ≡ true
passed-AreCertified net rows certified =
    let count = length net.doors in
    let unbroken = λ (from : ℕ). is_none (broken_at net rows from) in
    and_from (eqb (length rows) count) (list_all unbroken (range_with_len 0 count))
    (eq-eqb (length rows) count certified.sized)
    (all-range unbroken 0 count
    (λ from within. ap (λ (o : Option Rule). is_none o) (certified.right from (omega arith))))

-- a pin that allows any version is that one
is_any-Any : (p : Pin) → is_any p ≡ true → p ≡ pin.Any
is_any-Any pin.Any is = refl
is_any-Any (pin.Prefix version count) is = cc
is_any-Any (pin.Only version) is = cc
is_any-Any pin.Nothing is = cc

-- what a search finds
record Found {A : Type 0} (test : A → Bool) (items : List A) : Type 0 where
  item : A
  is : find test items ≡ Some item
  passed : test item ≡ true

-- a search finds something if an item passes
Found-at :
    {A : Type 0} (test : A → Bool) (items : List A) (index : ℕ) (d : A) → index < length items →
    test (get_or items index d) ≡ true → Found test items
Found-at test [] index d within passed = absurd (omega arith)
Found-at {A} test (first ∷ items) index d within passed =
    by_test (λ place inside does. Found-at test items place d inside does) (test first) refl index within passed
  where
    by_test :
        ((place : ℕ) → place < length items → test (get_or items place d) ≡ true → Found test items) →
        (passes : Bool) → test first ≡ passes → (place : ℕ) → place < length (first ∷ items) →
        test (get_or (first ∷ items) place d) ≡ true → Found test (first ∷ items)
    by_test rest true is place within passed = record {
      item = first;
      is = ap (λ (b : Bool). cond b (Some first) (find test items)) is;
      passed = is;
    }
    by_test rest false is zero within passed = absurd (false≢true (sym is ∙ passed))
    by_test rest false is (suc place) within passed =
        let found = rest place (omega arith) passed in
        record {
          item = found.item;
          is = ap (λ (b : Bool). cond b (Some first) (find test items)) is ∙ found.is;
          passed = found.passed;
        }

module _ (tracks : TracksHaveTables) (apps : List App) (tables own : List Certificate) (are : AreTables apps tables)
    (session : List ℕ) where
  -- the tables of an edition, and those of a plan
  stored : List Certificate
  stored = tables ++ own

  -- the rows of a table pass the check for an ask
  abbrev passes : AppAsk → Certificate → Bool
  passes ask table = are_rows_of apps session (λ (a : AppAsk). table.rows) ask

  abbrev rows_in : Option Certificate → List Row
  rows_in found = option_map_or (λ (table : Certificate). table.rows) found []

  -- the rows for an ask: those of the first table that pass
  rows_of : Tables
  rows_of ask = rows_in (find (passes ask) stored)

  AreStored-rows_of : (ask : AppAsk) → AreStored stored (rows_of ask)
  unfolding rows_of
  AreStored-rows_of ask = by_table (find (passes ask) stored) refl
    where
      by_table : (found : Option Certificate) → find (passes ask) stored ≡ found → AreStored stored (rows_in found)
      by_table None is = inl refl
      by_table (Some table) is =
          let there = sym (find_at (passes ask) stored) ∙ is in
          let within = slice_get_within stored (position_or_len (passes ask) stored) table there in
          inr (
            position_or_len (passes ask) stored,
            table,
            within,
            get_or_from_slice_get stored (position_or_len (passes ask) stored) table table there,
            refl,
          )

  -- a stored table of a graph
  record HasStored (net : Net) : Type 0 where
    index : ℕ
    table : Certificate
    within : index < length stored
    at : get_or stored index table ≡ table
    same : table.net ≡ net
    is : IsTable table

  HasStored-edition : (net : Net) → Any (λ (table : Certificate). table.net ≡ net) tables → HasStored net
  unfolding stored
  HasStored-edition net (index, table, within, at, same) = record {
    index = index;
    table = table;
    within = omega (arith, within, length-append tables own);
    at = get_or_append_left tables own table index within ∙ at;
    same = same;
    is = subst IsTable at (are.certified index table within);
  }

  HasStored-plan :
      (net : Net) → All IsTable own → Any (λ (table : Certificate). table.net ≡ net) own → HasStored net
  unfolding stored
  HasStored-plan net certified (index, table, within, at, same) = record {
    index = length tables + index;
    table = table;
    within = omega (arith, within, length-append tables own);
    at = get_or-append-add tables own index table ∙ at;
    same = same;
    is = subst IsTable at (certified index table within);
  }

  module _ (certified : All IsTable own) (ask : AppAsk)
      (has : IfSome (pinned_key apps session ask) (HasTable apps own)) where
    HasStored-client :
        (client : Client) (net : Net) → client_to_update apps session ask ≡ Some client → graph_for client ≡ Some net →
        HasStored net
    HasStored-client client net is made = by_pin (is_any (key_of client).pin) refl
      where
        wants : Wants apps session ask client
        wants = Wants-client apps session ask client is

        among : net_among apps (key_of client) ≡ Some net
        among =
            ap (λ (o : Option App). option_and_then (λ (app : App). net_in app (key_of client)) o) wants.there
            ∙ made

        by_pin : (any : Bool) → is_any (key_of client).pin ≡ any → HasStored net
        by_pin true any =
            HasStored-edition net
            (tracks apps tables (key_of client) net are among (same-rollback apps session ask client wants net made)
            (is_any-Any (key_of client).pin any))
        by_pin false pinned =
            let keyed : pinned_key apps session ask ≡ Some (key_of client) =
            ap (λ (o : Option Client). option_and_then (λ (c : Client). cond (is_pinned c) (Some (key_of c)) None) o) is
            ∙ ap (λ (b : Bool). cond (not b) (Some (key_of client)) None) pinned in
            let table = subst (λ (o : Option TrackKey). IfSome o (HasTable apps own)) keyed has in
            HasStored-plan net certified
            (subst (λ (o : Option Net). IfSome o (λ n. Any (λ (t : Certificate). t.net ≡ n) own)) among table)

    pass-found :
        (client : Client) (net : Net) → client_to_update apps session ask ≡ Some client → graph_for client ≡ Some net →
        are_rows_of apps session rows_of ask ≡ true
    unfolding rows_of
    pass-found client net is made =
        let has = HasStored-client client net is made in
        let rows = has.table.rows in
        let right = subst (λ (n : Net). AreCertified n rows) has.same has.is.certified in
        let pass : passes ask has.table ≡ true =
        ap (λ (o : Option Client). option_map_or (are_rows_for rows) o true) is
        ∙ ap (λ (o : Option Net). option_map_or (λ (n : Net). pass_check n rows) o true) made
        ∙ passed-AreCertified net rows right in
        let found = Found-at (passes ask) stored has.index has.table has.within (ap (passes ask) has.at ∙ pass) in
        ap (λ (o : Option Certificate). are_rows_of apps session (λ (a : AppAsk). rows_in o) ask) found.is
        ∙ found.passed

    pass-rows_of : are_rows_of apps session rows_of ask ≡ true
    pass-rows_of = by_client (client_to_update apps session ask) refl
      where
        by_graph :
            (client : Client) (net : Option Net) → client_to_update apps session ask ≡ Some client →
            graph_for client ≡ net → are_rows_of apps session rows_of ask ≡ true
        by_graph client None is none =
            ap (λ (o : Option Client). option_map_or (are_rows_for (rows_of ask)) o true) is
            ∙ ap (λ (o : Option Net). option_map_or (λ (n : Net). pass_check n (rows_of ask)) o true) none
        by_graph client (Some net) is made = pass-found client net is made

        by_client :
            (client : Option Client) → client_to_update apps session ask ≡ client →
            are_rows_of apps session rows_of ask ≡ true
        by_client None is = ap (λ (o : Option Client). option_map_or (are_rows_for (rows_of ask)) o true) is
        by_client (Some client) is = by_graph client (graph_for client) is refl

  all-pass :
      All IsTable own → (asks : List AppAsk) →
      All (λ (ask : AppAsk). IfSome (pinned_key apps session ask) (HasTable apps own)) asks →
      list_all (are_rows_of apps session rows_of) asks ≡ true
  all-pass certified [] each = refl
  all-pass certified (ask ∷ asks) each =
      and_from (are_rows_of apps session rows_of ask) (list_all (are_rows_of apps session rows_of) asks)
      (pass-rows_of certified ask
      (All-head (λ (a : AppAsk). IfSome (pinned_key apps session a) (HasTable apps own)) ask asks each))
      (all-pass certified asks
      (All-tail (λ (a : AppAsk). IfSome (pinned_key apps session a) (HasTable apps own)) ask asks each))

pub plans_are_by_prices :
    HistoriesAreValid → CertifiedRowsQuote → TrackGraphsAreGraphs → TracksHaveTables → PlansAreOne → PlansAreByPrices
unfolding stored
plans_are_by_prices are_valid quotes graphs tracks one history tables request plan are planned =
    let apps = content_of history in
    let rows = rows_of tracks apps tables plan.tables are request.session in
    let pass = all-pass tracks apps tables plan.tables are request.session planned.priced.certified request.apps
    planned.priced.each in
    record {
      tables = rows;
      own = AreStored-rows_of tracks apps tables plan.tables are request.session;
      certified = pass;
      chosen = one history request (choices_of apps request rows) plan.choices
          (IsPlan-choices_of quotes graphs apps (IsValid-content are_valid history) request rows pass) planned.chosen;
    }
