-- The tables of pinned clients.
use Rattle.std.proofs.Common.{◌≡◌, ℕ, ◌<◌, true, false, List, [], ◌∷◌, length, map, get_or, Option, None, Some, refl, sym, ap, ◌∙◌, subst, arith}
use Rattle.std.specs.List.{All, AllZip, Any, Contains, cons_option, slice_get}
use Rattle.std.specs.Option.{is_some, option_and_then, option_map, IfSome}
use Rattle.std.proofs.lemmas.List.{get_or_default}
use Rattle.std.proofs.lemmas.List.Elements.{All-tail}
use Rattle.std.proofs.lemmas.Option.{IfSome_then, slice_get_within}
use Rattle.std.proofs.lemmas.Slice.Zip.{AllZip-long}
use Rattle.catalogue.specs.declared.content.App.{App}
use Rattle.catalogue.specs.declared.content.Cohort.{Cohort}
use Rattle.omaha_json.specs.declared.request.AppAsk.{AppAsk}
use Rattle.par_tables.specs.Pieces.{HasTarget}
use Rattle.par_tables.specs.Tables.{Adds, IsTable, net_of_table, nets_of}
use Rattle.payload_graph.specs.Chains.{cohort_target}
use Rattle.payload_graph.specs.Net.{Net, net_among, net_in, net_of}
use Rattle.payload_graph.specs.declared.payload.TrackKey.{TrackKey}
use Rattle.price_cert.specs.Tables.{Certificate}
use Rattle.replies.specs.Pinned.{ArePinnedKeys}
use Rattle.replies.specs.Plans.{ArePinnedTables, HasTable, pinned_key}
use Rattle.replies.proofs.ZipLemmas.{AllZip-at}

-- the graph of a key has that key
net-key : (apps : List App) (key : TrackKey) (net : Net) → net_among apps key ≡ Some net → net.key ≡ key
net-key apps key net is = in_apps (slice_get apps key.app) is
  where
    in_target :
        (app : App) (cohort : Cohort) (target : Option ℕ) → option_map (net_of app key cohort) target ≡ Some net →
        net.key ≡ key
    in_target app cohort None none = cc
    in_target app cohort (Some target) made =
        let same : net_of app key cohort target ≡ net = cc in
        sym (ap (λ (n : Net). n.key) same)

    in_cohort :
        (app : App) (cohort : Option Cohort) →
        option_and_then (λ (c : Cohort). option_map (net_of app key c) (cohort_target app c key)) cohort ≡ Some net →
        net.key ≡ key
    in_cohort app None none = cc
    in_cohort app (Some cohort) made = in_target app cohort (cohort_target app cohort key) made

    in_apps : (app : Option App) → option_and_then (λ (a : App). net_in a key) app ≡ Some net → net.key ≡ key
    in_apps None none = cc
    in_apps (Some app) made = in_cohort app (slice_get app.cohorts key.cohort) made

-- and its app is there
net-app : (apps : List App) (key : TrackKey) (net : Net) → net_among apps key ≡ Some net → key.app < length apps
net-app apps key net is = in_apps (slice_get apps key.app) refl is
  where
    in_apps :
        (app : Option App) → slice_get apps key.app ≡ app → option_and_then (λ (a : App). net_in a key) app ≡ Some net →
        key.app < length apps
    in_apps None there none = cc
    in_apps (Some app) there made = slice_get_within apps key.app app there

module _ (apps : List App) where
  -- the table is that of the track of the key
  abbrev IsOf : TrackKey → Certificate → Type 0
  IsOf key table = net_among apps key ≡ Some table.net

  IsOf-key : (key : TrackKey) (table : Certificate) → IsOf key table → table.net.key ≡ key
  IsOf-key key table is = net-key apps key table.net is

  -- tables that were made of keys are theirs, side by side
  side_by_side :
      (keys : List TrackKey) (tables : List Certificate) → All (HasTarget apps) keys →
      map net_of_table tables ≡ nets_of apps keys → AllZip IsOf keys tables
  side_by_side [] [] targets nets = tt
  side_by_side [] (table ∷ tables) targets nets = cc
  side_by_side (key ∷ keys) tables targets nets =
      found (λ others same. side_by_side keys others (All-tail (HasTarget apps) key keys targets) same) (net_among apps key)
      refl (targets 0 key (omega arith)) tables nets
    where
      found :
          ((others : List Certificate) → map net_of_table others ≡ nets_of apps keys → AllZip IsOf keys others) →
          (net : Option Net) → net_among apps key ≡ net → is_some (net_among apps key) ≡ true →
          (tables : List Certificate) → map net_of_table tables ≡ nets_of apps (key ∷ keys) →
          AllZip IsOf (key ∷ keys) tables
      found more None none some tables nets =
          let clash : false ≡ true = sym (ap (λ (o : Option Net). is_some o) none) ∙ some in
          cc
      found more (Some net) is some [] nets =
          let made : [] ≡ net ∷ nets_of apps keys =
          nets ∙ ap (λ (o : Option Net). cons_option o (nets_of apps keys)) is in
          cc
      found more (Some net) is some (table ∷ tables) nets =
          let made : table.net ∷ map net_of_table tables ≡ net ∷ nets_of apps keys =
          nets ∙ ap (λ (o : Option Net). cons_option o (nets_of apps keys)) is in
          let first : table.net ≡ net = cc in
          let rest : map net_of_table tables ≡ nets_of apps keys = cc in
          (is ∙ ap (λ (n : Net). Some n) (sym first), more tables rest)

  module _ (session : List ℕ) (asks : List AppAsk) (keys : List TrackKey) (tables : List Certificate)
      (pinned : ArePinnedKeys apps session asks (length apps) [] keys) (adds : Adds apps keys [] tables) where
    sides : AllZip IsOf keys tables
    sides = side_by_side keys tables pinned.targets adds.nets

    as_many : length tables ≡ length keys
    as_many = AllZip-long IsOf keys tables sides

    key_at : (index : ℕ) (d : Certificate) (k : TrackKey) → index < length tables →
        (get_or tables index d).net.key ≡ get_or keys index k
    key_at index d k within =
        IsOf-key (get_or keys index k) (get_or tables index d)
        (AllZip-at IsOf keys tables index k d sides (omega (arith, within, as_many)))

    -- the tables of the keys of pinned clients
    pub ArePinnedTables-made : ArePinnedTables apps session asks tables
    ArePinnedTables-made = record {
      certified = adds.certified none;
      own = λ index d within.
          let table = get_or tables index d in
          let is = AllZip-at IsOf keys tables index table.net.key d sides (omega (arith, within, as_many)) in
          ap (net_among apps) (key_at index d table.net.key within) ∙ is;
      each = λ index d within. IfSome_then (pinned_key apps session (get_or asks index d)) (pinned.below index d within) reach;
      once = λ first second d less within same.
          let k = (get_or tables first d).net.key in
          pinned.once first second k less (omega (arith, within, as_many))
          (sym (key_at first d k (omega (arith, less, within))) ∙ same ∙ key_at second d k within);
      asked = λ index d within.
          let k = (get_or tables index d).net.key in
          subst (λ (key : TrackKey). Any (λ (ask : AppAsk). pinned_key apps session ask ≡ Some key) asks)
          (sym (key_at index d k within))
          (pinned.asked index k (omega (arith, within, as_many)));
    }
      where
        none : All IsTable []
        none index d within = absurd (omega arith)

        reach : (key : TrackKey) → (key.app < length apps → HasTarget apps key → Contains keys key) → HasTable apps tables key
        reach key there = by_net (net_among apps key) refl
          where
            by_net :
                (net : Option Net) → net_among apps key ≡ net →
                IfSome net (λ n. Any (λ (table : Certificate). table.net ≡ n) tables)
            by_net None is = tt
            by_net (Some net) is =
                let inside = there (net-app apps key net is) (ap is_some is) in
                let d : Certificate = record { net = net; rows = [] } in
                let within : inside.0 < length tables = omega (arith, inside.1, as_many) in
                let table = get_or tables inside.0 d in
                let at = AllZip-at IsOf keys tables inside.0 key d sides inside.1 in
                let own = ap (net_among apps) (sym inside.2) ∙ at in
                let same : net ≡ table.net = cc in (
                  inside.0,
                  table,
                  within,
                  get_or_default tables inside.0 table d within,
                  sym same,
                )
