-- Where tables are found, when more are added.
use Rattle.std.proofs.Common.{◌≡◌, ℕ, ◌+◌, ◌-◌, ◌<◌, ◌≤◌, inl, inr, List, [], ◌∷◌, ◌++◌, get_or, length, Option, None, Some, refl, sym, ap, ◌∙◌, subst, arith}
use Rattle.std.specs.List.{All, filter_map, slice_get}
use Rattle.std.specs.Option.{option_and_then, option_map}
use Rattle.std.proofs.lemmas.Bool.{cases_lt}
use Rattle.std.proofs.lemmas.List.{get_or_append_left, length-append}
use Rattle.std.proofs.Math.Seq.{get_or-append_right}
use Rattle.std.proofs.lemmas.List.Elements.{All-append, All-cons, All-head, All-nil, All-tail, filter_map-append}
use Rattle.std.proofs.lemmas.Option.{get_or_from_slice_get, slice_get-get_or, slice_get_within}
use Rattle.catalogue.specs.declared.content.App.{App}
use Rattle.catalogue.specs.declared.content.Cohort.{Cohort}
use Rattle.payload_graph.specs.Chains.{cohort_target}
use Rattle.payload_graph.specs.declared.payload.TrackKey.{TrackKey}
use Rattle.payload_graph.specs.Net.{Net, net_among, net_in, net_of}
use Rattle.par_tables.proofs.KeyLemmas.{IsOfCohort}
use Rattle.par_tables.specs.Places.{ArePlaced, IsPlaced, start_of}
use Rattle.par_tables.specs.Tables.{nets_of}

-- the graph of a track has its key
pub net_among-key : (apps : List App) (key : TrackKey) (net : Net) → net_among apps key ≡ Some net → net.key ≡ key
net_among-key apps key net there = in_apps (slice_get apps key.app) there
  where
    in_target : (app : App) (cohort : Cohort) (found : Option ℕ) → option_map (net_of app key cohort) found ≡ Some net → net.key ≡ key
    in_target app cohort None there = cc
    in_target app cohort (Some target) there =
        let same : net_of app key cohort target ≡ net = cc in
        sym (ap (λ (n : Net). n.key) same)

    in_cohorts : (app : App) (found : Option Cohort) → option_and_then (λ cohort. option_map (net_of app key cohort) (cohort_target app cohort key)) found ≡ Some net → net.key ≡ key
    in_cohorts app None there = cc
    in_cohorts app (Some cohort) there = in_target app cohort (cohort_target app cohort key) there

    in_apps : (found : Option App) → option_and_then (λ app. net_in app key) found ≡ Some net → net.key ≡ key
    in_apps None there = cc
    in_apps (Some app) there = in_cohorts app (slice_get app.cohorts key.cohort) there

-- one graph at most
abbrev pub found_net : Option Net → List Net
found_net found = filter_map (λ (n : ℕ). found) (0 ∷ [])

pub nets_of-cons : (apps : List App) (key : TrackKey) (keys : List TrackKey) → nets_of apps (key ∷ keys) ≡ found_net (net_among apps key) ++ nets_of apps keys
nets_of-cons apps key keys = filter_map-append (net_among apps) (key ∷ []) keys

-- what holds of each key holds of the graphs' keys
pub All-nets_of : (P : TrackKey → Type 0) (apps : List App) (keys : List TrackKey) → All P keys → All (λ (net : Net). P net.key) (nets_of apps keys)
All-nets_of P apps [] all = All-nil (λ (net : Net). P net.key)
All-nets_of P apps (key ∷ keys) all =
    subst (All (λ (net : Net). P net.key)) (sym (nets_of-cons apps key keys))
    (All-append (λ (net : Net). P net.key) (found_net (net_among apps key)) (nets_of apps keys)
    (one (net_among apps key) refl) (All-nets_of P apps keys (All-tail P key keys all)))
  where
    one : (found : Option Net) → net_among apps key ≡ found → All (λ (net : Net). P net.key) (found_net found)
    one None there = All-nil (λ (net : Net). P net.key)
    one (Some net) there =
        All-cons (λ (n : Net). P n.key) net [] (subst P (sym (net_among-key apps key net there)) (All-head P key keys all)) (All-nil (λ (n : Net). P n.key))

-- there are no more of them than keys
pub length-nets_of : (apps : List App) (keys : List TrackKey) → length (nets_of apps keys) ≤ length keys
length-nets_of apps [] = omega arith
length-nets_of apps (key ∷ keys) =
    let whole = ap length (nets_of-cons apps key keys) ∙ length-append (found_net (net_among apps key)) (nets_of apps keys) in
    let rest = length-nets_of apps keys in
    let first = one (net_among apps key) in
    omega arith
  where
    one : (found : Option Net) → length (found_net found) ≤ 1
    one None = omega arith
    one (Some net) = omega arith

-- an item stays where it is when more come after it
slice_get-more : {A : Type 0} (xs ys : List A) (index : ℕ) (x : A) → slice_get xs index ≡ Some x → slice_get (xs ++ ys) index ≡ Some x
slice_get-more xs ys index x there =
    let within = slice_get_within xs index x there in
    slice_get-get_or (xs ++ ys) index x (let sized = length-append xs ys in omega arith)
    ∙ ap (λ y. Some y) (get_or_append_left xs ys x index within ∙ get_or_from_slice_get xs index x x there)

-- so does where the search for a key begins
pub start_of-more :
    (firsts starts more others : List ℕ) (key : TrackKey) (start : ℕ) →
    start_of firsts starts key ≡ Some start → start_of (firsts ++ more) (starts ++ others) key ≡ Some start
start_of-more firsts starts more others key start there = at (slice_get firsts key.app) refl there
  where
    at :
        (found : Option ℕ) → slice_get firsts key.app ≡ found →
        option_and_then (λ first. slice_get starts (first + key.cohort)) found ≡ Some start →
        start_of (firsts ++ more) (starts ++ others) key ≡ Some start
    at None is there = cc
    at (Some first) is there =
        ap (option_and_then (λ n. slice_get (starts ++ others) (n + key.cohort))) (slice_get-more firsts more key.app first is)
        ∙ slice_get-more starts others (first + key.cohort) start there

pub ArePlaced-more :
    (firsts starts more others : List ℕ) (nets : List Net) →
    ArePlaced firsts starts nets → ArePlaced (firsts ++ more) (starts ++ others) nets
ArePlaced-more firsts starts more others nets placed place d within =
    let is = placed place d within in
    record {
      start = is.start;
      found = start_of-more firsts starts more others (get_or nets place d).key is.start is.found;
      low = is.low;
      high = is.high;
    }

-- graphs of one cohort are added, where the search for their keys begins
pub ArePlaced-append :
    (firsts starts : List ℕ) (nets added : List Net) (app cohort : ℕ) →
    ArePlaced firsts starts nets →
    ((key : TrackKey) → IsOfCohort app cohort key → start_of firsts starts key ≡ Some (length nets)) →
    All (λ (net : Net). IsOfCohort app cohort net.key) added → length added ≤ 4 →
    ArePlaced firsts starts (nets ++ added)
ArePlaced-append firsts starts nets added app cohort placed begins own few place d within = elim (cases_lt place (length nets)) [
  | inl before ↦
      subst (λ (net : Net). IsPlaced firsts starts net.key place) (sym (get_or_append_left nets added d place before)) (placed place d before)
  | inr past ↦
      let sized = length-append nets added in
      let rest = place - length nets in
      let inside : rest < length added = omega arith in
      subst (λ (net : Net). IsPlaced firsts starts net.key place) (sym (get_or-append_right nets added place d past))
      (record { start = length nets; found = begins (get_or added rest d).key (own rest d inside); low = past; high = omega arith })
]
