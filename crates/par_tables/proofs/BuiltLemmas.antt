-- The built tables, one for each track of a marked cohort in turn.
use Rattle.std.proofs.Common.{◌≡◌, ℕ, zero, suc, ◌+◌, ◌<◌, Bool, true, false, cond, List, [], ◌∷◌, ◌++◌, drop, get_or, length, map, take, Option, None, Some, refl, sym, ap, ◌∙◌, subst, arith}
use Rattle.std.specs.List.{All, filter}
use Rattle.std.specs.Option.{is_some}
use Rattle.std.proofs.Math.Seq.{get_or-append_seam}
use Rattle.std.proofs.lemmas.List.{append_assoc, get_or-map, length-append, length-map, take-append-drop, take_more}
use Rattle.std.proofs.lemmas.List.Elements.{All-filter, All-head, All-tail, filter-append}
use Rattle.catalogue.specs.declared.content.App.{App}
use Rattle.payload_graph.specs.declared.payload.TrackKey.{TrackKey}
use Rattle.payload_graph.specs.Net.{Net, net_among}
use Rattle.price_cert.specs.Tables.{Certificate}
use Rattle.par_tables.proofs.PlaceLemmas.{found_net, nets_of-cons}
use Rattle.par_tables.proofs.TargetLemmas.{nets_of-targeted}
use Rattle.par_tables.specs.Marks.{is_marked, AreTablesFor, IsNext, IsTableOf, Marks}
use Rattle.par_tables.specs.Pieces.{has_target, tracks_of, HasTarget}
use Rattle.par_tables.specs.Tables.{net_of_table, nets_of}
use Rattle.par_tables.specs.Tracks.{keys_of}

-- two tests in either order
filter-swap : {X : Type 0} (p q : X → Bool) (xs : List X) → filter p (filter q xs) ≡ filter q (filter p xs)
filter-swap p q [] = refl
filter-swap {X} p q (x ∷ xs) = step (p x) refl (q x) refl (filter-swap p q xs)
  where
    step :
        (a : Bool) → p x ≡ a → (b : Bool) → q x ≡ b → filter p (filter q xs) ≡ filter q (filter p xs) →
        filter p (cond b (x ∷ filter q xs) (filter q xs)) ≡ filter q (cond a (x ∷ filter p xs) (filter p xs))
    step true one true two same =
        ap (λ c. cond c (x ∷ filter p (filter q xs)) (filter p (filter q xs))) one
        ∙ ap (λ (ys : List X). x ∷ ys) same
        ∙ sym (ap (λ c. cond c (x ∷ filter q (filter p xs)) (filter q (filter p xs))) two)
    step true one false two same = same ∙ sym (ap (λ c. cond c (x ∷ filter q (filter p xs)) (filter q (filter p xs))) two)
    step false one true two same = ap (λ c. cond c (x ∷ filter p (filter q xs)) (filter p (filter q xs))) one ∙ same
    step false one false two same = same

-- the graph of the first track
record StartsWith (apps : List App) (key : TrackKey) (keys : List TrackKey) : Type 0 where
  net : Net
  own : net_among apps key ≡ Some net
  all : nets_of apps (key ∷ keys) ≡ net ∷ nets_of apps keys

starts_with : (apps : List App) (key : TrackKey) (keys : List TrackKey) → HasTarget apps key → StartsWith apps key keys
starts_with apps key keys has = cases (net_among apps key) refl has
  where
    cases : (found : Option Net) → net_among apps key ≡ found → is_some found ≡ true → StartsWith apps key keys
    cases None there none = absurd cc
    cases (Some net) there some = record {
      net = net;
      own = there;
      all = nets_of-cons apps key keys ∙ ap (λ (found : Option Net). found_net found ++ nets_of apps keys) there;
    }

-- tracks that have a target have a graph each, in order
length-targeted : (apps : List App) (keys : List TrackKey) → All (HasTarget apps) keys → length (nets_of apps keys) ≡ length keys
length-targeted apps [] all = refl
length-targeted apps (key ∷ keys) all =
    let first = starts_with apps key keys (All-head (HasTarget apps) key keys all) in
    ap length first.all ∙ ap (λ n. suc n) (length-targeted apps keys (All-tail (HasTarget apps) key keys all))

net_at :
    (apps : List App) (keys : List TrackKey) (index : ℕ) (d : TrackKey) (e : Net) → All (HasTarget apps) keys → index < length keys →
    net_among apps (get_or keys index d) ≡ Some (get_or (nets_of apps keys) index e)
net_at apps [] index d e all within = absurd (omega arith)
net_at apps (key ∷ keys) zero d e all within =
    let first = starts_with apps key keys (All-head (HasTarget apps) key keys all) in
    first.own ∙ ap (λ (nets : List Net). Some (get_or nets 0 e)) (sym first.all)
net_at apps (key ∷ keys) (suc index) d e all within =
    let first = starts_with apps key keys (All-head (HasTarget apps) key keys all) in
    net_at apps keys index d e (All-tail (HasTarget apps) key keys all) (omega arith)
    ∙ ap (λ (nets : List Net). Some (get_or nets (suc index) e)) (sym first.all)

-- an item that passes a test is among those that pass after those before it that do
record IsChosen {X : Type 0} (p : X → Bool) (xs : List X) (index : ℕ) (d : X) : Type 0 where
  within : length (filter p (take index xs)) < length (filter p xs)
  at : get_or (filter p xs) (length (filter p (take index xs))) d ≡ get_or xs index d

is_chosen : {X : Type 0} (p : X → Bool) (xs : List X) (index : ℕ) (d : X) → index < length xs → p (get_or xs index d) ≡ true → IsChosen p xs index d
is_chosen {X} p xs index d within passes =
    let x = get_or xs index d in
    let before = filter p (take index xs) in
    let after = filter p (drop (index + 1) xs) in
    let split : filter p xs ≡ before ++ x ∷ after =
    ap (filter p) (sym (take-append-drop (index + 1) xs) ∙ ap (λ (ys : List X). ys ++ drop (index + 1) xs) (take_more xs index d within) ∙ append_assoc (take index xs) (x ∷ []) (drop (index + 1) xs))
    ∙ filter-append p (take index xs) (x ∷ drop (index + 1) xs)
    ∙ ap (λ b. before ++ cond b (x ∷ after) after) passes in
    let count = ap length split in
    let sized = length-append before (x ∷ after) in
    record {
      within = omega arith;
      at = ap (λ (ys : List X). get_or ys (length before) d) split ∙ get_or-append_seam before x after d;
    }

-- the built tables are those of the marked tracks that have a target
built_nets :
    (apps : List App) (marks : Marks) (built : List Certificate) → AreTablesFor apps marks built →
    map net_of_table built ≡ nets_of apps (filter (is_marked marks) (tracks_of apps))
built_nets apps marks built are =
    are.nets
    ∙ sym (nets_of-targeted apps (filter (is_marked marks) (keys_of apps)))
    ∙ ap (nets_of apps) (filter-swap (has_target apps) (is_marked marks) (keys_of apps))

-- the next one is that of the next marked track
pub IsNext-built :
    (apps : List App) (marks : Marks) (keys : List TrackKey) (built : List Certificate) (index next : ℕ) (d : TrackKey) →
    AreTablesFor apps marks built → keys ≡ tracks_of apps → All (HasTarget apps) keys → index < length keys →
    next ≡ length (filter (is_marked marks) (take index keys)) →
    IsNext apps marks built next (get_or keys index d)
IsNext-built apps marks keys built index next d are listed all within counted marked = (below, table_at)
  where
    chosen : List TrackKey
    chosen = filter (is_marked marks) keys

    at : IsChosen (is_marked marks) keys index d
    at = is_chosen (is_marked marks) keys index d within marked

    targets : All (HasTarget apps) chosen
    targets = All-filter (is_marked marks) (HasTarget apps) keys all

    nets : map net_of_table built ≡ nets_of apps chosen
    nets = built_nets apps marks built are ∙ ap (λ (ks : List TrackKey). nets_of apps (filter (is_marked marks) ks)) (sym listed)

    inside : next < length chosen
    inside = subst (λ n. n < length chosen) (sym counted) at.within

    below : next < length built
    below =
        let sized = length-map built net_of_table in
        let same = ap length nets in
        let count = length-targeted apps chosen targets in
        let low = inside in
        omega arith

    table_at : (table : Certificate) → IsTableOf apps (get_or keys index d) (get_or built next table)
    table_at table = record {
      own =
          ap (net_among apps) (sym (ap (λ n. get_or chosen n d) counted ∙ at.at))
          ∙ net_at apps chosen next d (net_of_table table) targets inside
          ∙ ap (λ (ns : List Net). Some (get_or ns next (net_of_table table))) (sym nets)
          ∙ ap (λ (n : Net). Some n) (get_or-map net_of_table built next table (net_of_table table) below);
      is = are.certified next table below;
    }

-- how many of the first tracks are marked, with one more
pub length-marked_more :
    (marks : Marks) (keys : List TrackKey) (index : ℕ) (d : TrackKey) → index < length keys →
    length (filter (is_marked marks) (take (index + 1) keys))
    ≡ length (filter (is_marked marks) (take index keys)) + cond (is_marked marks (get_or keys index d)) 1 0
length-marked_more marks keys index d within =
    ap (λ (ks : List TrackKey). length (filter (is_marked marks) ks)) (take_more keys index d within)
    ∙ ap length (filter-append (is_marked marks) (take index keys) (get_or keys index d ∷ []))
    ∙ length-append (filter (is_marked marks) (take index keys)) (filter (is_marked marks) (get_or keys index d ∷ []))
    ∙ ap (λ n. length (filter (is_marked marks) (take index keys)) + n) (one (is_marked marks (get_or keys index d)))
  where
    one : (b : Bool) → length (cond b (get_or keys index d ∷ []) []) ≡ cond b 1 0
    one true = refl
    one false = refl
