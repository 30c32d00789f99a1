-- How many tables tracks have.
use Rattle.std.proofs.Common.{◌≡◌, ℕ, ◌+◌, ◌<◌, cond, List, [], ◌∷◌, ◌++◌, get_or, length, take, Option, None, Some, refl, ap, ◌∙◌}
use Rattle.std.specs.Option.{is_some}
use Rattle.std.proofs.lemmas.List.{length-append, take_more}
use Rattle.std.proofs.lemmas.List.Elements.{filter_map-append}
use Rattle.catalogue.specs.declared.content.App.{App}
use Rattle.payload_graph.specs.declared.payload.TrackKey.{TrackKey}
use Rattle.payload_graph.specs.Net.{Net, net_among}
use Rattle.par_tables.proofs.PlaceLemmas.{found_net, nets_of-cons}
use Rattle.par_tables.specs.Pieces.{has_target}
use Rattle.par_tables.specs.Tables.{nets_of}

-- a track has one table, if it has a target
pub length_one : (apps : List App) (key : TrackKey) → length (nets_of apps (key ∷ [])) ≡ cond (has_target apps key) 1 0
length_one apps key = ap (λ (nets : List Net). length nets) (nets_of-cons apps key []) ∙ cases (net_among apps key)
  where
    cases : (found : Option Net) → length (found_net found ++ nets_of apps []) ≡ cond (is_some found) 1 0
    cases None = refl
    cases (Some net) = refl

-- the tables of one track more of a list
pub length_more :
    (apps : List App) (keys : List TrackKey) (index : ℕ) (d : TrackKey) → index < length keys →
    length (nets_of apps (take (index + 1) keys)) ≡ length (nets_of apps (take index keys)) + length (nets_of apps (get_or keys index d ∷ []))
length_more apps keys index d within =
    ap (λ (ks : List TrackKey). length (nets_of apps ks)) (take_more keys index d within)
    ∙ ap (λ (nets : List Net). length nets) (filter_map-append (net_among apps) (take index keys) (get_or keys index d ∷ []))
    ∙ length-append (nets_of apps (take index keys)) (nets_of apps (get_or keys index d ∷ []))
