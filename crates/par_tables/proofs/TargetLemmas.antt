-- The tracks that have a target, and the tables that are made for them.
use Rattle.std.proofs.Common.{◌≡◌, cond, List, [], ◌∷◌, ◌++◌, Option, None, Some, refl, sym, ap, ◌∙◌}
use Rattle.std.specs.List.{All, filter}
use Rattle.std.specs.Option.{is_some}
use Rattle.std.proofs.lemmas.List.Elements.{All-nil, filter_passes}
use Rattle.catalogue.specs.declared.content.App.{App}
use Rattle.payload_graph.specs.declared.payload.TrackKey.{TrackKey}
use Rattle.payload_graph.specs.Net.{Net, net_among}
use Rattle.price_cert.specs.Tables.{Certificate}
use Rattle.par_tables.proofs.PlaceLemmas.{found_net, nets_of-cons}
use Rattle.par_tables.specs.Marks.{marked_keys, marked_tracks, AreTablesFor, Marks}
use Rattle.par_tables.specs.Pieces.{has_target, tracks_of, HasTarget}
use Rattle.par_tables.specs.Tables.{Adds, AreTables, IsTable, nets_of}
use Rattle.par_tables.specs.Tracks.{keys_of}

-- tracks without a target have no graph, so leaving them out changes no graph
pub nets_of-targeted : (apps : List App) (keys : List TrackKey) → nets_of apps (filter (has_target apps) keys) ≡ nets_of apps keys
nets_of-targeted apps [] = refl
nets_of-targeted apps (key ∷ keys) = step (nets_of-targeted apps keys) (net_among apps key) refl
  where
    rest : List TrackKey
    rest = filter (has_target apps) keys

    step :
        nets_of apps rest ≡ nets_of apps keys →
        (found : Option Net) → net_among apps key ≡ found →
        nets_of apps (cond (is_some found) (key ∷ rest) rest) ≡ nets_of apps (key ∷ keys)
    step same None is =
        same
        ∙ ap (λ (o : Option Net). found_net o ++ nets_of apps keys) (sym is)
        ∙ sym (nets_of-cons apps key keys)
    step same (Some net) is =
        nets_of-cons apps key rest
        ∙ ap (λ (nets : List Net). found_net (net_among apps key) ++ nets) same
        ∙ sym (nets_of-cons apps key keys)

-- those that are left have one
pub All-targeted : (apps : List App) (keys : List TrackKey) → All (HasTarget apps) (filter (has_target apps) keys)
All-targeted apps keys = filter_passes (has_target apps) keys

-- the tables that were made for the tracks that have a target are all tables
pub AreTables-tracks :
    (apps : List App) (keys : List TrackKey) (tables : List Certificate) →
    keys ≡ tracks_of apps → Adds apps keys [] tables → AreTables apps tables
AreTables-tracks apps keys tables listed adds = record {
  nets = adds.nets ∙ ap (nets_of apps) listed ∙ nets_of-targeted apps (keys_of apps);
  certified = adds.certified (All-nil IsTable);
}

-- so are those of the marked cohorts
pub AreTablesFor-tracks :
    (apps : List App) (marks : Marks) (keys : List TrackKey) (tables : List Certificate) →
    keys ≡ marked_tracks apps marks → Adds apps keys [] tables → AreTablesFor apps marks tables
AreTablesFor-tracks apps marks keys tables listed adds = record {
  nets = adds.nets ∙ ap (nets_of apps) listed ∙ nets_of-targeted apps (marked_keys apps marks);
  certified = adds.certified (All-nil IsTable);
}
