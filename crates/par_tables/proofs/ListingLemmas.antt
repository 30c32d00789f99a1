-- Tables that are added for some tracks.
use Rattle.std.proofs.Common.{◌≡◌, ℕ, ◌+◌, ◌<◌, List, [], ◌∷◌, ◌++◌, get_or, length, map, take, Option, Some, sym, ap, ◌∙◌, subst}
use Rattle.std.specs.List.{All, filter_map}
use Rattle.std.proofs.lemmas.List.{append_assoc, map-append, take_more}
use Rattle.std.proofs.lemmas.List.Elements.{All-push, filter_map-append}
use Rattle.catalogue.specs.declared.content.App.{App}
use Rattle.payload_graph.specs.declared.payload.TrackKey.{TrackKey}
use Rattle.payload_graph.specs.Net.{Net, net_among}
use Rattle.price_cert.specs.Tables.{Certificate}
use Rattle.par_tables.specs.Tables.{Adds, IsTable, net_of_table, nets_of}

-- a table for a track with a target
pub Adds-one :
    (apps : List App) (key : TrackKey) (net : Net) (old new : List Certificate) (table : Certificate) →
    net_among apps key ≡ Some net → table.net ≡ net → IsTable table → new ≡ old ++ table ∷ [] →
    Adds apps (key ∷ []) old new
Adds-one apps key net old new table there own is pushed = record {
  nets =
      ap (map net_of_table) pushed
      ∙ map-append net_of_table old (table ∷ [])
      ∙ ap (λ (n : Net). map net_of_table old ++ n ∷ []) own
      ∙ ap (λ (found : Option Net). map net_of_table old ++ filter_map (λ (n : ℕ). found) (0 ∷ [])) (sym there);
  certified = λ all. subst (All IsTable) (sym pushed) (All-push IsTable old table all is);
}

-- those of some tracks, then those of others
pub Adds-both :
    (apps : List App) (keys others : List TrackKey) (old mid new : List Certificate) →
    Adds apps keys old mid → Adds apps others mid new → Adds apps (keys ++ others) old new
Adds-both apps keys others old mid new first second = record {
  nets =
      second.nets
      ∙ ap (λ (nets : List Net). nets ++ nets_of apps others) first.nets
      ∙ append_assoc (map net_of_table old) (nets_of apps keys) (nets_of apps others)
      ∙ ap (λ (nets : List Net). map net_of_table old ++ nets) (sym (filter_map-append (net_among apps) keys others));
  certified = λ all. second.certified (first.certified all);
}

-- one track more of a list
pub Adds-more :
    (apps : List App) (keys : List TrackKey) (index : ℕ) (d : TrackKey) (old mid new : List Certificate) →
    index < length keys →
    Adds apps (take index keys) old mid → Adds apps (get_or keys index d ∷ []) mid new →
    Adds apps (take (index + 1) keys) old new
Adds-more apps keys index d old mid new within first second =
    subst (λ (ks : List TrackKey). Adds apps ks old new) (sym (take_more keys index d within))
    (Adds-both apps (take index keys) (get_or keys index d ∷ []) old mid new first second)
