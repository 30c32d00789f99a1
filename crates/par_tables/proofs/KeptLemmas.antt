-- The table of a track whose graph has the same source in two contents.
use Rattle.std.proofs.Common.{◌≡◌, List, Option, None, Some, Contains, true, refl, sym, ap, ◌∙◌}
use Rattle.std.specs.List.{All}
use Rattle.std.specs.Option.{is_some, IsSome, MatchOption}
use Rattle.std.proofs.lemmas.List.Elements.{All-contains}
use Rattle.catalogue.specs.declared.content.App.{App}
use Rattle.payload_graph.specs.declared.payload.TrackKey.{TrackKey}
use Rattle.payload_graph.specs.Net.{Net, net_among}
use Rattle.price_cert.specs.Tables.{Certificate}
use Rattle.par_tables.proofs.PlaceLemmas.{net_among-key}
use Rattle.par_tables.proofs.SourceLemmas.{net_among-source}
use Rattle.par_tables.specs.Marks.{IsTableOf, IsTrack}
use Rattle.par_tables.specs.Places.{HasOtherKey}
use Rattle.par_tables.specs.Sources.{source_at}
use Rattle.par_tables.specs.Tables.{AreTables, IsTable, TablesAreOfTracks, TracksHaveTables}

-- a table before is that of its key's track in the other content
pub kept_table :
    TablesAreOfTracks → (apps made : List App) (tables : List Certificate) (key : TrackKey) (table : Certificate) →
    AreTables apps tables → source_at made key.app key.cohort ≡ source_at apps key.app key.cohort →
    Contains tables table → table.net.key ≡ key → IsTableOf made key table
kept_table law apps made tables key table are same inside own = record {
  own =
      net_among-source apps made key same
      ∙ ap (net_among apps) (sym own)
      ∙ All-contains (λ (t : Certificate). net_among apps t.net.key ≡ Some t.net) tables table (law apps tables are) inside;
  is = All-contains IsTable tables table are.certified inside;
}

-- and there is one
pub no_kept_table :
    TracksHaveTables → (apps made : List App) (tables : List Certificate) (key : TrackKey) →
    AreTables apps tables → source_at made key.app key.cohort ≡ source_at apps key.app key.cohort → IsTrack made key →
    All (HasOtherKey key) tables → ⊥
no_kept_table law apps made tables key are same track others = cases (net_among made key) refl track.target
  where
    cases : (found : Option Net) → net_among made key ≡ found → is_some found ≡ true → ⊥
    cases None there none = absurd cc
    cases (Some net) there some =
        let before : net_among apps key ≡ Some net = sym (net_among-source apps made key same) ∙ there in
        let found = law apps tables key net are before (track.rollback net there) track.pin in
        let other = All-contains (HasOtherKey key) tables found.1 others (found.0, found.2, found.3) in
        other (ap (λ (n : Net). n.key) found.4 ∙ net_among-key apps key net before)

-- what can't be missing is found
pub IsSome-match : {A : Type 0} (found : Option A) (P : Type 0) (Q : A → Type 0) → MatchOption found P Q → (P → ⊥) → IsSome found
IsSome-match None P Q none never = absurd (never none)
IsSome-match (Some x) P Q some never = refl
